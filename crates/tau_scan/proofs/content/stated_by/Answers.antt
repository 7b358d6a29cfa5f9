-- The next image states no format, or it is the lowest that does.
use Rattle.std.proofs.Common.{◌≡◌, Some, None, sym, ◌∙◌, arith, rules}
use Rattle.tau_block.specs.Image.{stated_in}
use Rattle.tau_scan.proofs.Asked.{stated_here, unstated_here, none_stated}
use Rattle.tau_scan.proofs.Streams.{read_as}
use Rattle.tau_scan.proofs.content.stated_by.Goals as goal

pub returns-in-Some : goal.returns-in-Some
returns-in-Some c =
    let states : stated_in c.as_slice.result.now ≡ Some c.in-Some.format = search rules in
    sym (c.loop-image.invariant ∙ stated_here c.args.images.now c.loop-image.image-index c.as_slice.result.now c.in-Some.format
    (read_as c.args.images.now c.loop-image.image-index c.image-item.result c.as_slice.result.now c.loop-image-test.true c.image-item.is c.as_slice.ensures) states)

pub loop-image-preserved : goal.loop-image-preserved
loop-image-preserved c =
    let none : stated_in c.as_slice.result.now ≡ None = search rules in
    c.loop-image.invariant ∙ unstated_here c.args.images.now c.loop-image.image-index c.as_slice.result.now
    (read_as c.args.images.now c.loop-image.image-index c.image-item.result c.as_slice.result.now c.loop-image-test.true c.image-item.is c.as_slice.ensures) none

pub returns : goal.returns
returns c = sym (c.loop-image.invariant ∙ none_stated c.args.images.now c.loop-image.image-index (omega (arith, c.loop-image-test.false)))
