use Rattle.std.proofs.Common.{ℕ, ◌++◌, List, length, ap, ◌∙◌, arith}
use Rattle.tau_stream.specs.Writer.{left_of}
use Rattle.tau_step.proofs.Handing.{bytes_count, may_reach, handed, loaded}
use Rattle.tau_step.proofs.manager.hand_over.Goals as goal

pub add-requires : goal.add-requires
add-requires g c =
    let (catalogue, K, h, stands, size, l) = c.requires.filled in
    let o = c.swap_body.ensures K h stands in
    let count = bytes_count c.args.stream catalogue c.args.upto c.args.writer.now c.args.core.now c.swap_body.new.self K h c.swap_body.new.bytes.items c.requires.there l o in
    let none = ap (length {A = ℕ}) l.left in
    let counted = c.args.writer.now.counted in
    let same = ap (length {A = ℕ}) c.deref.ensures.value in
    omega (arith, count, none, counted, same, l.durable, c.if-upto-ge-END_OF_POSITIONS.false)

pub prepare-requires : goal.prepare-requires
prepare-requires g c =
    let (catalogue, K, h, stands, size, l) = c.requires.filled in
    let o = c.swap_body.ensures K h stands in
    may_reach c.args.stream catalogue c.args.upto c.args.writer.now c.args.core.now c.swap_body.new.self K h c.swap_body.new.bytes.items c.requires.there l o
    c.add.new.self c.in-Ok.ensures.durable (c.in-Ok.ensures.left ∙ ap (λ (b : List ℕ). left_of c.args.writer.now ++ b) c.deref.ensures.value)

pub returns-then-upto-ge-END_OF_POSITIONS-clause-over : goal.returns-then-upto-ge-END_OF_POSITIONS-clause-over
returns-then-upto-ge-END_OF_POSITIONS-clause-over g c = λ catalogue K h stands size l.
    handed c.args.stream catalogue c.args.upto c.args.writer.now c.args.core.now c.swap_body.new.self K h c.swap_body.new.bytes.items c.requires.there l (c.swap_body.ensures K h stands)

pub returns-in_default-clause-over : goal.returns-in_default-clause-over
returns-in_default-clause-over g c = λ catalogue K h stands size l.
    handed c.args.stream catalogue c.args.upto c.args.writer.now c.args.core.now c.swap_body.new.self K h c.swap_body.new.bytes.items c.requires.there l (c.swap_body.ensures K h stands)

pub returns-in_default-prepare-clause-over : goal.returns-in_default-prepare-clause-over
returns-in_default-prepare-clause-over g c = λ catalogue K h stands size l.
    handed c.args.stream catalogue c.args.upto c.args.writer.now c.args.core.now c.swap_body.new.self K h c.swap_body.new.bytes.items c.requires.there l (c.swap_body.ensures K h stands)

pub returns-clause-over : goal.returns-clause-over
returns-clause-over g c = λ catalogue K h stands size l.
    let o = c.swap_body.ensures K h stands in (
      handed c.args.stream catalogue c.args.upto c.args.writer.now c.args.core.now c.swap_body.new.self K h c.swap_body.new.bytes.items c.requires.there l o,
      loaded c.args.stream catalogue c.args.upto c.args.writer.now c.args.core.now c.swap_body.new.self K h c.swap_body.new.bytes.items c.requires.there l o
          c.prepare.new.self (c.prepare.ensures.durable ∙ c.in-Ok.ensures.durable) (c.prepare.ensures.left ∙ c.in-Ok.ensures.left ∙ ap (λ (b : List ℕ). left_of c.args.writer.now ++ b) c.deref.ensures.value)
          (c.prepare.ensures.works ∙ c.in-Ok.ensures.works) (λ f n i content r. c.prepare.ensures.ready f n i content (c.in-Ok.ensures.ready f n i content r)),
    )
