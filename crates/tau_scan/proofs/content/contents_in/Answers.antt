-- One more content, or the first cause.
use Rattle.std.proofs.Common.{ℕ, List, length, arith, Result, subst, sym, ◌+◌, ◌∙◌}
use Rattle.std.proofs.lemmas.Result.{err_from_is_err_and}
use Rattle.tau_base.specs.declared.format.Format.{Format}
use Rattle.tau_block.specs.declared.content.Content.{Content}
use Rattle.tau_block.specs.Image.{image_of}
use Rattle.tau_scan.specs.declared.fault.LogFault.{LogFault}
use Rattle.tau_scan.specs.Contents.{bytes_in}
use Rattle.tau_scan.specs.Reading.{opened, contents_of}
use Rattle.tau_scan.proofs.Contents.{Each, each_on, bytes_more, count_of}
use Rattle.tau_scan.proofs.Streams.{IsGoing, read_as, going_lost, going_last}
use Rattle.tau_scan.proofs.content.contents_in.Goals as goal

abbrev opens : Format → ℕ → ℕ → List ℕ → Result (List ℕ) LogFault
opens f n j image = opened f n j (image_of j image)

pub returns-in_err-content-clause-same : goal.returns-in_err-content-clause-same
unfolding contents_of
returns-in_err-content-clause-same c =
    let p = err_from_is_err_and c.from_residual.result c.from_residual.ensures.1 in
    rw (p.1, p.2) (going_lost (opens c.args.format (length c.args.images.now)) c.args.images.now c.loop-j.j (bytes_in c.loop-j.contents) c.as_slice.result.now c.in_err-content.field-0.0 c.loop-j.invariant.going
    (read_as c.args.images.now c.loop-j.j c.index-images-j.result c.as_slice.result.now c.loop-j-test.true c.index-images-j.is c.as_slice.ensures) c.in_err-content.ensures.found)

pub loop-j-preserved : goal.loop-j-preserved
loop-j-preserved c =
    let here = read_as c.args.images.now c.loop-j.j c.index-images-j.result c.as_slice.result.now c.loop-j-test.true c.index-images-j.is c.as_slice.ensures in
    record {
      going = subst (λ (done : List Content). IsGoing (opens c.args.format (length c.args.images.now)) c.args.images.now (c.loop-j.j + 1) (bytes_in done)) (sym c.in_ok-push.ensures.ok)
          (bytes_more (opens c.args.format (length c.args.images.now)) c.args.images.now c.loop-j.j c.loop-j.contents c.as_slice.result.now c.in_ok-content.content c.loop-j.invariant.going here c.in_ok-content.ensures.found);
      each = subst (λ (done : List Content). Each c.args.format c.args.images.now done) (sym c.in_ok-push.ensures.ok)
          (each_on c.args.format c.args.images.now c.loop-j.contents c.in_ok-content.content c.as_slice.result.now c.loop-j.j c.loop-j.invariant.each (sym (count_of c.loop-j.contents) ∙ c.loop-j.invariant.going.count) here c.in_ok-content.ensures.is);
    }

pub returns-clause-same : goal.returns-clause-same
unfolding contents_of
returns-clause-same c = going_last (opens c.args.format (length c.args.images.now)) c.args.images.now c.loop-j.j (bytes_in c.loop-j.contents) (omega (arith, c.loop-j-test.false)) c.loop-j.invariant.going

pub returns-clause-are : goal.returns-clause-are
returns-clause-are c = record {
  many = omega (arith, c.loop-j-test.false, c.loop-j.auto.j-end, c.loop-j.invariant.going.count, count_of c.loop-j.contents);
  each = c.loop-j.invariant.each;
}
