use Rattle.std.proofs.Common.{ℕ, ◌≡◌, ◌<◌, ◌+◌, List, length, refl, subst, sym, ap, ◌∙◌, arith}
use Rattle.std.specs.Prelude.{Some, slice_get}
use Rattle.std.proofs.lemmas.Option.{slice_get_read, slice_get_within}
use Rattle.tau_open.specs.declared.start.StreamStart.{StreamStart}
use Rattle.tau_open.specs.Reopening.{started}
use Rattle.tau_begin.proofs.Ending.{Filled, filled_more, filled_is, set_long}
use Rattle.tau_begin.proofs.opening.ends_of.Goals as goal

pub end_of-requires : goal.end_of-requires
end_of-requires c =
    let here : slice_get c.args.starts.now c.loop-j.j ≡ Some c.index-starts-j.result = slice_get_read c.args.starts.now (length c.args.starts.now) c.loop-j.j c.index-starts-j.result refl c.loop-j-test.true c.index-starts-j.is in
    let sound = c.requires.sound c.loop-j.j c.index-starts-j.result here in
    (omega (arith, sound.small.0, sound.small.1), omega (arith, sound.body.0.most))

pub loop-j-preserved : goal.loop-j-preserved
loop-j-preserved c =
    let here : slice_get c.args.starts.now c.loop-j.j ≡ Some c.index-starts-j.result = slice_get_read c.args.starts.now (length c.args.starts.now) c.loop-j.j c.index-starts-j.result refl c.loop-j-test.true c.index-starts-j.is in
    let f = λ (p : StreamStart). length (started p) in (
      subst (λ (vs : List ℕ). Filled f c.args.starts.now (c.loop-j.j + 1) vs) (sym c.set.ensures)
          (filled_more f c.args.starts.now c.loop-j.j c.loop-j.ends c.index-starts-j.result c.end_of.result c.loop-j.invariant.0 here (omega (arith, c.loop-j-test.true, c.loop-j.invariant.1)) c.end_of.ensures.same),
      ap (λ (vs : List ℕ). length vs) c.set.ensures ∙ set_long c.loop-j.ends c.loop-j.j c.end_of.result ∙ c.loop-j.invariant.1,
    )

pub returns : goal.returns
returns c = filled_is (λ (p : StreamStart). length (started p)) c.args.starts.now c.loop-j.ends
    (λ i p at. let low : i < length c.args.starts.now = slice_get_within c.args.starts.now i p at in c.loop-j.invariant.0 i p (omega (arith, low, c.loop-j-test.false)) at) c.loop-j.invariant.1
