-- One more is looked at.
use Rattle.std.proofs.Common.{subst, sym, List}
use Rattle.std.specs.List.{Contains}
use Rattle.tau_follow.specs.declared.spot.Spot.{Spot}
use Rattle.tau_follow.proofs.Queued.{looks_kept, looks_one}
use Rattle.tau_follow.proofs.waits.look_from.Goals as goal

pub loop-index-preserved : goal.loop-index-preserved
loop-index-preserved c = record {
  kept = λ x k. looks_kept c.loop-index.looked.items _ (record { stream = c.args.stream; index = c.loop-index.index }) x c.in-Ok.ensures.items (c.loop-index.invariant.kept x k);
  added = λ i le lt. looks_one c.loop-index.looked.items _ c.args.stream c.loop-index.index i c.in-Ok.ensures.items (λ before. c.loop-index.invariant.added i le before) lt;
}

pub returns-in-Err-clause-kept : goal.returns-in-Err-clause-kept
returns-in-Err-clause-kept c = λ x k. subst (λ (l : List Spot). Contains l x) (sym c.in-Err.ensures.items) (c.loop-index.invariant.kept x k)
