-- One more call is within, and in the end all are.
use Rattle.std.proofs.Common.{refl, subst, arith, ◌<◌, ◌≤◌, List, length}
use Rattle.std.specs.Prelude.{Option}
use Rattle.std.specs.List.{All}
use Rattle.std.proofs.lemmas.List.{take_all}
use Rattle.std.proofs.lemmas.List.Elements.{All-more}
use Rattle.tau_model.specs.declared.committed.Committed.{Committed}
use Rattle.tau_model.specs.declared.committed.Spot.{Spot}
use Rattle.tau_model.specs.Committed.{IsSpotWithin, IsWithin}
use Rattle.tau_model.proofs.report.are_within.Goals as goal

pub loop-i-preserved : goal.loop-i-preserved
loop-i-preserved c =
    let below : c.loop-i.i < length c.args.list.now.items = let t = c.loop-i-test.true in let e = c.len-i-end.ensures in omega (arith, t, e) in
    All-more (IsWithin c.args.ends.now) c.args.list.now.items c.loop-i.i c.at-call.result below c.loop-i.invariant
    (subst (λ (call : Committed). IsWithin c.args.ends.now call) c.at-call.ensures.is
    (subst (λ (spot : Option Spot). IsSpotWithin c.args.ends.now spot) c.spot.ensures (c.is_within.ensures.0 c.if-not-is_within.false)))

pub returns : goal.returns
returns c =
    let all : length c.args.list.now.items ≤ c.loop-i.i = let t = c.loop-i-test.false in let e = c.len-i-end.ensures in omega (arith, t, e) in
    (λ t. subst (λ (list : List Committed). All (IsWithin c.args.ends.now) list) (take_all c.loop-i.i c.args.list.now.items all) c.loop-i.invariant, λ all. refl)
