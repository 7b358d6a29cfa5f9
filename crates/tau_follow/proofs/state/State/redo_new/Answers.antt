-- What is ready is applied, and redone.
use Rattle.std.proofs.Common.{sym, ap, subst, List, arith, ◌∙◌}
use Rattle.tau_base.specs.Database.{Db}
use Rattle.tau_base.specs.declared.value.Key.{Key}
use Rattle.tau_base.specs.declared.value.Value.{Value}
use Rattle.tau_model.specs.Store.{database}
use Rattle.tau_model.specs.Tables.{IsTablesOf}
use Rattle.tau_record.specs.declared.entry.Placed.{Placed}
use Rattle.tau_follow_laws.proofs.Order.{applies_is}
use Rattle.tau_follow.specs.declared.spot.Spot.{Spot}
use Rattle.tau_follow.specs.Applying.{AreSpots, redone_of}
use Rattle.tau_follow.specs.Renewing.{after}
use Rattle.tau_follow.specs.Holding.{HasApplied, HasFollowed, IsTold, WasTold}
use Rattle.tau_follow.proofs.Continuing.{redone_before, all_there}
use Rattle.tau_follow.proofs.Redoing.{redone_all}
use Rattle.tau_follow.proofs.state.State.redo_new.Goals as goal

pub returns-in-Ok-renew_rows-clause-ok : goal.returns-in-Ok-renew_rows-clause-ok
returns-in-Ok-renew_rows-clause-ok c = λ s d was within store rows.
    (let lent = sym c.as_slice.ensures.value in
    let d_lent = subst (λ (l : List (List Placed)). HasApplied l s c.args.self.now.applier) lent d in
    let was_lent = subst (λ (l : List (List Placed)). WasTold c.args.stream l c.args.self.now.applier) lent was in
    let g = c.in-Ok.ensures.ok s d_lent was_lent in
    let followed = subst (λ (l : List (List Placed)). HasFollowed l s c.follow.new.self) c.as_slice.ensures.value g in
    let t = followed.done.now in
    let before = redone_before c.args.self.now.declarations.procs s t followed.done.news c.args.self.now.done _ (applies_is s t followed.done.news followed.done.applies).2 within store in
    let holds = followed.done.holds in
    let spots = subst (λ (l : List (List Placed)). AreSpots l c.follow.new.self.order.items t.order) (sym holds.streams_are) holds.spots in
    let spots_lent = subst (λ (l : List Spot). AreSpots c.as_slice-2.result.now l t.order) (sym c.as_slice-3.ensures.value) (subst (λ (l : List (List Placed)). AreSpots l c.follow.new.self.order.items t.order) (sym c.as_slice-2.ensures.value) spots) in
    let all = c.in-Ok-redo_from.ensures.ok t.order spots_lent before.0 before.1 in
    record {
      told = subst (λ (l : List (List Placed)). IsTold l c.follow.new.self) c.as_slice.ensures.value (c.in-Ok.ensures.told s d_lent was_lent);
      followed = followed;
      redone = redone_all c.args.self.now.declarations.procs t c.args.self.now.streams.items c.follow.new.self.order.items _ _ _ spots (omega (arith, c.len-self.ensures)) all
          (c.in-Ok-renew_rows.ensures.ok (database c.args.self.now.store)
          (λ stood. subst (λ (db : Db). IsTablesOf db c.args.self.now.tables) (sym (store ∙ ap (redone_of c.args.self.now.declarations.procs) (all_there c.args.self.now.streams.items s c.args.self.now.applier c.args.self.now.done d within (let same = c.is_same-stood.ensures stood in omega (arith, same, c.len.ensures))))) rows)
          (c.in-Ok-redo_from.ensures.noted (database c.args.self.now.store) (ap (λ (l : List (Key × Value)). after l (database c.args.self.now.store)) (sym c.clear.ensures.items))
          ∙ ap (λ (l : List (Key × Value)). after l (database c.args.self.now.store)) (sym c.as_slice-4.ensures.value)));
    })

pub returns-in-Err-clause-applied : goal.returns-in-Err-clause-applied
returns-in-Err-clause-applied c = λ s d was. subst (λ (l : List (List Placed)). HasApplied l s c.follow.new.self) c.as_slice.ensures.value (c.in-Err.ensures.applied s (subst (λ (l : List (List Placed)). HasApplied l s c.args.self.now.applier) (sym c.as_slice.ensures.value) d) (subst (λ (l : List (List Placed)). WasTold c.args.stream l c.args.self.now.applier) (sym c.as_slice.ensures.value) was))

pub returns-in-Err-redo_from-clause-applied : goal.returns-in-Err-redo_from-clause-applied
returns-in-Err-redo_from-clause-applied c = λ s d was. subst (λ (l : List (List Placed)). HasApplied l s c.follow.new.self) c.as_slice.ensures.value (c.in-Ok.ensures.applied s (subst (λ (l : List (List Placed)). HasApplied l s c.args.self.now.applier) (sym c.as_slice.ensures.value) d) (subst (λ (l : List (List Placed)). WasTold c.args.stream l c.args.self.now.applier) (sym c.as_slice.ensures.value) was))

pub returns-in-Ok-renew_rows-clause-applied : goal.returns-in-Ok-renew_rows-clause-applied
returns-in-Ok-renew_rows-clause-applied c = λ s d was. subst (λ (l : List (List Placed)). HasApplied l s c.follow.new.self) c.as_slice.ensures.value (c.in-Ok.ensures.applied s (subst (λ (l : List (List Placed)). HasApplied l s c.args.self.now.applier) (sym c.as_slice.ensures.value) d) (subst (λ (l : List (List Placed)). WasTold c.args.stream l c.args.self.now.applier) (sym c.as_slice.ensures.value) was))

pub returns-in-Err-renew_rows-clause-applied : goal.returns-in-Err-renew_rows-clause-applied
returns-in-Err-renew_rows-clause-applied c = λ s d was. subst (λ (l : List (List Placed)). HasApplied l s c.follow.new.self) c.as_slice.ensures.value (c.in-Ok.ensures.applied s (subst (λ (l : List (List Placed)). HasApplied l s c.args.self.now.applier) (sym c.as_slice.ensures.value) d) (subst (λ (l : List (List Placed)). WasTold c.args.stream l c.args.self.now.applier) (sym c.as_slice.ensures.value) was))
