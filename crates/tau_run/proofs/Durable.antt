-- What a call waits for is persisted, or ends where the record of a call does.
use Rattle.std.proofs.Common.{ℕ, ◌≡◌, inl, inr, List, sym, ap, subst, ◌∙◌, arith, slice_index}
use Rattle.tau_base.specs.declared.value.LogMode.{LogMode}
use Rattle.tau_base.proofs.Logic.{below_or_not}
use Rattle.tau_model.specs.History.{Act, Member, Depends, at_once, through}
use Rattle.tau_model.proofs.Assembling.{member_mapped}
use Rattle.tau_model.proofs.Logged.{member_first}
use Rattle.tau_model.proofs.Orders.{member_reordered}
use Rattle.tau_model.proofs.Reorder.{reordered_sym}
use Rattle.tau_machine.specs.Hands.{Txn}
use Rattle.tau_machine.specs.State.{Core}
use Rattle.tau_text.specs.declared.load.Workload.{Workload}
use Rattle.tau_core.specs.declared.state.Load.{Load}
use Rattle.tau_core.specs.View.{setting_of}
use Rattle.tau_run.specs.Run.{Committed, Run, told_of}
use Rattle.tau_run.specs.RecoveredFacts.{WaitsWithin}
use Rattle.tau_run.specs.CoreRun.{IsCourse, IsRunOf}
use Rattle.tau_run.proofs.Lists.{map_member}
use Rattle.tau_run.proofs.Order.{history, once, there}

depended : {C : Type 0} (acts : List (Act C)) (t u : Act C) → Depends acts t u → Member u acts
depended acts t u (at_once b c) = member_first u t acts b
depended acts t u (through {v = v} d e) = depended acts v u e

module _ (n m : ℕ) (mode : LogMode) (load : Workload) (l : Load) (K : List (Act Txn)) (s : Core) (run : Run) (c : IsCourse n m mode load run.start l K s) (is : IsRunOf n l K s load run) where
  pub durable_waits : WaitsWithin s.plv run
  durable_waits d q j =
      let H : List (Act Txn) = history (setting_of l) K s c.inv in
      let w = member_mapped told_of d H (subst (Member d) is.calls q) in
      let t : Act Txn = w.0 in
      let order = c.inv.agrees.good.good.order in
      let known : slice_index t.call.place.dep j ≡ slice_index d.place.dep j = ap (λ (x : Committed). slice_index x.place.dep j) w.2 in
      elim (below_or_not (slice_index s.plv j) (slice_index t.call.place.dep j)) [
        | inl lt ↦
            let b = order.light t (there (setting_of l) K s c.inv t w.1) j lt in
            let listed : Member b.last H = member_reordered H K (reordered_sym K H (once (setting_of l) K s c.inv)) b.last (depended K t b.last b.how) in
            inr (told_of b.last, subst (Member (told_of b.last)) (sym is.calls) (map_member told_of b.last H listed), b.up, b.stream, b.past ∙ known)
        | inr le ↦ inl (omega (arith, le, known))
      ]
