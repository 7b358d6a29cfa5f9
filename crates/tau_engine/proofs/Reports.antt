-- What a run reports at its end is the report of its history.
use Rattle.std.proofs.Common.{ℕ, ◌+◌, ◌≡◌, ◌⊎◌, inl, inr, Bool, List, [], ◌∷◌, map, length, refl, sym, ap, subst, ◌∙◌, Option}
use Rattle.std.specs.Prelude.{Some, None, ◌==◌, if◌then◌else◌}
use Rattle.std.proofs.lemmas.Bool.{cases_eq, eq-eqb, ne_eqb}
use Rattle.tau_base.specs.declared.value.Key.{Key}
use Rattle.tau_base.specs.declared.value.LogMode.{LogMode}
use Rattle.tau_base.specs.Database.{Db}
use Rattle.tau_proc.specs.declared.proc.Proc.{Proc}
use Rattle.tau_proc.specs.declared.reply.Reply.{Reply}
use Rattle.tau_model.specs.History.{Act, Member, Reordered, exec}
use Rattle.tau_model.specs.Tables.{IsTablesOf}
use Rattle.tau_model.proofs.Reorder.{reordered_itself, reordered_sym}
use Rattle.tau_model.proofs.Orders.{member_reordered}
use Rattle.tau_machine.specs.Hands.{Txn, act_in}
use Rattle.tau_machine.specs.Hands as hands
use Rattle.tau_machine.specs.State.{Core, sight}
use Rattle.tau_machine.specs.Reports.{reported, calls_of, Unheld}
use Rattle.tau_machine.proofs.Results.{reported_theorem}
use Rattle.tau_text.specs.declared.load.Workload.{Workload}
use Rattle.tau_report.specs.declared.report.Fate.{Fate}
use Rattle.tau_report.specs.declared.report.RunReport.{RunReport}
use Rattle.tau_report.specs.Report.{report_text}
use Rattle.tau_core.specs.declared.state.Load.{Load}
use Rattle.tau_core.specs.View.{setting_of}
use Rattle.tau_run.specs.Run.{Committed, Run, told_of, means, acts, below, reply_in, fate, fates, has_ack, last_db, IsReportOf}
use Rattle.tau_run.specs.CoreRun.{IsRunOf, IsCourse}
use Rattle.tau_run.proofs.CommittedTold.{act_of, number_of, Apart, one_of_number, exec_told}
use Rattle.tau_run.proofs.Order.{apart, once}
use Rattle.tau_run.proofs.History.{IsSet, is_set, acts_are}
use Rattle.tau_run.specs.Fates.{fates_by, is_told, reply_at}

-- ---- the reply of a call, in whatever order the calls stand

reply_mapped : (k : ℕ) (H : List (Act Txn)) → reply_in k (map act_of H) ≡ reply_at k H
reply_mapped k [] = refl
reply_mapped k (t ∷ H) = ap (λ (o : Option Reply). if number_of t == k then Some t.effect.reply else o) (reply_mapped k H)

abbrev Missing : ℕ → List (Act Txn) → Type 0
Missing k ts = (reply_at k ts ≡ None) × ((t : Act Txn) → Member t ts → number_of t ≡ k → ⊥)

abbrev There : ℕ → List (Act Txn) → Type 0
There k ts = (t : Act Txn) × Member t ts × (number_of t ≡ k) × (reply_at k ts ≡ Some t.effect.reply)

missed : (t : Act Txn) (ts : List (Act Txn)) (k : ℕ) → (number_of t ≡ k → ⊥) → ((v : Act Txn) → Member v ts → number_of v ≡ k → ⊥) → (u : Act Txn) → Member u (t ∷ ts) → number_of u ≡ k → ⊥
missed t ts k ne rest u (inl is) e = ne (ap number_of is ∙ e)
missed t ts k ne rest u (inr m) e = rest u m e

found : (k : ℕ) (ts : List (Act Txn)) → Missing k ts ⊎ There k ts
found k [] = inl (refl, λ t m e. absurd m)
found k (t ∷ ts) = elim (cases_eq (number_of t) k) [
  | inl e ↦ inr (t, inl refl, e, ap (λ (b : Bool). if b then Some t.effect.reply else reply_at k ts) (eq-eqb (number_of t) k e))
  | inr ne ↦
      let skip : reply_at k (t ∷ ts) ≡ reply_at k ts = ap (λ (b : Bool). if b then Some t.effect.reply else reply_at k ts) (ne_eqb (number_of t) k ne) in
      elim (found k ts) [
        | inl none ↦ inl (skip ∙ none.0, missed t ts k ne none.1)
        | inr some ↦ inr (some.0, inr some.1, some.2, skip ∙ some.3)
      ]
]

reply_same : (k : ℕ) (K H : List (Act Txn)) → Apart K → Reordered K H → reply_at k K ≡ reply_at k H
reply_same k K H one r = elim (found k K) [
  | inl none ↦ elim (found k H) [
    | inl also ↦ none.0 ∙ sym also.0
    | inr some ↦ absurd (none.1 some.0 (member_reordered K H r some.0 some.1) some.2)
  ]
  | inr some ↦ elim (found k H) [
    | inl none ↦ absurd (none.1 some.0 (member_reordered H K (reordered_sym K H r) some.0 some.1) some.2)
    | inr also ↦
        let same : some.0 ≡ also.0 = one_of_number K one some.0 also.0 some.1 (member_reordered K H r also.0 also.1) (some.2 ∙ sym also.2) in
        some.3 ∙ ap (λ (t : Act Txn). Some t.effect.reply) same ∙ sym also.3
  ]
]

numbers_same : (H : List (Act Txn)) → map (λ (t : Act Txn). t.call.call.number) H ≡ map (λ (c : Committed). c.number) (map told_of H)
numbers_same [] = refl
numbers_same (t ∷ H) = ap (λ (l : List ℕ). t.call.call.number ∷ l) (numbers_same H)

module _ (n m : ℕ) (mode : LogMode) (load : Workload) (l : Load) (K : List (Act Txn)) (s : Core) (run : Run) (c : IsCourse n m mode load run.start l K s) (is : IsRunOf n l K s load run) where
  abbrev at : IsSet n m load run.start (setting_of l)
  at = is_set n m mode load run.start l c.begins.count c.load_is

  replies_are : (k : ℕ) → reply_at k K ≡ reply_in k (acts load.declarations.procs run)
  replies_are k =
      reply_same k K (reported s.ends K) (apart (setting_of l) K s c.inv) (once (setting_of l) K s c.inv)
      ∙ sym (reply_mapped k (reported s.ends K))
      ∙ ap (reply_in k) (sym (acts_are (setting_of l) K s c.inv n m load run at is.calls))

  fates_are : fates_by (length l.calls) K run.acks ≡ fates load run
  fates_are =
      let one : (k : ℕ) → fate (reply_at (k + 1) K) (is_told run.acks (k + 1)) ≡ fate (reply_in (k + 1) (acts load.declarations.procs run)) (has_ack run (k + 1)) =
      λ k. ap (λ (o : Option Reply). fate o (has_ack run (k + 1))) (replies_are (k + 1)) in
      ap (λ (f : ℕ → Fate). map f (below (length l.calls))) (λ i k. one k i)
      ∙ ap (λ (calls : ℕ). map (λ k. fate (reply_in (k + 1) (acts load.declarations.procs run)) (has_ack run (k + 1))) (below calls)) (ap length c.load_is.calls)

  unheld : ((w : ℕ) → (s.workers w).hand ≡ None) → (x : Key) → Unheld s x
  unheld rests x w t e held = absurd (let f : act_in None ≡ Some t = ap act_in (sym (rests w)) ∙ e in cc)

  -- the rows at the end are those of the history
  pub last_is : ((w : ℕ) → (s.workers w).hand ≡ None) → (sight (setting_of l) s).row ≡ last_db load run
  last_is rests =
      let law = reported_theorem (setting_of l) K s c.inv K (reordered_itself K) in
      let told : exec (means l.procs) (map told_of (reported s.ends K)) run.start.base ≡ exec (hands.means l.procs) (calls_of (reported s.ends K)) run.start.base = exec_told l.procs (reported s.ends K) run.start.base in
      let rows : exec (hands.means l.procs) (calls_of (reported s.ends K)) (setting_of l).base ≡ (sight (setting_of l) s).row = λ i x. (law.5 x (unheld rests x)) i in
      sym rows
      ∙ ap (exec (hands.means l.procs) (calls_of (reported s.ends K))) at.base
      ∙ sym told
      ∙ ap (λ (p : List Proc). exec (means p) (map told_of (reported s.ends K)) run.start.base) at.procs
      ∙ ap (λ (calls : List Committed). exec (means load.declarations.procs) calls run.start.base) (sym is.calls)

  pub reported_by : (report : RunReport) (failed : Option ℕ) → report.acks ≡ run.acks → report.fates ≡ fates_by (length l.calls) K run.acks →
      report.order ≡ map (λ (t : Act Txn). t.call.call.number) (reported s.ends K) → IsTablesOf (sight (setting_of l) s).row report.tables →
      ((w : ℕ) → (s.workers w).hand ≡ None) → IsReportOf load run failed (report_text load.declarations.tables report failed)
  reported_by report failed acks fate_is order tables rests =
      let all_fates : report.fates ≡ fates load run = fate_is ∙ fates_are in
      let all_order : report.order ≡ map (λ (d : Committed). d.number) run.calls = order ∙ numbers_same (reported s.ends K) ∙ ap (map (λ (d : Committed). d.number)) (sym is.calls) in
      record {
        rows = report.tables;
        present = subst (λ (db : Db). IsTablesOf db report.tables) (last_is rests) tables;
        text_is = ap (λ (r : RunReport). report_text load.declarations.tables r failed) (λ i. record { acks = acks i; fates = all_fates i; order = all_order i; tables = report.tables });
      }
