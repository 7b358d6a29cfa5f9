-- The whole of a run is read, and what it has acknowledged is taken.
use Rattle.std.proofs.Common.{ℕ, ◌+◌, ◌≤◌, ◌<◌, true, ◌≡◌, inl, inr, List, [], ◌++◌, length, refl, sym, ap, subst, ◌∙◌, arith, slice_index}
use Rattle.std.specs.Prelude.{Some, None, Result, Ok, slice_get, slice_index_or, ◌==◌}
use Rattle.std.proofs.lemmas.Bool.{eqb-true}
use Rattle.std.proofs.lemmas.Option.{get_or_from_slice_get}
use Rattle.std.proofs.lemmas.List.{length-append}
use Rattle.tau_base.specs.Modes.{format_of}
use Rattle.tau_base.specs.Vectors.{AtMost}
use Rattle.tau_base.specs.declared.value.LogMode.{LogMode}
use Rattle.tau_base.proofs.Vectors.{at_most_within}
use Rattle.tau_model.specs.History.{Act, Member, Depends, updates}
use Rattle.tau_model.proofs.Dependence.{depends_there}
use Rattle.tau_model.proofs.Reorder.{reordered_itself}
use Rattle.tau_machine.specs.Hands.{Txn}
use Rattle.tau_machine.specs.Reports.{held_by}
use Rattle.tau_machine.specs.State.{Core, Ticket, ticket}
use Rattle.tau_machine.proofs.Results.{reported_theorem, acknowledged_theorem}
use Rattle.tau_text.specs.declared.load.Workload.{Workload}
use Rattle.tau_record.specs.declared.entry.Placed.{Placed}
use Rattle.tau_core.specs.declared.state.Load.{Load}
use Rattle.tau_core.specs.View.{setting_of}
use Rattle.tau_scan.specs.declared.log.Log.{Log}
use Rattle.tau_scan.specs.declared.fault.LogFault.{LogFault}
use Rattle.tau_record.specs.declared.fault.RecordFault.{RecordFault}
use Rattle.tau_scan.specs.Reading.{log_of, log_of_contents}
use Rattle.tau_scan.specs.Taken.{Kept, kept_in}
use Rattle.tau_run.specs.Run.{Committed, Run, acts, records_in, has_ack}
use Rattle.tau_run.specs.Start.{opened_at}
use Rattle.tau_run.specs.RecoveredFacts.{takes}
use Rattle.tau_run.specs.CoreRun.{IsRunOf}
use Rattle.tau_run.specs.StopsLeave.{HasFront}
use Rattle.tau_run.proofs.Closed.{Behind, behind}
use Rattle.tau_run.proofs.Each.{one_content}
use Rattle.tau_run.proofs.History.{acts_are, ack_of, is_set}
use Rattle.tau_run.proofs.Lists.{any_member}
use Rattle.tau_run.proofs.Logs.{LogOf, length_at}
use Rattle.tau_run.proofs.Order.{apart, history, once, there}
use Rattle.tau_run.proofs.Recovered.{CutLog, cut_log, cuts_log, records_are}
use Rattle.tau_run.proofs.Streams.{IsRead, kept_append, whole_read, IsDeclaredCourse, anchored}
use Rattle.tau_run.proofs.Taken.{takes_is}
use Rattle.tau_run.proofs.CommittedTold.{act_of, number_of, one_of_number, apart_reordered}
use Rattle.tau_base.proofs.Lists.{some_at, got_within}
use Rattle.tau_model.proofs.Assembling.{member_mapped}

abbrev answered : {A : Type 0} → (E : Type 0) → A → Result A E
answered E a = Ok a

ok_is : {A : Type 0} (E : Type 0) (a b : A) → answered E a ≡ answered E b → a ≡ b
ok_is E a b e = cc e

module _ (n m : ℕ) (mode : LogMode) (load : Workload) (l : Load) (K : List (Act Txn)) (s : Core) (run : Run) (c : IsDeclaredCourse n m mode load run.start l K s) (is : IsRunOf n l K s load run) where
  -- ---- the whole contents

  whole_at : (j : ℕ) (content : List ℕ) → slice_get run.contents j ≡ Some content → (more : List Placed) × IsRead l load run.start K n j content more × (kept_in j more ≡ records_in l.mode load run j)
  whole_at j content e =
      let lt : j < n = subst (λ (k : ℕ). j < k) is.streams (got_within run.contents j content e) in
      let w = whole_read n l load run.start c.begins K s j lt c.room c.load_is.streams (anchored n m mode load run.start l c.begins c.load_is j lt) c.sound content (is.given j content e) in
      (w.0, w.1, w.2 ∙ sym (records_are n m mode load l K s run c is j))

  whole_log : LogOf l load run.start K s c.inv n c.load_is.streams run.contents
  whole_log = cuts_log n m mode load l K s run c is run.contents is.streams (λ j content e. let w = whole_at j content e in (w.0, w.1))

  pub whole : (log : Log) × (log_of_contents (format_of l.mode) run.contents ≡ Ok log)
      × ((j : ℕ) → j < n → kept_in j (slice_index_or log.streams j []) ≡ kept_in j (slice_index_or run.start.log.streams j []) ++ records_in l.mode load run j)
  whole = (
    whole_log.log,
    whole_log.reads,
    λ j lt.
        (let h = some_at run.contents j (subst (λ (k : ℕ). j < k) (sym is.streams) lt) in
        let olds : List Placed = slice_index_or run.start.log.streams j [] in
        let r = whole_log.all j h.0 h.1 in
        let w = whole_at j h.0 h.1 in
        let same : olds ++ r.0 ≡ olds ++ w.0 = ok_is RecordFault (olds ++ r.0) (olds ++ w.0) (sym r.2.reads ∙ w.1.reads) in
        ap (kept_in j) (get_or_from_slice_get whole_log.log.streams j (olds ++ r.0) [] r.1 ∙ same) ∙ kept_append j olds w.0 ∙ ap (λ (ks : List Kept). kept_in j olds ++ ks) w.2),
  )

  -- ---- what is acknowledged

  abbrev H : List (Act Txn)
  H = history (setting_of l) K s c.inv

  one_act : (t u : Act Txn) → Member t K → Member u K → number_of t ≡ number_of u → t ≡ u
  one_act t u mt mu e = one_of_number K (apart (setting_of l) K s c.inv) t u mt mu e

  -- an act of the run is that of a committed call
  pub act_there : (x : Act Committed) → Member x (acts load.declarations.procs run) → (t : Act Txn) × Member t K × (act_of t ≡ x)
  act_there x q =
      let w = member_mapped act_of x H (subst (λ (xs : List (Act Committed)). Member x xs) (acts_are (setting_of l) K s c.inv n m load run (is_set n m mode load run.start l c.begins.count c.load_is) is.calls) q) in
      (w.0, there (setting_of l) K s c.inv w.0 w.1, w.2)

  -- a number that is acknowledged
  pub acked_there : (k : ℕ) → has_ack run k ≡ true → (t : Act Txn) × Member t K × (number_of t ≡ k) × ((w : ℕ) × Member (ticket t) (s.acked w))
  acked_there k e =
      let a = any_member (λ (a : ℕ × List ℕ). a.0 == k) run.acks e in
      let t = ack_of (setting_of l) K s c.inv run.acks is.acks a.0 a.1 in
      (t.0, t.1, t.2 ∙ eqb-true a.0.0 k a.2, ((setting_of l).worker_of a.0.0, t.4))

  -- what is acknowledged is held by a cut that holds what is persisted
  acked_held : (t : Act Txn) → Member t K → has_ack run (number_of t) ≡ true → (cut : List ℕ) → AtMost s.plv cut →
      (updates t.effect ≡ true → held_by cut t.call ≡ true) × ((u : Act Txn) → Depends K t u → updates u.effect ≡ true → held_by cut u.call ≡ true)
  acked_held t q e cut low =
      let a = acked_there (number_of t) e in
      let law = acknowledged_theorem (setting_of l) K s c.inv a.3.0 (ticket a.0) a.3.1 in
      let same : law.0 ≡ t = one_act law.0 t law.1 q (ap (λ (k : Ticket). k.number) law.2 ∙ a.2) in
      subst (λ (x : Act Txn). (updates x.effect ≡ true → held_by cut x.call ≡ true) × ((u : Act Txn) → Depends K x u → updates u.effect ≡ true → held_by cut u.call ≡ true)) same (law.4 cut low)

  module _ (images : List (List ℕ)) (count : length images ≡ n)
      (present : (j : ℕ) (image : List ℕ) → slice_get images j ≡ Some image → (bytes : List ℕ) × HasFront n j (opened_at load run.start j) l s bytes image × (slice_index s.plv j ≤ length (opened_at load run.start j) + length bytes)) where
    found : CutLog n m mode load l K s run c is images
    found = cut_log n m mode load l K s run c is images count (λ j image e.
        let f = present j image e in
        (opened_at load run.start j ++ f.0, f.1.has, inr (f.0, f.1.count, refl, f.1.spelled)))

    covered : AtMost s.plv found.made.log.elv
    covered = at_most_within s.plv found.made.log.elv (λ j lt.
        let wide : length s.plv ≡ n = c.inv.agrees.good.count_plv ∙ c.load_is.streams in
        let low : j < n = subst (λ (k : ℕ). j < k) wide lt in
        let h = some_at images j (subst (λ (k : ℕ). j < k) (sym count) low) in
        let z = some_at found.contents j (subst (λ (k : ℕ). j < k) (sym found.long) low) in
        let f = present j h.0 h.1 in
        let first : List ℕ = opened_at load run.start j in
        let same : z.0 ≡ first ++ f.0 = one_content (format_of l.mode) n j h.0 z.0 (first ++ f.0) (found.has j h.0 z.0 h.1 z.1) f.1.has in
        let long : slice_index found.made.log.elv j ≡ length first + length f.0 =
        ap (λ (v : List ℕ). slice_index v j) found.made.elv ∙ length_at found.contents j z.0 z.1 ∙ ap length same ∙ length-append first f.0 in
        let reach = f.2 in
        omega (arith, long, reach))

    pub acked_taken : (log : Log) → log_of None images ≡ Ok log → (x : Act Committed) → Member x (acts load.declarations.procs run) → has_ack run x.call.number ≡ true →
        (updates x.effect ≡ true → takes log x.call ≡ true) × ((u : Act Committed) → Depends (acts load.declarations.procs run) x u → updates u.effect ≡ true → takes log u.call ≡ true)
    acked_taken log reads x q e =
        let same_log : found.made.log ≡ log = ok_is LogFault found.made.log log (sym found.reads ∙ reads) in
        let t = act_there x q in
        let number : x.call.number ≡ number_of t.0 = ap (λ (y : Act Committed). y.call.number) (sym t.2) in
        let law = acked_held t.0 t.1 (subst (λ (k : ℕ). has_ack run k ≡ true) number e) found.made.log.elv covered in
        let taken : (u : Act Txn) → Member u K → held_by found.made.log.elv u.call ≡ true → (y : Act Committed) → act_of u ≡ y → takes log y.call ≡ true = λ u mu h y is_y.
        ap (λ (g : Log). takes g y.call) (sym same_log) ∙ ap (λ (z : Act Committed). takes found.made.log z.call) (sym is_y)
        ∙ takes_is (setting_of l) K s c.inv l.mode n c.load_is.streams run found.made.log found.made.more found.made.is u mu ∙ h in (
          λ up. taken t.0 t.1 (law.0 (ap (λ (y : Act Committed). updates y.effect) t.2 ∙ up)) x t.2,
          λ u d up.
              (let w : Behind H x u = behind H (apart_reordered K H (apart (setting_of l) K s c.inv) (once (setting_of l) K s c.inv)) x u
              (subst (λ (xs : List (Act Committed)). Depends xs x u) (acts_are (setting_of l) K s c.inv n m load run (is_set n m mode load run.start l c.begins.count c.load_is) is.calls) d) in
              let late_there = there (setting_of l) K s c.inv w.late w.late_there in
              let early_there = there (setting_of l) K s c.inv w.early w.early_there in
              let late : w.late ≡ t.0 = one_act w.late t.0 late_there t.1 (ap (λ (y : Act Committed). y.call.number) (w.late_is ∙ sym t.2)) in
              let up' : updates w.early.effect ≡ true = ap (λ (y : Act Committed). updates y.effect) w.early_is ∙ up in
              let how = depends_there K H (once (setting_of l) K s c.inv) (reported_theorem (setting_of l) K s c.inv K (reordered_itself K)).1 w.late w.early w.depends in
              let held : held_by found.made.log.elv w.early.call ≡ true = elim how [
                | inl p ↦ law.1 w.early (subst (λ (z : Act Txn). Depends K z w.early) late p) up'
                | inr p ↦
                    let one : t.0 ≡ w.early = sym late ∙ p in
                    subst (λ (z : Act Txn). held_by found.made.log.elv z.call ≡ true) one (law.0 (subst (λ (z : Act Txn). updates z.effect ≡ true) (sym one) up'))
              ] in
              taken w.early early_there held u w.early_is),
        )
