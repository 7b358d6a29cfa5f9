-- What a log of a run's images takes, by the numbers of the calls, is what it takes by their places; so it takes what was acknowledged.
use Rattle.std.proofs.Common.{ℕ, suc, ◌<◌, ◌≤◌, ◌≡◌, ◌==◌, Bool, true, false, inl, inr, List, [], ◌∷◌, map, refl, sym, ap, subst, ◌∙◌, arith}
use Rattle.std.specs.Prelude.{◌&&◌, not}
use Rattle.std.specs.List.{filter, list_any}
use Rattle.std.proofs.lemmas.Bool.{and_from, and_parts, eqb-true, eq-eqb}
use Rattle.tau_base.specs.declared.value.Key.{Key}
use Rattle.tau_base.specs.declared.value.Value.{Value}
use Rattle.tau_base.specs.declared.value.LogMode.{LogMode}
use Rattle.tau_base.specs.Vectors.{covers}
use Rattle.tau_model.specs.History.{Numbered, Act, Member, Conflict, Depends, at_once, through, updates}
use Rattle.tau_model.specs.Logged.{Place}
use Rattle.tau_model.specs.Reported.{in_stream}
use Rattle.tau_model.proofs.Logged.{member_first, member_second, member_filtered}
use Rattle.tau_text.specs.declared.load.Workload.{Workload}
use Rattle.tau_record.specs.declared.entry.Placed.{Placed}
use Rattle.tau_record.specs.Record.{epoch_after}
use Rattle.tau_scan.specs.declared.log.Log.{Log}
use Rattle.tau_scan.specs.Epochs.{judge_of}
use Rattle.tau_scan.specs.Taken.{Kept, kept_as, kept_in, kept_from, taken_in, taken_from, taken}
use Rattle.tau_epoch_laws.proofs.Parts.{in_either}
use Rattle.tau_model.proofs.Orders.{member_front, member_back}
use Rattle.tau_model.proofs.ReportOrder.{member_filter_in}
use Rattle.tau_run.specs.Run.{Committed, Run, has_ack, of_stream, StandBetween}
use Rattle.tau_run.specs.RecoveredFacts.{takes}
use Rattle.tau_run.proofs.Lists.{before_map, any_true, any_member, bool_same}
use Rattle.tau_inspect.specs.declared.verdict.Check.TheVariants as check
use Rattle.tau_inspect.specs.Audit.{acts, is_taken, Survives, Passes}
use Rattle.tau_inspect.specs.Taint.{DependsOnMissing}
use Rattle.tau_inspect_laws.specs.Laws.{IsLogOfRun, TakenFits}
use Rattle.tau_inspect_laws.proofs.Told.{plain, plain_act, number_in, of_split, of_map, eq_is}
use Rattle.tau_inspect_laws.proofs.Fitting.{one_of, acts_in, IsOfCall, its, call_of, in_calls, one_call, once, acts_of_it, same_log}

-- ---- a taken record is a record

taken_one : (judge : ℕ → List ℕ) (j k : ℕ) (ps : List Placed) (r : Kept) → Member r (taken_in judge j k ps) → Member r (kept_in j ps)
taken_one judge j k [] r m = absurd m
taken_one judge j k (p ∷ ps) r m =
    let passes : Kept → Bool = λ q. covers (judge k) q.place.dep in
    elim (in_either r (filter passes (kept_as j p p.entry)) (taken_in judge j (epoch_after k p.entry) ps) m) [
      | inl here ↦ member_front r (kept_as j p p.entry) (kept_in j ps) (member_filtered passes r (kept_as j p p.entry) here).0
      | inr there ↦ member_back r (kept_as j p p.entry) (kept_in j ps) (taken_one judge j (epoch_after k p.entry) ps r there)
    ]

taken_kept : (judge : ℕ → List ℕ) (j : ℕ) (streams : List (List Placed)) (r : Kept) → Member r (taken_from judge j streams) → Member r (kept_from j streams)
taken_kept judge j [] r m = absurd m
taken_kept judge j (ps ∷ streams) r m = elim (in_either r (taken_in judge j 0 ps) (taken_from judge (suc j) streams) m) [
  | inl here ↦ member_front r (kept_in j ps) (kept_from (suc j) streams) (taken_one judge j 0 ps r here)
  | inr there ↦ member_back r (kept_in j ps) (kept_from (suc j) streams) (taken_kept judge (suc j) streams r there)
]

-- ---- records of one stream start apart

stand_low : (from to : ℕ) (xs : List Committed) (a : Committed) → StandBetween from to xs → Member a xs → from ≤ a.place.start
stand_low from to [] a h m = absurd m
stand_low from to (x ∷ xs) a h (inl e) = subst (λ (c : Committed). from ≤ c.place.start) e h.0
stand_low from to (x ∷ xs) a h (inr m) = (let low = stand_low x.place.past to xs a h.2 m in let first = h.0 in let wide = h.1 in omega (arith, low, first, wide))

stand_one : (from to : ℕ) (xs : List Committed) (a b : Committed) → StandBetween from to xs → Member a xs → Member b xs → a.place.start ≡ b.place.start → a ≡ b
stand_one from to [] a b h m o e = absurd m
stand_one from to (x ∷ xs) a b h (inl m) (inl o) e = sym m ∙ o
stand_one from to (x ∷ xs) a b h (inl m) (inr o) e =
    absurd (let low = stand_low x.place.past to xs b h.2 o in let wide = h.1 in let at = ap (λ (c : Committed). c.place.start) m in omega (arith, low, wide, at, e))
stand_one from to (x ∷ xs) a b h (inr m) (inl o) e =
    absurd (let low = stand_low x.place.past to xs a h.2 m in let wide = h.1 in let at = ap (λ (c : Committed). c.place.start) o in omega (arith, low, wide, at, e))
stand_one from to (x ∷ xs) a b h (inr m) (inr o) e = stand_one x.place.past to xs a b h.2 m o e

-- ---- what depends among the numbered calls depends among those of the run

record Back (acts : List (Act Committed)) (x u : Act Numbered) : Type 0 where
  pub late : Act Committed
  pub early : Act Committed
  pub late_there : Member late acts
  pub early_there : Member early acts
  pub late_is : plain_act late ≡ x
  pub early_is : plain_act early ≡ u
  pub depends : Depends acts late early

back : (acts : List (Act Committed)) → ((a b : Act Committed) → Member a acts → Member b acts → a.call.number ≡ b.call.number → a ≡ b) → (x u : Act Numbered) → Depends (map plain_act acts) x u → Back acts x u
back acts one x u (at_once b c) =
    let w = before_map plain_act u x acts b in
    record {
      late = w.1;
      early = w.0;
      late_there = member_second w.0 w.1 acts w.2;
      early_there = member_first w.0 w.1 acts w.2;
      late_is = w.4;
      early_is = w.3;
      depends = at_once w.2 (subst (λ (y : Act Numbered). Conflict w.0.effect y.effect) (sym w.4) (subst (λ (y : Act Numbered). Conflict y.effect x.effect) (sym w.3) c));
    }
back acts one x u (through {v = v} d e) =
    let a = back acts one x v d in
    let b = back acts one v u e in
    let same : b.late ≡ a.early = one b.late a.early b.late_there a.early_there (ap (λ (y : Act Numbered). y.call.number) (b.late_is ∙ sym a.early_is)) in
    record {
      late = a.late;
      early = b.early;
      late_there = a.late_there;
      early_there = b.early_there;
      late_is = a.late_is;
      early_is = b.early_is;
      depends = through a.depends (subst (λ (y : Act Committed). Depends acts y b.early) same b.depends);
    }

-- ---- what is taken

module _ (n m : ℕ) (mode : LogMode) (load : Workload) (run : Run) (images : List (List ℕ)) (log : Log) (rows : List (Key × Value)) (o : IsLogOfRun n m mode load run images log) where
  abbrev did : List (Act Committed)
  did = acts_in mode load run

  one_act : (a b : Act Committed) → Member a did → Member b did → a.call.number ≡ b.call.number → a ≡ b
  one_act a b p q e = one_of number_in did a b (once n m mode load run images log rows o) p q e

  call_taken : (r : Kept) → Member r (taken log) → IsOfCall mode load run 0 n r
  call_taken r t = call_of n m mode load run images log rows o r (taken_kept (judge_of log) 0 log.streams r t)

  in_calls' : (x : Act Committed) → Member x did → Member x.call run.calls
  in_calls' x t = in_calls n m mode load run images log rows o x t

  -- calls with records at one place are the same
  one_place : (a b : Committed) → Member a run.calls → Member b run.calls → a.logs ≡ true → b.logs ≡ true → a.place.stream < n → a.place.stream ≡ b.place.stream → a.place.start ≡ b.place.start → a ≡ b
  one_place a b p q up up' lt stream start =
      let j : ℕ = a.place.stream in
      let in_it : Committed → Bool = in_stream (λ (c : Committed). c.place) (λ c. c.logs) j in
      let first : Member a (of_stream run.calls j) = member_filter_in in_it run.calls a p (and_from a.logs (j == j) up (eq-eqb j j refl)) in
      let second : Member b (of_stream run.calls j) = member_filter_in in_it run.calls b q (and_from b.logs (b.place.stream == j) up' (eq-eqb b.place.stream j (sym stream))) in
      stand_one _ _ (of_stream run.calls j) a b (o.history.stand j lt) first second start

  -- by its number the record of a call is found just if it is by its place
  pub agrees : (y : Committed) → Member y run.calls → is_taken (its n m mode load run images log rows o) (plain y) ≡ takes log y
  agrees y t = bool_same (is_taken (its n m mode load run images log rows o) (plain y)) (takes log y)
      (λ e.
      let w = any_member (λ (r : Kept). r.number == y.number) (taken log) e in
      let q = call_taken w.0 w.1 in
      let same : q.act.call ≡ y = one_call n m mode load run images log rows o q.act.call y (in_calls' q.act q.there) t (ap (λ (r : Kept). r.number) q.is ∙ eq_is w.0.number y.number w.2) in
      let place : w.0.place ≡ y.place = sym (ap (λ (r : Kept). r.place) q.is) ∙ ap (λ (c : Committed). c.place) same in
      and_from y.logs (list_any (λ (r : Kept). (r.place.stream == y.place.stream) && (r.place.start == y.place.start)) (taken log)) (sym (ap (λ (c : Committed). c.logs) same) ∙ q.logs)
      (any_true (λ (r : Kept). (r.place.stream == y.place.stream) && (r.place.start == y.place.start)) w.0 (taken log) w.1
      (and_from (w.0.place.stream == y.place.stream) (w.0.place.start == y.place.start) (eq-eqb w.0.place.stream y.place.stream (ap (λ (p : Place). p.stream) place)) (eq-eqb w.0.place.start y.place.start (ap (λ (p : Place). p.start) place)))))
      (λ e.
      let both = and_parts y.logs (list_any (λ (r : Kept). (r.place.stream == y.place.stream) && (r.place.start == y.place.start)) (taken log)) e in
      let w = any_member (λ (r : Kept). (r.place.stream == y.place.stream) && (r.place.start == y.place.start)) (taken log) both.1 in
      let at = and_parts (w.0.place.stream == y.place.stream) (w.0.place.start == y.place.start) w.2 in
      let q = call_taken w.0 w.1 in
      let place : q.act.call.place ≡ w.0.place = ap (λ (r : Kept). r.place) q.is in
      let same : q.act.call ≡ y = one_place q.act.call y (in_calls' q.act q.there) t q.logs both.0 q.last
      (ap (λ (p : Place). p.stream) place ∙ eqb-true w.0.place.stream y.place.stream at.0) (ap (λ (p : Place). p.start) place ∙ eqb-true w.0.place.start y.place.start at.1) in
      any_true (λ (r : Kept). r.number == y.number) w.0 (taken log) w.1 (eq-eqb w.0.number y.number (sym (ap (λ (r : Kept). r.number) q.is) ∙ ap (λ (c : Committed). c.number) same)))

  -- the acts of the report, as those of the run
  act_back : (x : Act Numbered) → Member x (acts (its n m mode load run images log rows o)) → (y : Act Committed) × Member y did × (plain_act y ≡ x)
  act_back x t = of_map plain_act did x (subst (Member x) (acts_of_it n m mode load run images log rows o) t)

  -- where all on which this call depends is taken, it depends on nothing that is missing
  nothing_missing : (y : Act Committed) → Member y did → ((u : Act Committed) → Depends did y u → updates u.effect ≡ true → takes log u.call ≡ true) →
      DependsOnMissing (is_taken (its n m mode load run images log rows o)) (acts (its n m mode load run images log rows o)) (plain_act y) → ⊥
  nothing_missing y t all (u, d, missing) =
      let b = back did one_act (plain_act y) u (subst (λ (l : List (Act Numbered)). Depends l (plain_act y) u) (acts_of_it n m mode load run images log rows o) d) in
      let late : b.late ≡ y = one_act b.late y b.late_there t (ap (λ (z : Act Numbered). z.call.number) b.late_is) in
      let parts = and_parts (updates u.effect) (not (is_taken (its n m mode load run images log rows o) u.call)) missing in
      let up : updates b.early.effect ≡ true = ap (λ (z : Act Numbered). updates z.effect) b.early_is ∙ parts.0 in
      let there : takes log b.early.call ≡ true = all b.early (subst (λ (z : Act Committed). Depends did z b.early) late b.depends) up in
      let taken_so : is_taken (its n m mode load run images log rows o) u.call ≡ true =
      sym (ap (λ (z : Act Numbered). is_taken (its n m mode load run images log rows o) z.call) b.early_is) ∙ agrees b.early.call (in_calls' b.early b.early_there) ∙ there in
      not_both (is_taken (its n m mode load run images log rows o) u.call) taken_so parts.1
    where
      not_both : (b : Bool) → b ≡ true → not b ≡ true → ⊥
      not_both true e f = cc f
      not_both false e f = cc e

  has_told : (a : ℕ × List ℕ) (k : ℕ) → Member a run.acks → k ≡ a.0 → has_ack run k ≡ true
  has_told a k t e = any_true (λ (b : ℕ × List ℕ). b.0 == k) a run.acks t (eq-eqb a.0 k (sym e))

  pub acks_fit : Passes (its n m mode load run images log rows o) check.Ack
  acks_fit front rest a e x t number =
      let w = act_back x t in
      let told = o.acknowledged w.0 w.1 (has_told a w.0.call.number (of_split run.acks front rest a e) (ap (λ (z : Act Numbered). z.call.number) w.2 ∙ number)) in
      subst (Survives (its n m mode load run images log rows o)) w.2 (record {
        taken = λ up. agrees w.0.call (in_calls' w.0 w.1) ∙ told.0 up;
        closed = λ up. nothing_missing w.0 w.1 told.1;
      })

  pub closed_fits : Passes (its n m mode load run images log rows o) check.Closed
  closed_fits front rest x e =
      let w = act_back x (of_split (acts (its n m mode load run images log rows o)) front rest x e) in
      subst (λ (z : Act Numbered). is_taken (its n m mode load run images log rows o) z.call ≡ true → DependsOnMissing (is_taken (its n m mode load run images log rows o)) (acts (its n m mode load run images log rows o)) z → ⊥) w.2
      (λ here. nothing_missing w.0 w.1 (λ u d up.
      subst (λ (l : Log). takes l u.call ≡ true) (sym (same_log n m mode load run images log rows o))
      (o.recovered.closed w.0 u d (ap (λ (l : Log). takes l w.0.call) (sym (same_log n m mode load run images log rows o)) ∙ sym (agrees w.0.call (in_calls' w.0 w.1)) ∙ here) up)))

pub taken_fits : TakenFits
taken_fits n m mode load run images log rows o = (acks_fit n m mode load run images log rows o, closed_fits n m mode load run images log rows o)
