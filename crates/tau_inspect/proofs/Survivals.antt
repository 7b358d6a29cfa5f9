-- What the tests of a taken set decide.
use Rattle.std.proofs.Common.{ℕ, suc, ◌<◌, ◌≤◌, ◌≡◌, ◌↔◌, ◌&&◌, Bool, true, false, not, IsTrue, inl, inr, List, [], ◌∷◌, length, map, take, drop, get_or, refl, sym, ap, subst, ◌∙◌, arith}
use Rattle.std.specs.Prelude.{Some, slice_get, slice_index_or, All, if◌then◌else◌, Result, Ok, Err, IfOk}
use Rattle.std.proofs.lemmas.Bool.{cases_Bool, both_ways, and_parts}
use Rattle.std.proofs.lemmas.Option.{slice_get_read, slice_get-get_or, get_or_from_slice_get}
use Rattle.tau_base.specs.Database.{empty_db}
use Rattle.tau_proc.specs.Effect.{Effect}
use Rattle.tau_model.specs.History.{Numbered, Act, Member, updates}
use Rattle.tau_scan.specs.Taken.{Kept, taken}
use Rattle.tau_inspect.specs.Executed.{effects, numbered, IsNumberOf}
use Rattle.tau_inspect.specs.ByNumber.{is_in, HasFlags, IsUnique}
use Rattle.tau_inspect.specs.Taint.{Marks, unmarked, is_missing, is_tainted, marks_after, taints, pass, first_of, rest_of, DependsOnMissing}
use Rattle.tau_inspect.specs.Audit.{Case, acts, records, has_record, has_ack, is_taken, is_told, Survives}
use Rattle.tau_inspect.specs.KnowsTaint.{KnowsTaint}
use Rattle.tau_inspect.proofs.Acts.{member_get, get_member, number_at, in_get, act_at, the_act, once, taint_at, split_at, run_length}
use Rattle.tau_inspect.proofs.Recorded.{of_all, recorded}
use Rattle.tau_inspect.proofs.Checked.{any_mapped}
use Rattle.tau_inspect.proofs.Taints.{taint_is_dependence}

module _ (c : Case) (takes : List Bool) (there : All (IsNumberOf c.load.calls) c.report.order) (flagged : HasFlags (length c.load.calls) (map (λ (r : Kept). r.number) (taken c.log)) takes) where
  -- the flag of a number of the order
  pub flag_is : (i : ℕ) (x : Act Numbered) → slice_get (acts c) i ≡ Some x → slice_index_or takes x.call.number false ≡ is_taken c x.call
  flag_is i x at =
      let small = of_all (IsNumberOf c.load.calls) c.report.order i x.call.number there (number_at c.load.declarations.procs c.load.calls c.report.order empty_db i x at) in
      flagged.tells x.call.number small.1 ∙ sym (recorded x.call.number (taken c.log))

-- marks that were carried along tell of each place
pub knows : (c : Case) (unique : IsUnique c.report.order) (tainted : List Bool) → tainted ≡ taints unmarked (effects (acts c)) (map (is_missing (is_taken c)) (acts c)) → length tainted ≡ length c.report.order → KnowsTaint c tainted
knows c unique tainted is long = record {
  long = long;
  tells = λ i x at.
      let told : slice_get tainted i ≡ Some (is_tainted (marks_after (is_taken c) unmarked (take i (acts c))) x.effect) = ap (λ l. slice_get l i) is ∙ taint_at (is_taken c) (acts c) unmarked i x at in
      let flag : slice_index_or tainted i false ≡ is_tainted (marks_after (is_taken c) unmarked (take i (acts c))) x.effect = get_or_from_slice_get tainted i (is_tainted (marks_after (is_taken c) unmarked (take i (acts c))) x.effect) false told in
      let law = taint_is_dependence (acts c) (is_taken c) (once c.load.declarations.procs c.load.calls c.report.order unique empty_db) (take i (acts c)) (drop (suc i) (acts c)) x (split_at (acts c) i x at) in
      ((λ e. law.0 (sym flag ∙ e)), (λ d. flag ∙ law.1 d));
}

pub taints_length : (es : List Effect) (marks : Marks) (ms : List Bool) → length (taints marks es ms) ≡ length es
unfolding taints
taints_length [] marks ms = refl
taints_length (e ∷ es) marks ms = ap suc (taints_length es (pass (first_of ms) e marks) (rest_of ms))

-- ---- a call at a place of the order

module _ (c : Case) (done : List Effect) (are : done ≡ effects (acts c)) (many : length done ≡ length c.report.order) (i : ℕ) where
  -- the call that was executed there
  pub there_is : (e : Effect) (k : ℕ) → slice_get done i ≡ Some e → slice_get c.report.order i ≡ Some k → slice_get (acts c) i ≡ Some (record { call = numbered c.load.calls k; effect = e })
  there_is e k got at = act_at c.load.declarations.procs c.load.calls c.report.order empty_db i k e at (ap (λ l. slice_get l i) (sym are) ∙ got)

  pub read_there : (e : Effect) → i < length done → e ≡ get_or done i e → slice_get (acts c) i ≡ Some (record { call = numbered c.load.calls (get_or c.report.order i 0); effect = e })
  read_there e lt is = there_is e (get_or c.report.order i 0) (slice_get_read done (length done) i e refl lt is) (slice_get-get_or c.report.order i 0 (omega (arith, many, lt)))

pub act_count : (c : Case) (done : List Effect) → length done ≡ length c.report.order → length (acts c) ≡ length done
act_count c done many = run_length c.load.declarations.procs c.load.calls c.report.order empty_db ∙ sym many

-- ---- one that survives

pub no_survivor : (c : Case) (number : ℕ) → All (IsNumberOf c.load.calls) c.report.order → (number ≤ length c.load.calls → is_in number c.report.order ≡ false) →
    (x : Act Numbered) → Member x (acts c) → x.call.number ≡ number → ⊥
no_survivor c number there none x m is =
    let w = member_get x (acts c) m in
    let at : slice_get c.report.order w.0 ≡ Some number = number_at c.load.declarations.procs c.load.calls c.report.order empty_db w.0 x w.1 ∙ ap (λ (n : ℕ). Some n) is in
    let small = of_all (IsNumberOf c.load.calls) c.report.order w.0 number there at in
    both_ways (is_in number c.report.order) (none small.1) (in_get number c.report.order w.0 at)

module _ (c : Case) (takes tainted : List Bool) (there : All (IsNumberOf c.load.calls) c.report.order) (flagged : HasFlags (length c.load.calls) (map (λ (r : Kept). r.number) (taken c.log)) takes) (kn : KnowsTaint c tainted)
    (i : ℕ) (y : Act Numbered) (at : slice_get (acts c) i ≡ Some y) where
  survives_one : (up : Bool) → updates y.effect ≡ up → (if up then slice_index_or takes y.call.number false else not (slice_index_or tainted i false)) ≡ true → Survives c y
  survives_one true u e = record {
    taken = λ v. sym (flag_is c takes there flagged i y at) ∙ e;
    closed = λ v. absurd (both_ways (updates y.effect) v u);
  }
  survives_one false u e = record {
    taken = λ v. absurd (both_ways (updates y.effect) u v);
    closed = λ v d. not_both (slice_index_or tainted i false) e ((kn.tells i y at).1 d);
  }
    where
      not_both : (b : Bool) → not b ≡ true → b ≡ true → ⊥
      not_both true p q = both_ways false refl p
      not_both false p q = both_ways false refl q

  survivor_so : (up : Bool) → updates y.effect ≡ up → Survives c y → (if up then slice_index_or takes y.call.number false else not (slice_index_or tainted i false)) ≡ true
  survivor_so true u s = flag_is c takes there flagged i y at ∙ s.taken u
  survivor_so false u s = elim (cases_Bool (slice_index_or tainted i false)) [
    | inl e ↦ absurd (s.closed u ((kn.tells i y at).0 e))
    | inr e ↦ ap not e
  ]

  pub survive_iff : (number : ℕ) → IsUnique c.report.order → y.call.number ≡ number → (b : Bool) → b ≡ (if updates y.effect then slice_index_or takes number false else not (slice_index_or tainted i false)) →
      IsTrue b ↔ ((x : Act Numbered) → Member x (acts c) → x.call.number ≡ number → Survives c x)
  survive_iff number unique named b is =
      let turned : b ≡ (if updates y.effect then slice_index_or takes y.call.number false else not (slice_index_or tainted i false)) =
      is ∙ ap (λ (n : ℕ). if updates y.effect then slice_index_or takes n false else not (slice_index_or tainted i false)) (sym named) in
      let place : slice_get c.report.order i ≡ Some number = number_at c.load.declarations.procs c.load.calls c.report.order empty_db i y at ∙ ap (λ (n : ℕ). Some n) named in (
        (λ t x m n.
            subst (λ (z : Act Numbered). Survives c z) (sym (the_act c.load.declarations.procs c.load.calls c.report.order unique empty_db i number y x place at m n)) (survives_one (updates y.effect) refl (sym turned ∙ t))),
        (λ h. turned ∙ survivor_so (updates y.effect) refl (h y (get_member y (acts c) i at) named)),
      )

  -- closed at this place
  pub closed_so : (slice_index_or takes y.call.number false && slice_index_or tainted i false) ≡ false → is_taken c y.call ≡ true → DependsOnMissing (is_taken c) (acts c) y → ⊥
  closed_so e t d =
      let a : slice_index_or takes y.call.number false ≡ true = flag_is c takes there flagged i y at ∙ t in
      let b : slice_index_or tainted i false ≡ true = (kn.tells i y at).1 d in
      both_ways (slice_index_or takes y.call.number false && slice_index_or tainted i false) e (rw (a, b) refl)

  pub open_so : (slice_index_or takes y.call.number false && slice_index_or tainted i false) ≡ true → (is_taken c y.call ≡ true → DependsOnMissing (is_taken c) (acts c) y → ⊥) → ⊥
  open_so e h =
      let p = and_parts (slice_index_or takes y.call.number false) (slice_index_or tainted i false) e in
      h (sym (flag_is c takes there flagged i y at) ∙ p.0) ((kn.tells i y at).0 p.1)

-- ---- a case that is whole

module _ (c : Case) (recs acked : List Bool) (there : All (IsNumberOf c.load.calls) c.report.order) (r : HasFlags (length c.load.calls) (map (λ (q : Kept). q.number) (records c)) recs) (a : HasFlags (length c.load.calls) (map (λ (b : ℕ × List ℕ). b.0) c.report.acks) acked) where
  pub told_is : (i : ℕ) (y : Act Numbered) → slice_get (acts c) i ≡ Some y → (if updates y.effect then slice_index_or recs y.call.number false else slice_index_or acked y.call.number false) ≡ is_told c y
  told_is i y at =
      let small = of_all (IsNumberOf c.load.calls) c.report.order i y.call.number there (number_at c.load.declarations.procs c.load.calls c.report.order empty_db i y at) in
      let p : slice_index_or recs y.call.number false ≡ has_record y.call.number (records c) = r.tells y.call.number small.1 ∙ sym (recorded y.call.number (records c)) in
      let q : slice_index_or acked y.call.number false ≡ has_ack y.call.number c.report.acks = a.tells y.call.number small.1 ∙ sym (any_mapped y.call.number c.report.acks) in
      ap (λ (b : Bool). if updates y.effect then b else slice_index_or acked y.call.number false) p ∙ ap (λ (b : Bool). if updates y.effect then has_record y.call.number (records c) else b) q

pub ok_then : {X E : Type 0} (P Q : X → Type 0) (r : Result X E) → IfOk r P → ((x : X) → P x → Q x) → IfOk r Q
ok_then P Q (Ok x) p h = h x p
ok_then P Q (Err e) p h = tt
