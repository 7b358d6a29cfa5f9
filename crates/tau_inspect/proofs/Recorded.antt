-- What the tests of a record decide.
use Rattle.std.proofs.Common.{ℕ, ◌-◌, ◌==◌, ◌||◌, ◌<◌, ◌≤◌, ◌≡◌, ◌↔◌, Bool, true, false, IsTrue, List, [], ◌∷◌, length, map, refl, sym, ap, subst, ◌∙◌, arith}
use Rattle.std.specs.Prelude.{Some, slice_get, All}
use Rattle.std.proofs.lemmas.Bool.{both_ways}
use Rattle.std.proofs.lemmas.Option.{slice_get_within, get_or_from_slice_get}
use Rattle.std.proofs.lemmas.List.Elements.{All-get_or}
use Rattle.tau_base.specs.declared.value.Key.{Key}
use Rattle.tau_base.specs.declared.value.Value.{Value}
use Rattle.tau_base.specs.declared.value.Call.{Call}
use Rattle.tau_base.specs.Database.{empty_db}
use Rattle.tau_proc.specs.Effect.{Effect}
use Rattle.tau_model.specs.History.{Numbered, Act, updating, updates}
use Rattle.tau_model.specs.Logged.{lv}
use Rattle.tau_scan.specs.Taken.{Kept}
use Rattle.tau_inspect.specs.Executed.{effects, numbered, call_of, no_call, IsNumberOf}
use Rattle.tau_inspect.specs.ByNumber.{is_in, IsUnique}
use Rattle.tau_inspect.specs.Audit.{Case, acts, has_record, IsWork, HasAct, AckAgrees}
use Rattle.tau_inspect.proofs.Acts.{member_get, get_member, number_at, in_get, act_at, the_act}
use Rattle.tau_base.proofs.Logic.{some_is}
use Rattle.tau_inspect.proofs.Due.{ack_get}

pub of_all : {A : Type 0} (P : A → Type 0) (xs : List A) (i : ℕ) (x : A) → All P xs → slice_get xs i ≡ Some x → P x
of_all P xs i x all at =
    let lt = slice_get_within xs i x at in
    subst P (get_or_from_slice_get xs i x x at) (All-get_or P xs i x lt all)

module _ (c : Case) (done : List Effect) (are : done ≡ effects (acts c)) (many : length done ≡ length c.report.order) (there : All (IsNumberOf c.load.calls) c.report.order) (unique : IsUnique c.report.order) (r : Kept) where
  -- no call of the order has the number
  pub no_act : (r.number ≤ length c.load.calls → is_in r.number c.report.order ≡ false) → HasAct c r → ⊥
  no_act none h =
      let w = member_get h.act (acts c) h.there in
      let at : slice_get c.report.order w.0 ≡ Some r.number = number_at c.load.declarations.procs c.load.calls c.report.order empty_db w.0 h.act w.1 ∙ ap (λ (n : ℕ). Some n) h.number in
      let small = of_all (IsNumberOf c.load.calls) c.report.order w.0 r.number there at in
      both_ways (is_in r.number c.report.order) (none small.1) (in_get r.number c.report.order w.0 at)

  module _ (i : ℕ) (e : Effect) (at : slice_get c.report.order i ≡ Some r.number) (got : slice_get done i ≡ Some e) where
    that : slice_get (acts c) i ≡ Some (record { call = numbered c.load.calls r.number; effect = e })
    that = act_at c.load.declarations.procs c.load.calls c.report.order empty_db i r.number e at (ap (λ l. slice_get l i) (sym are) ∙ got)

    same : (h : HasAct c r) → h.act ≡ record { call = numbered c.load.calls r.number; effect = e }
    same h = the_act c.load.declarations.procs c.load.calls c.report.order unique empty_db i r.number (record { call = numbered c.load.calls r.number; effect = e }) h.act at that h.there h.number

    -- the call writes nothing
    pub reads_only : updating e.writes ≡ false → HasAct c r → ⊥
    reads_only none h = both_ways (updating e.writes) none (ap (λ (x : Act Numbered). updates x.effect) (sym (same h)) ∙ h.writes)

    pub act_iff : (b : Bool) (call : Call) → updating e.writes ≡ true → slice_get c.load.calls (r.number - 1) ≡ Some call → (IsTrue b ↔ IsWork r.content e.writes call) → IsTrue b ↔ HasAct c r
    act_iff b call up found iff =
        let is_call : call ≡ call_of c.load.calls r.number = sym (get_or_from_slice_get c.load.calls (r.number - 1) call no_call found) in (
          (λ t. record {
            act = record { call = numbered c.load.calls r.number; effect = e };
            there = get_member (record { call = numbered c.load.calls r.number; effect = e }) (acts c) i that;
            number = refl;
            writes = up;
            work = subst (λ (x : Call). IsWork r.content e.writes x) is_call (iff.0 t);
          }),
          (λ h. iff.1 (subst (λ (x : Call). IsWork r.content e.writes x) (sym is_call) (subst (λ (x : Act Numbered). IsWork r.content x.effect.writes x.call.call) (same h) h.work))),
        )

  -- its number is that of a call
  pub act_small : HasAct c r → (1 ≤ r.number) × (r.number ≤ length c.load.calls)
  act_small h =
      let w = member_get h.act (acts c) h.there in
      of_all (IsNumberOf c.load.calls) c.report.order w.0 r.number there (number_at c.load.declarations.procs c.load.calls c.report.order empty_db w.0 h.act w.1 ∙ ap (λ (n : ℕ). Some n) h.number)

-- ---- acknowledgements

module _ (c : Case) (unique : IsUnique (map (λ (a : ℕ × List ℕ). a.0) c.report.acks)) (r : Kept) where
  -- its call is not acknowledged
  pub no_ack : is_in r.number (map (λ (a : ℕ × List ℕ). a.0) c.report.acks) ≡ false → AckAgrees c r
  no_ack none v m =
      let w = member_get (r.number, v) c.report.acks m in
      absurd (both_ways (is_in r.number (map (λ (a : ℕ × List ℕ). a.0) c.report.acks)) none (in_get r.number (map (λ (a : ℕ × List ℕ). a.0) c.report.acks) w.0 (ack_get c.report.acks w.0 (r.number, v) w.1)))

  pub ack_iff : (i : ℕ) (a : ℕ × List ℕ) → slice_get (map (λ (b : ℕ × List ℕ). b.0) c.report.acks) i ≡ Some r.number → slice_get c.report.acks i ≡ Some a →
      (b : Bool) → (IsTrue b ↔ (a.1 ≡ lv true r.place)) → IsTrue b ↔ AckAgrees c r
  ack_iff i a at got b iff =
      let named : a.0 ≡ r.number = some_is a.0 r.number (sym (ack_get c.report.acks i a got) ∙ at) in (
        (λ t v m.
            let w = member_get (r.number, v) c.report.acks m in
            let same : w.0 ≡ i = unique w.0 i r.number (ack_get c.report.acks w.0 (r.number, v) w.1) at in
            let is : (r.number, v) ≡ a = some_is (r.number, v) a (sym w.1 ∙ ap (slice_get c.report.acks) same ∙ got) in
            ap (λ (z : ℕ × List ℕ). z.1) is ∙ iff.0 t),
        (λ h. iff.1 (h a.1 (get_member (r.number, a.1) c.report.acks i (got ∙ ap (λ (n : ℕ). Some (n, a.1)) named)))),
      )

-- ---- earlier records

pub recorded : (k : ℕ) (rs : List Kept) → has_record k rs ≡ is_in k (map (λ (r : Kept). r.number) rs)
recorded k [] = refl
recorded k (r ∷ rs) = ap (λ b. (r.number == k) || b) (recorded k rs)

pub no_writes : (ws : List (Key × Value)) → length ws ≡ 0 → updating ws ≡ false
no_writes [] e = refl
no_writes (w ∷ ws) e = absurd (omega (arith, e))

pub some_writes : (ws : List (Key × Value)) → 0 < length ws → updating ws ≡ true
some_writes [] lt = absurd (omega (arith, lt))
some_writes (w ∷ ws) lt = refl
