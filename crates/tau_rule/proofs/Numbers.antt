-- No more calls commit than there are.
use Rattle.std.proofs.Common.{◌≡◌, ℕ, zero, suc, ◌+◌, ◌-◌, ◌<◌, ◌≤◌, true, false, Bool, List, [], ◌∷◌, inl, inr, length, refl, sym, ap, ◌∙◌, arith}
use Rattle.std.specs.Prelude.{Some, None, ◌==◌, slice_get, if◌then◌else◌}
use Rattle.std.proofs.lemmas.Bool.{cases_eq, eq-eqb, ne_eqb}
use Rattle.std.proofs.lemmas.Option.{slice_get_within}
use Rattle.tau_base.specs.declared.value.Call.{Call}
use Rattle.tau_model.specs.History.{Act, Member}
use Rattle.tau_machine.specs.Hands.{Txn}
use Rattle.tau_machine.specs.State.{Core}
use Rattle.tau_machine.specs.Accounts.{one}
use Rattle.tau_machine.proofs.Lists.{in_acts, apart_counts}
use Rattle.tau_machine.proofs.Results.{committed_theorem}
use Rattle.tau_occ.specs.declared.style.Style.{Style}
use Rattle.tau_rule.specs.Rule.{IsReached}
use Rattle.tau_rule.proofs.Turns.{reached_invariant, reached_invariant}
use Rattle.tau_core.specs.State.{Plain}
use Rattle.tau_core.specs.View.{setting_of, call_of}

-- f of the numbers from 1 to n, added up
abbrev sum_to : (ℕ → ℕ) → ℕ → ℕ
sum_to f zero = 0
sum_to f (suc n) = f (suc n) + sum_to f n

sum_add : (f g : ℕ → ℕ) (n : ℕ) → sum_to (λ k. f k + g k) n ≡ sum_to f n + sum_to g n
sum_add f g zero = refl
sum_add f g (suc n) = let e = sum_add f g n in omega arith

sum_few : (f : ℕ → ℕ) (n : ℕ) → ((k : ℕ) → f k ≤ 1) → sum_to f n ≤ n
sum_few f zero few = omega arith
sum_few f (suc n) few = let e = sum_few f n few in let a = few (suc n) in omega arith

one_itself : (k : ℕ) → one k k ≡ 1
one_itself k = (let f : (k == k) ≡ true = eq-eqb k k refl in ap (λ (b : Bool). if b then 1 else 0) f)

sum_one : (m n : ℕ) → 1 ≤ m → m ≤ n → 1 ≤ sum_to (λ k. one k m) n
sum_one m zero low high = absurd (omega arith)
sum_one m (suc n) low high = elim (cases_eq m (suc n)) [
  | inl is ↦ (let a : one (suc n) m ≡ 1 = ap (one (suc n)) is ∙ one_itself (suc n) in omega arith)
  | inr ne ↦ (let a = sum_one m n low (omega arith) in omega arith)
]

counted_all : (ts : List (Act Txn)) (n : ℕ) → ((t : Act Txn) → Member t ts → (1 ≤ t.call.call.number) × (t.call.call.number ≤ n)) → length ts ≤ sum_to (λ k. in_acts k ts) n
counted_all [] n all = omega arith
counted_all (t ∷ ts) n all =
    let here = all t (inl refl) in
    let a = sum_one t.call.call.number n here.0 here.1 in
    let rest = counted_all ts n (λ u m. all u (inr m)) in
    let e = sum_add (λ k. one k t.call.call.number) (λ k. in_acts k ts) n in
    omega arith

numbered : (calls : List Call) (n : ℕ) (c : Call) → call_of calls n ≡ Some c → (1 ≤ n) × (n ≤ length calls)
numbered calls n c e = elim (cases_eq n 0) [
  | inl is ↦ absurd (let f : (n == 0) ≡ true = eq-eqb n 0 is in let g : None ≡ Some c = sym (ap (λ (b : Bool). if b then None else slice_get calls (n - 1)) f) ∙ e in cc)
  | inr ne ↦ (let f : (n == 0) ≡ false = ne_eqb n 0 ne in
      let g : slice_get calls (n - 1) ≡ Some c = sym (ap (λ (b : Bool). if b then None else slice_get calls (n - 1)) f) ∙ e in
      let w : n - 1 < length calls = slice_get_within calls (n - 1) c g in
      let low : 1 ≤ n = above n ne in
      (low, omega arith))
]
  where
    above : (n : ℕ) → (n ≡ 0 → ⊥) → 1 ≤ n
    above zero ne = absurd (ne refl)
    above (suc n) ne = omega arith

pub few_joined : (origin : Plain) {style : Style} (s : Core) (r : IsReached origin style s) → length r.joined ≤ length origin.load.calls
few_joined origin s r =
    let inv = reached_invariant origin s r in
    let known = committed_theorem (setting_of origin.load) r.joined s inv in
    let once = apart_counts r.joined known.1 in
    let low = counted_all r.joined (length origin.load.calls) (λ t m. numbered origin.load.calls t.call.call.number t.call.call.call (known.0 t m).0) in
    let high = sum_few (λ k. in_acts k r.joined) (length origin.load.calls) once in
    omega arith
