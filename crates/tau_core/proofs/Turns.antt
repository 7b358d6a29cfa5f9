-- The calls of a worker, when none has begun: each has its number, no number comes twice, all are its own, and each number is there.
use Rattle.std.proofs.Common.{ℕ, zero, suc, ◌+◌, ◌-◌, ◌%◌, ◌<◌, ◌≤◌, ◌≡◌, Bool, false, ◌⊎◌, inl, inr, List, [], ◌∷◌, length, drop, refl, sym, ap, ◌∙◌, arith}
use Rattle.std.specs.Prelude.{Some, None, ◌==◌, if◌then◌else◌, slice_get}
use Rattle.std.proofs.Math.Nat.{add-mod_right, mod-eq_of_lt, mod-le}
use Rattle.std.proofs.lemmas.Bool.Decides.{leb_tells}
use Rattle.std.proofs.lemmas.List.{length-drop}
use Rattle.std.proofs.lemmas.Bool.{cases_eq, ne_eqb}
use Rattle.tau_base.specs.declared.value.Call.{Call}
use Rattle.tau_model.specs.History.{Numbered, Member}
use Rattle.tau_machine.specs.Accounts.{one, in_calls}
use Rattle.tau_core.specs.View.{call_of, worker_of, every, from_on}
use Rattle.tau_machine.proofs.Lists.{one_same}

-- so many steps of m up from a
abbrev up : ℕ → ℕ → ℕ → ℕ
up m zero a = a
up m (suc i) a = up m i (a + m)

up_high : (m i a : ℕ) → a ≤ up m i a
up_high m zero a = omega arith
up_high m (suc i) a = (let e = up_high m i (a + m) in omega arith)

up_suc : (m i a : ℕ) → up m i (a + 1) ≡ up m i a + 1
up_suc m zero a = refl
up_suc m (suc i) a = (let e : (a + 1) + m ≡ (a + m) + 1 = omega arith in ap (up m i) e ∙ up_suc m i (a + m))

up_mod : (m i a : ℕ) → up m i a % m ≡ a % m
up_mod m zero a = refl
up_mod m (suc i) a = up_mod m i (a + m) ∙ add-mod_right a m

up_plus : (m i a : ℕ) → up m i (a + m) ≡ up m i a + m
up_plus m zero a = refl
up_plus m (suc i) a = up_plus m i (a + m)

-- each number is so many steps up from its remainder; `left` is no less than it
steps_up : (m left x : ℕ) → 1 ≤ m → x ≤ left → (i : ℕ) × (x ≡ up m i (x % m))
steps_up m zero x low le =
    let lt : x < m = omega arith in
    (0, sym (mod-eq_of_lt lt))
steps_up m (suc left) x low le = elim (leb_tells m x) [
  | inl high ↦
      let q = steps_up m left (x - m) low (omega arith) in
      let back : (x - m) + m ≡ x = omega arith in
      let same : x % m ≡ (x - m) % m = ap (λ (y : ℕ). y % m) (sym back) ∙ add-mod_right (x - m) m in
      (suc q.0, sym back ∙ ap (λ (y : ℕ). y + m) q.1 ∙ sym (up_plus m q.0 ((x - m) % m)) ∙ ap (λ (y : ℕ). up m q.0 (y + m)) (sym same))
  | inr lt ↦ (0, sym (mod-eq_of_lt (omega arith)))
]

one_other : (n k : ℕ) → (n ≡ k → ⊥) → one n k ≡ 0
one_other n k ne = (let f : (n == k) ≡ false = ne_eqb n k ne in ap (λ (b : Bool). if b then 1 else 0) f)

none_zero : (x : ℕ) → (1 ≤ x → ⊥) → x ≡ 0
none_zero zero f = refl
none_zero (suc x) f = absurd (f (omega arith))

-- a number that stands at the first of them, or after it
found_here : (m k n x : ℕ) → 1 ≤ m → (n ≡ k) ⊎ (n ≡ k → ⊥) → (1 ≤ x → (i : ℕ) × (n ≡ up m i ((k + 1) + (m - 1)))) → 1 ≤ one n k + x → (i : ℕ) × (n ≡ up m i (k + zero))
found_here m k n x low (inl is) later e = (0, is ∙ (omega arith))
found_here m k n x low (inr ne) later e =
    let none : one n k ≡ 0 = one_other n k ne in
    let rest : 1 ≤ x = omega (arith, e, none) in
    let q = later rest in
    let f : (k + 1) + (m - 1) ≡ (k + zero) + m = omega arith in
    (suc q.0, q.1 ∙ ap (up m q.0) f)

once_here : (m k n x : ℕ) → (n ≡ k) ⊎ (n ≡ k → ⊥) → (1 ≤ x → (i : ℕ) × (n ≡ up m i ((k + 1) + (m - 1)))) → x ≤ 1 → one n k + x ≤ 1
once_here m k n x (inl is) later few =
    let first : one n k ≡ 1 = one_same n k is in
    let none : 1 ≤ x → ⊥ = λ e. high (later e) in
    let rest : x ≡ 0 = none_zero x none in
    omega (arith, first, rest)
  where
    high : (i : ℕ) × (n ≡ up m i ((k + 1) + (m - 1))) → ⊥
    high q = (let above = up_high m q.0 ((k + 1) + (m - 1)) in let there = q.1 in omega arith)
once_here m k n x (inr ne) later few =
    let first : one n k ≡ 0 = one_other n k ne in
    omega (arith, first, few)

-- a number that stands among every m-th of these calls is so many steps up
found_every : (m s k n : ℕ) (cs : List Call) → 1 ≤ m → 1 ≤ in_calls n (every m s k cs) → (i : ℕ) × (n ≡ up m i (k + s))
found_every m s k n [] low e = absurd (omega arith)
found_every m (suc s) k n (c ∷ cs) low e =
    let q = found_every m s (k + 1) n cs low e in
    let f : (k + 1) + s ≡ k + suc s = omega arith in
    (q.0, q.1 ∙ ap (up m q.0) f)
found_every m zero k n (c ∷ cs) low e = found_here m k n (in_calls n (every m (m - 1) (k + 1) cs)) low (cases_eq n k) (λ r. found_every m (m - 1) (k + 1) n cs low r) e

-- and stands there once
once_every : (m s k n : ℕ) (cs : List Call) → 1 ≤ m → in_calls n (every m s k cs) ≤ 1
once_every m s k n [] low = omega arith
once_every m (suc s) k n (c ∷ cs) low = once_every m s (k + 1) n cs low
once_every m zero k n (c ∷ cs) low = once_here m k n (in_calls n (every m (m - 1) (k + 1) cs)) (cases_eq n k) (λ r. found_every m (m - 1) (k + 1) n cs low r) (once_every m (m - 1) (k + 1) n cs low)

-- a number that is so many steps up, of a call that there is, stands there
stands_every : (m s k n i : ℕ) (cs : List Call) → 1 ≤ m → n ≡ up m i (k + s) → n < k + length cs → 1 ≤ in_calls n (every m s k cs)
stands_every m s k n i [] low is lt = (let high = up_high m i (k + s) in absurd (omega (arith, is, lt, high)))
stands_every m (suc s) k n i (c ∷ cs) low is lt =
    let f : k + suc s ≡ (k + 1) + s = omega arith in
    stands_every m s (k + 1) n i cs low (is ∙ ap (up m i) f) (omega arith)
stands_every m zero k n zero (c ∷ cs) low is lt =
    let first : one n k ≡ 1 = one_same n k (is ∙ omega arith) in
    omega (arith, first)
stands_every m zero k n (suc i) (c ∷ cs) low is lt =
    let f : (k + zero) + m ≡ (k + 1) + (m - 1) = omega arith in
    let rest = stands_every m (m - 1) (k + 1) n i cs low (is ∙ ap (up m i) f) (omega arith) in
    omega (arith, rest)

-- each of them has its number
place_every : (m s k : ℕ) (cs : List Call) (c : Numbered) → Member c (every m s k cs) → (i : ℕ) × (c.number ≡ k + i) × (slice_get cs i ≡ Some c.call)
place_every m s k [] c e = absurd e
place_every m (suc s) k (x ∷ cs) c e = (let q = place_every m s (k + 1) cs c e in let a = q.1 in (suc q.0, omega arith, q.2))
place_every m zero k (x ∷ cs) c (inl e) = (0, ap (λ (y : Numbered). y.number) (sym e) ∙ omega arith, ap (λ (y : Numbered). Some y.call) e)
place_every m zero k (x ∷ cs) c (inr e) = (let q = place_every m (m - 1) (k + 1) cs c e in let a = q.1 in (suc q.0, omega arith, q.2))

get_drop : (i j : ℕ) (cs : List Call) → slice_get (drop i cs) j ≡ slice_get cs (i + j)
get_drop zero j cs = (let e : j ≡ 0 + j = omega arith in ap (slice_get cs) e)
get_drop (suc i) j [] = refl
get_drop (suc i) j (c ∷ cs) = (let e : suc (i + j) ≡ suc i + j = omega arith in get_drop i j cs ∙ ap (slice_get (c ∷ cs)) e)

module _ (calls : List Call) (m w : ℕ) where
  pub call_there : (c : Numbered) → Member c (from_on calls m (w + 1)) → call_of calls c.number ≡ Some c.call
  call_there c e =
      let shift : (w + 1) - 1 ≡ w = omega arith in
      let q = place_every m 0 (w + 1) (drop ((w + 1) - 1) calls) c e in
      let is : c.number ≡ suc (w + q.0) = (let a = q.1 in omega arith) in
      let got : slice_get calls (w + q.0) ≡ Some c.call = sym (get_drop w q.0 calls) ∙ ap (λ k. slice_get (drop k calls) q.0) (sym shift) ∙ q.2 in
      let some : (suc (w + q.0) == 0) ≡ false = ne_eqb (suc (w + q.0)) 0 (λ f. absurd (omega arith)) in
      let less : suc (w + q.0) - 1 ≡ w + q.0 = omega arith in
      ap (call_of calls) is ∙ ap (λ (b : Bool). if b then None else slice_get calls (suc (w + q.0) - 1)) some ∙ ap (slice_get calls) less ∙ got

  pub once_there : (n : ℕ) → 1 ≤ m → in_calls n (from_on calls m (w + 1)) ≤ 1
  once_there n low = once_every m 0 (w + 1) n (drop ((w + 1) - 1) calls) low

  pub whose_there : (n : ℕ) → 1 ≤ m → w < m → 1 ≤ in_calls n (from_on calls m (w + 1)) → worker_of m n ≡ w
  whose_there n low there e =
      let q = found_every m 0 (w + 1) n (drop ((w + 1) - 1) calls) low e in
      let flat : (w + 1) + 0 ≡ w + 1 = omega arith in
      let is : n ≡ up m q.0 w + 1 = q.1 ∙ ap (up m q.0) flat ∙ up_suc m q.0 w in
      let less : n - 1 ≡ up m q.0 w = omega (arith, is) in
      ap (λ x. x % m) less ∙ up_mod m q.0 w ∙ mod-eq_of_lt there

-- each number is there, with its worker
pub stands_there : (calls : List Call) (m n : ℕ) → 1 ≤ m → 1 ≤ n → n ≤ length calls → 1 ≤ in_calls n (from_on calls m (worker_of m n + 1))
stands_there calls m n low some high =
    let w = worker_of m n in
    let q = steps_up m (n - 1) (n - 1) low (omega arith) in
    let flat : (w + 1) + 0 ≡ w + 1 = omega arith in
    let back : (n - 1) + 1 ≡ n = omega arith in
    let is : n ≡ up m q.0 ((w + 1) + 0) = sym back ∙ ap (λ (x : ℕ). x + 1) q.1 ∙ sym (up_suc m q.0 w) ∙ sym (ap (up m q.0) flat) in
    stands_every m 0 (w + 1) n q.0 (drop ((w + 1) - 1) calls) low is (let few = mod-le (n - 1) m in let long = length-drop ((w + 1) - 1) calls in omega (arith, few, long))
