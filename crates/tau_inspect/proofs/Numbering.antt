-- Tables by number, with one number more.
use Rattle.std.proofs.Common.{ℕ, suc, ◌+◌, ◌-◌, ◌^◌, ◌<◌, ◌≤◌, ◌≡◌, ◌==◌, ◌||◌, Bool, zero, true, false, inl, inr, List, [], length, take, get_or, refl, sym, ap, subst, ◌∙◌, arith}
use Rattle.std.specs.Prelude.{Some, nat_lt, slice_get, slice_index, slice_set, if◌then◌else◌}
use Rattle.std.proofs.lemmas.Bool.{cases_Bool, both_ways}
use Rattle.std.proofs.lemmas.Bool.Decides.{nat_tests}
use Rattle.std.proofs.lemmas.List.{take_all, get_or-set_other, get_or-set_same}
use Rattle.std.proofs.Math.ListN.{length-set}
use Rattle.std.proofs.lemmas.List.Sums.{count_by-le-length, count_by_more_no, count_by_more_yes}
use Rattle.std.proofs.lemmas.List.Folds.{list_any_more}
use Rattle.std.proofs.lemmas.Option.{slice_get-get_or}
use Rattle.tau_base.proofs.Logic.{zeros}
use Rattle.tau_inspect.specs.ByNumber.{is_in, HasCounts, HasPlaces}

eq_is : (a b : ℕ) → (a == b) ≡ true → a ≡ b
eq_is a b e = grind (arith, nat_tests)

eq_not : (a b : ℕ) → (a == b) ≡ false → a ≡ b → ⊥
eq_not a b e is = (let s : (a == a) ≡ true = grind (arith, nat_tests) in both_ways (a == b) e (subst (λ (x : ℕ). (a == x) ≡ true) is s))

module _ (count : ℕ) (numbers : List ℕ) where
  -- where the first i numbers are
  pub record PlacesTo (i : ℕ) (places : List ℕ) : Type 0 where
    pub long : length places ≡ count + 1
    pub there : (k j : ℕ) → k ≤ count → slice_index places k ≡ suc j → slice_get numbers j ≡ Some k
    pub none : (k : ℕ) → k ≤ count → slice_index places k ≡ 0 → is_in k (take i numbers) ≡ false

  pub places_none : (places : List ℕ) → length places ≡ count + 1 → ((k : ℕ) → slice_index places k ≡ 0) → PlacesTo 0 places
  places_none places long zeros = record {
    long = long;
    there = λ k j le is. absurd (no_suc j (sym (zeros k) ∙ is));
    none = λ k le is. refl;
  }
    where
      no_suc : (j : ℕ) → 0 ≡ suc j → ⊥
      no_suc j e = omega arith

  pub places_all : (i : ℕ) (places : List ℕ) → length numbers ≤ i → PlacesTo i places → HasPlaces count numbers places
  places_all i places le p = record {
    long = p.long;
    there = p.there;
    none = λ k small is. subst (λ (l : List ℕ). is_in k l ≡ false) (take_all i numbers le) (p.none k small is);
  }

  pub places_more : (i : ℕ) (old new : List ℕ) → i < length numbers → PlacesTo i old →
      new ≡ (if nat_lt (get_or numbers i 0) (length old) then slice_set old (get_or numbers i 0) (i + 1) else old) → PlacesTo (i + 1) new
  places_more i old new lt p is = by_test (nat_lt (get_or numbers i 0) (length old)) refl
    where
      n : ℕ
      n = get_or numbers i 0

      more : (k : ℕ) → is_in k (take (i + 1) numbers) ≡ (is_in k (take i numbers) || (n == k))
      more k = list_any_more (λ m. m == k) numbers i 0 lt

      by_test : (b : Bool) → nat_lt n (length old) ≡ b → PlacesTo (i + 1) new
      by_test true e =
          let new_is : new ≡ slice_set old n (i + 1) = is ∙ ap (λ (b : Bool). if b then slice_set old n (i + 1) else old) e in
          let within : n < length old = grind (arith, nat_tests) in
          let here : slice_index new n ≡ i + 1 = ap (λ l. slice_index l n) new_is ∙ get_or-set_same old n (i + 1) 0 within in
          let other : (k : ℕ) → (k ≡ n → ⊥) → slice_index new k ≡ slice_index old k = λ k d. ap (λ l. slice_index l k) new_is ∙ get_or-set_other old n k (i + 1) 0 d in
          record {
            long = ap length new_is ∙ length-set old n (i + 1) ∙ p.long;
            there = λ k j le at. elim (cases_Bool (n == k)) [
              | inl s ↦
                  let same : n ≡ k = eq_is n k s in
                  let number : i + 1 ≡ suc j = sym here ∙ ap (slice_index new) same ∙ at in
                  let index : i ≡ j = omega arith in
                  subst (λ (x : ℕ). slice_get numbers x ≡ Some k) index (slice_get-get_or numbers i 0 lt ∙ ap (λ (x : ℕ). Some x) same)
              | inr s ↦ p.there k j le (sym (other k (λ e. eq_not n k s (sym e))) ∙ at)
            ];
            none = λ k le at. elim (cases_Bool (n == k)) [
              | inl s ↦ absurd (no_suc (slice_index new k) (sym (ap (slice_index new) (eq_is n k s)) ∙ here) at)
              | inr s ↦ more k ∙ rw (p.none k le (sym (other k (λ e. eq_not n k s (sym e))) ∙ at), s) refl
            ];
          }
        where
          no_suc : (m : ℕ) → m ≡ i + 1 → m ≡ 0 → ⊥
          no_suc m a b = omega (arith, a, b)
      by_test false e =
          let new_is : new ≡ old = is ∙ ap (λ (b : Bool). if b then slice_set old n (i + 1) else old) e in
          let out : length old ≤ n = grind (arith, nat_tests) in
          let far : (k : ℕ) → k ≤ count → (n == k) ≡ false = λ k le. (let d : k < n = omega (arith, p.long) in grind (arith, nat_tests)) in
          record {
            long = ap length new_is ∙ p.long;
            there = λ k j le at. p.there k j le (ap (λ l. slice_index l k) (sym new_is) ∙ at);
            none = λ k le at. more k ∙ rw (p.none k le (ap (λ l. slice_index l k) (sym new_is) ∙ at), far k le) refl;
          }

  pub counts_none : (counts : List ℕ) → length counts ≡ count + 1 → ((k : ℕ) → slice_index counts k ≡ 0) → HasCounts count [] counts
  counts_none counts long zeros = record { long = long; tells = λ k le. zeros k }

  pub counts_more : (i : ℕ) (old new : List ℕ) → i < length numbers → HasCounts count (take i numbers) old →
      new ≡ (if nat_lt (get_or numbers i 0) (length old) then slice_set old (get_or numbers i 0) (slice_index old (get_or numbers i 0) + 1) else old) → HasCounts count (take (i + 1) numbers) new
  counts_more i old new lt p is = by_test (nat_lt (get_or numbers i 0) (length old)) refl
    where
      n : ℕ
      n = get_or numbers i 0

      by_test : (b : Bool) → nat_lt n (length old) ≡ b → HasCounts count (take (i + 1) numbers) new
      by_test true e =
          let new_is : new ≡ slice_set old n (slice_index old n + 1) = is ∙ ap (λ (b : Bool). if b then slice_set old n (slice_index old n + 1) else old) e in
          let within : n < length old = grind (arith, nat_tests) in
          record {
            long = ap length new_is ∙ length-set old n (slice_index old n + 1) ∙ p.long;
            tells = λ k le. elim (cases_Bool (n == k)) [
              | inl s ↦
                  let same : n ≡ k = eq_is n k s in
                  let here : slice_index new n ≡ slice_index old n + 1 = ap (λ l. slice_index l n) new_is ∙ get_or-set_same old n (slice_index old n + 1) 0 within in
                  subst (λ (x : ℕ). slice_index new x ≡ slice_index old x + 1) same here ∙ ap (λ x. x + 1) (p.tells k le) ∙ sym (count_by_more_yes (λ m. m == k) numbers i 0 lt s)
              | inr s ↦ ap (λ l. slice_index l k) new_is ∙ get_or-set_other old n k (slice_index old n + 1) 0 (λ d. eq_not n k s (sym d)) ∙ p.tells k le ∙ sym (count_by_more_no (λ m. m == k) numbers i 0 lt s)
            ];
          }
      by_test false e =
          let new_is : new ≡ old = is ∙ ap (λ (b : Bool). if b then slice_set old n (slice_index old n + 1) else old) e in
          let out : length old ≤ n = grind (arith, nat_tests) in
          let far : (k : ℕ) → k ≤ count → (n == k) ≡ false = λ k le. (let d : k < n = omega (arith, p.long) in grind (arith, nat_tests)) in
          record {
            long = ap length new_is ∙ p.long;
            tells = λ k le. ap (λ l. slice_index l k) new_is ∙ p.tells k le ∙ sym (count_by_more_no (λ m. m == k) numbers i 0 lt (far k le));
          }

-- the count is one less than the places
pub places_again : (count : ℕ) (numbers places : List ℕ) → HasPlaces count numbers places → HasPlaces (length places - 1) numbers places
places_again count numbers places h = (let same : count ≡ length places - 1 = omega (arith, h.long) in subst (λ (n : ℕ). HasPlaces n numbers places) same h)

-- a number that is in the list has a place
some_place : (v : ℕ) (count k : ℕ) (numbers places : List ℕ) → HasPlaces count numbers places → k ≤ count → is_in k numbers ≡ true → slice_index places k ≡ v → 1 ≤ v
some_place zero count k numbers places h le there e = absurd (both_ways (is_in k numbers) (h.none k le e) there)
some_place (suc v) count k numbers places h le there e = omega arith

pub has_place : (count k : ℕ) (numbers places : List ℕ) → HasPlaces count numbers places → k ≤ count → is_in k numbers ≡ true → 1 ≤ slice_index places k
has_place count k numbers places h le there = some_place (slice_index places k) count k numbers places h le there refl

-- a count is no more than there are numbers
pub counts_small : (count k : ℕ) (numbers counts : List ℕ) → HasCounts count numbers counts → k < length counts → length numbers + 1 < 2 ^ 64 → slice_index counts k + 1 < 2 ^ 64
counts_small count k numbers counts h lt small = omega (arith, h.tells k (omega (arith, lt, h.long)), count_by-le-length (λ n. n == k) numbers, small)
