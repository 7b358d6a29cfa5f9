-- Seats of which the first so many have no call in hand.
use Rattle.std.proofs.Common.{ℕ, zero, suc, ◌≡◌, List, [], ◌∷◌, length, refl, ap}
use Rattle.std.specs.Prelude.{Some, None, map, slice_get, slice_set}
use Rattle.tau_core.specs.Plain.{PlainSeat}
use Rattle.tau_core.specs.Parts.{without_hand}

abbrev pub emptied : ℕ → List PlainSeat → List PlainSeat
emptied zero xs = xs
emptied (suc n) [] = []
emptied (suc n) (x ∷ xs) = without_hand x ∷ emptied n xs

pub emptied_at : (n : ℕ) (xs : List PlainSeat) → slice_get (emptied n xs) n ≡ slice_get xs n
emptied_at zero xs = refl
emptied_at (suc n) [] = refl
emptied_at (suc n) (x ∷ xs) = emptied_at n xs

pub emptied_next : (n : ℕ) (xs : List PlainSeat) (x : PlainSeat) → slice_get (emptied n xs) n ≡ Some x → slice_set (emptied n xs) n (without_hand x) ≡ emptied (suc n) xs
emptied_next zero [] x e = absurd (let bad : None ≡ Some x = e in cc)
emptied_next zero (y ∷ xs) x e = (let same : x ≡ y = cc in ap (λ (z : PlainSeat). without_hand z ∷ xs) same)
emptied_next (suc n) [] x e = absurd (let bad : None ≡ Some x = e in cc)
emptied_next (suc n) (y ∷ xs) x e = ap (λ (l : List PlainSeat). without_hand y ∷ l) (emptied_next n xs x e)

pub emptied_all : (xs : List PlainSeat) → emptied (length xs) xs ≡ map without_hand xs
emptied_all [] = refl
emptied_all (x ∷ xs) = ap (λ (l : List PlainSeat). without_hand x ∷ l) (emptied_all xs)

pub emptied_count : (n : ℕ) (xs : List PlainSeat) → length (emptied n xs) ≡ length xs
emptied_count zero xs = refl
emptied_count (suc n) [] = refl
emptied_count (suc n) (x ∷ xs) = ap (λ (k : ℕ). suc k) (emptied_count n xs)
