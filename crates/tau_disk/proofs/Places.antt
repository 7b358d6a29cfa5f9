-- Lists of disks, place by place.
use Rattle.std.proofs.Common.{ℕ, zero, suc, ◌≡◌, ◌≢◌, ◌+◌, ◌-◌, ◌<◌, ◌≤◌, List, [], ◌∷◌, ◌++◌, drop, length, refl, sym, ap, subst, ◌∙◌, arith, inl, inr}
use Rattle.std.specs.Prelude.{Some, slice_get}
use Rattle.std.proofs.Math.ListN.{set}
use Rattle.std.proofs.lemmas.Bool.{cases_eq}
use Rattle.std.proofs.lemmas.List.{drop-drop, drop-set-lt}
use Rattle.tau_disk.specs.Used.{EachIn, OfDisk}
use Rattle.tau_base.proofs.Logic.{some_is}

module _ {D : Type 0} where
  pub get_set_same : (xs : List D) (i : ℕ) (v : D) → i < length xs → slice_get (set xs i v) i ≡ Some v
  get_set_same [] i v lt = absurd (omega (arith, lt))
  get_set_same (x ∷ xs) zero v lt = refl
  get_set_same (x ∷ xs) (suc i) v lt = get_set_same xs i v (omega (arith, lt))

  pub get_set_other : (xs : List D) (i k : ℕ) (v : D) → k ≢ i → slice_get (set xs i v) k ≡ slice_get xs k
  get_set_other [] i k v other = refl
  get_set_other (x ∷ xs) zero zero v other = absurd (other refl)
  get_set_other (x ∷ xs) zero (suc k) v other = refl
  get_set_other (x ∷ xs) (suc i) zero v other = refl
  get_set_other (x ∷ xs) (suc i) (suc k) v other = get_set_other xs i k v (λ e. other (ap (λ (n : ℕ). suc n) e))

  pub get_append : (xs ys : List D) (i : ℕ) → i < length xs → slice_get (xs ++ ys) i ≡ slice_get xs i
  get_append [] ys i lt = absurd (omega (arith, lt))
  get_append (x ∷ xs) ys zero lt = refl
  get_append (x ∷ xs) ys (suc i) lt = get_append xs ys i (omega (arith, lt))

  pub get_seam : (xs : List D) (y : D) (ys : List D) (i : ℕ) → length xs ≡ i → slice_get (xs ++ y ∷ ys) i ≡ Some y
  get_seam [] y ys zero is = refl
  get_seam [] y ys (suc i) is = absurd (omega (arith, is))
  get_seam (x ∷ xs) y ys zero is = absurd (omega (arith, is))
  get_seam (x ∷ xs) y ys (suc i) is = get_seam xs y ys i (omega (arith, is))

  pub get_drop : (n : ℕ) (xs : List D) (k : ℕ) → slice_get (drop n xs) k ≡ slice_get xs (n + k)
  get_drop zero xs k = let e : k ≡ 0 + k = omega arith in ap (λ (i : ℕ). slice_get xs i) e
  get_drop (suc n) [] k = refl
  get_drop (suc n) (x ∷ xs) k = let e : suc (n + k) ≡ suc n + k = omega arith in get_drop n xs k ∙ ap (λ (i : ℕ). slice_get (x ∷ xs) i) e

  -- where the lists agree from a place on, they agree at each place after it
  pub get_dropped : (xs ys : List D) (n i : ℕ) → drop n xs ≡ drop n ys → n ≤ i → slice_get xs i ≡ slice_get ys i
  get_dropped xs ys n i same le =
      let e : n + (i - n) ≡ i = omega (arith, le) in
      ap (λ (k : ℕ). slice_get xs k) (sym e) ∙ sym (get_drop n xs (i - n)) ∙ ap (λ (zs : List D). slice_get zs (i - n)) same ∙ get_drop n ys (i - n) ∙ ap (λ (k : ℕ). slice_get ys k) e

  pub dropped_more : (xs ys : List D) (n m : ℕ) → drop n xs ≡ drop n ys → n ≤ m → drop m xs ≡ drop m ys
  dropped_more xs ys n m same le =
      let e : n + (m - n) ≡ m = omega (arith, le) in
      ap (λ (k : ℕ). drop k xs) (sym e) ∙ sym (drop-drop (m - n) n xs) ∙ ap (λ (zs : List D). drop (m - n) zs) same ∙ drop-drop (m - n) n ys ∙ ap (λ (k : ℕ). drop k ys) e

  -- the relation of each stream in a range

  pub each_weaker : (P Q : ℕ → Type 0) (R S : ℕ → D → D → Type 0) (old new : List D) → EachIn P R old new → ((i : ℕ) → Q i → P i) → ((i : ℕ) (d e : D) → R i d e → S i d e) → EachIn Q S old new
  each_weaker P Q R S old new each range weaker i d q was = let (e, is, r) = each i d (range i q) was in (e, is, weaker i d e r)

  pub each_then : (P : ℕ → Type 0) (R S T : ℕ → D → D → Type 0) (old mid new : List D) → EachIn P R old mid → EachIn P S mid new → ((i : ℕ) (d e f : D) → R i d e → S i e f → T i d f) → EachIn P T old new
  each_then P R S T old mid new first second joined i d p was =
      let (e, there, r) = first i d p was in
      let (f, is, s) = second i e p there in
      (f, is, joined i d e f r s)

  -- the disks of a range are as they were
  pub each_moved : (P : ℕ → Type 0) (R : ℕ → D → D → Type 0) (old mid new : List D) → EachIn P R old mid → ((i : ℕ) → P i → slice_get new i ≡ slice_get mid i) → EachIn P R old new
  each_moved P R old mid new each same i d p was = let (e, is, r) = each i d p was in (e, same i p ∙ is, r)

  pub each_same : (P : ℕ → Type 0) (R : ℕ → D → D → Type 0) (old new : List D) → ((i : ℕ) → P i → slice_get new i ≡ slice_get old i) → ((i : ℕ) (d : D) → R i d d) → EachIn P R old new
  each_same P R old new same stays i d p was = (d, same i p ∙ was, stays i d)

  -- one place more, where all is as it was from there on
  module _ (R : ℕ → D → D → Type 0) (old cur : List D) (j : ℕ) (d e : D) (rest : drop j cur ≡ drop j old) (lt : j < length cur) (here : slice_get cur j ≡ Some d) where
    pub was_here : (b : D) → slice_get old j ≡ Some b → b ≡ d
    was_here b was = some_is b d (sym was ∙ sym (get_dropped cur old j j rest (omega arith)) ∙ here)

    pub each_below : EachIn (λ i. i < j) R old cur → EachIn (λ i. i < j) R old (set cur j e)
    each_below each = each_moved (λ i. i < j) R old cur (set cur j e) each (λ i low. get_set_other cur j i e (λ same. omega (arith, low, same)))

    pub each_more : EachIn (λ i. i < j) R old cur → R j d e → EachIn (λ i. i < j + 1) R old (set cur j e)
    each_more each more i b low was = elim (cases_eq i j) [
      | inl same ↦
          let mine : slice_get old j ≡ Some b = subst (λ (k : ℕ). slice_get old k ≡ Some b) same was in
          let is : d ≡ b = sym (was_here b mine) in
          (e, subst (λ (k : ℕ). slice_get (set cur j e) k ≡ Some e) (sym same) (get_set_same cur j e lt), subst (λ (k : ℕ). R k b e) (sym same) (subst (λ (z : D). R j z e) is more))
      | inr other ↦ each_below each i b (omega (arith, low, other)) was
    ]

    pub at_here : (S : D → D → Type 0) → S d e → OfDisk S old (set cur j e) j
    at_here S more = (d, e, sym (get_dropped cur old j j rest (omega arith)) ∙ here, get_set_same cur j e lt, more)

    pub rest_more : drop (j + 1) (set cur j e) ≡ drop (j + 1) old
    rest_more = drop-set-lt (j + 1) cur j e (omega arith) ∙ dropped_more cur old j (j + 1) rest (omega arith)
