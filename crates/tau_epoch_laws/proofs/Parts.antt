-- Lists in parts: members, what a test keeps, and parts in another order.
use Rattle.std.proofs.Common.{ℕ, zero, suc, ◌<◌, Bool, true, false, ◌≡◌, ◌⊎◌, inl, inr, List, [], ◌∷◌, ◌++◌, length, refl, sym, ap, subst, ◌∙◌, arith, append_assoc, slice_index_or}
use Rattle.std.specs.List.{Contains, filter}
use Rattle.std.proofs.lemmas.List.{append-nil}
use Rattle.std.proofs.lemmas.List.Elements.{filter-append}
use Rattle.tau_model.specs.History.{Member, Reordered}
use Rattle.tau_model.proofs.Reorder.{reordered_itself, reordered_trans, reordered_put}
use Rattle.tau_model.proofs.Replays.{reordered_behind}

pub in_either : {A : Type 0} (a : A) (xs ys : List A) → Member a (xs ++ ys) → Member a xs ⊎ Member a ys
in_either a [] ys m = inr m
in_either a (x ∷ xs) ys (inl e) = inl (inl e)
in_either a (x ∷ xs) ys (inr m) = elim (in_either a xs ys m) [ inl p ↦ inl (inr p) | inr p ↦ inr p ]

member_at : {A : Type 0} (a : A) (xs : List A) (k : ℕ) → k < length xs → slice_index_or xs k a ≡ a → Member a xs
member_at a [] k lt is = absurd (omega (arith, lt))
member_at a (x ∷ xs) zero lt is = inl is
member_at a (x ∷ xs) (suc k) lt is = inr (member_at a xs k (omega (arith, lt)) is)

pub member_of : {A : Type 0} (a : A) (xs : List A) → Contains xs a → Member a xs
member_of a xs c = member_at a xs c.0 c.1 c.2

pub contains_of : {A : Type 0} (a : A) (xs : List A) → Member a xs → Contains xs a
contains_of a [] m = absurd m
contains_of a (x ∷ xs) (inl e) = (0, omega arith, e)
contains_of a (x ∷ xs) (inr m) = let c = contains_of a xs m in let lt = c.1 in (suc c.0, omega (arith, lt), c.2)

-- ---- what a test keeps

pub filter_all : {A : Type 0} (p : A → Bool) (xs : List A) → ((x : A) → Member x xs → p x ≡ true) → filter p xs ≡ xs
filter_all p [] all = refl
filter_all {A} p (x ∷ xs) all = rw (all x (inl refl)) (ap (λ (l : List A). x ∷ l) (filter_all p xs (λ y m. all y (inr m))))

pub filter_none : {A : Type 0} (p : A → Bool) (xs : List A) → ((x : A) → Member x xs → p x ≡ false) → filter p xs ≡ []
filter_none p [] none = refl
filter_none p (x ∷ xs) none = rw (none x (inl refl)) (filter_none p xs (λ y m. none y (inr m)))

module _ {A : Type 0} (p : A → Bool) (xs ys : List A) where
  -- a test that keeps the first part
  pub filter_first : ((x : A) → Member x xs → p x ≡ true) → ((y : A) → Member y ys → p y ≡ false) → filter p (xs ++ ys) ≡ xs
  filter_first all none =
      filter-append p xs ys ∙ ap (λ (l : List A). l ++ filter p ys) (filter_all p xs all)
      ∙ ap (λ (l : List A). xs ++ l) (filter_none p ys none) ∙ append-nil xs

  -- a test that keeps the second part
  pub filter_second : ((x : A) → Member x xs → p x ≡ false) → ((y : A) → Member y ys → p y ≡ true) → filter p (xs ++ ys) ≡ ys
  filter_second none all =
      filter-append p xs ys ∙ ap (λ (l : List A). l ++ filter p ys) (filter_none p xs none) ∙ filter_all p ys all

-- ---- another order

-- the same elements after it
pub reordered_front : {A : Type 0} (xs ys zs : List A) → Reordered xs ys → Reordered (xs ++ zs) (ys ++ zs)
reordered_front {A} [] ys zs e = subst (λ (l : List A). Reordered zs (l ++ zs)) (sym e) (reordered_itself zs)
reordered_front {A} (x ∷ xs) ys zs (front, back, e, r) =
    let rest : Reordered (xs ++ zs) (front ++ (back ++ zs)) = subst (λ (l : List A). Reordered (xs ++ zs) l) (append_assoc front back zs) (reordered_front xs (front ++ back) zs r) in
    (front, back ++ zs, ap (λ (l : List A). l ++ zs) e ∙ append_assoc front (x ∷ back) zs, rest)

-- a part may be moved to the front
moved : {A : Type 0} (before part after : List A) → Reordered (before ++ (part ++ after)) (part ++ (before ++ after))
moved before [] after = reordered_itself (before ++ after)
moved before (x ∷ part) after = reordered_put x before (part ++ after) (part ++ (before ++ after)) (moved before part after)

-- two lists, each in two parts, part after part
pub reordered_parts : {A : Type 0} (a us b vs xs : List A) → Reordered (us ++ vs) xs → Reordered ((a ++ us) ++ (b ++ vs)) ((a ++ b) ++ xs)
reordered_parts {A} a us b vs xs r =
    let one : Reordered (us ++ (b ++ vs)) (b ++ xs) = reordered_trans (us ++ (b ++ vs)) (b ++ (us ++ vs)) (b ++ xs) (moved us b vs) (reordered_behind b (us ++ vs) xs r) in
    subst (λ (l : List A). Reordered l ((a ++ b) ++ xs)) (sym (append_assoc a us (b ++ vs)))
    (subst (λ (l : List A). Reordered (a ++ (us ++ (b ++ vs))) l) (sym (append_assoc a b xs)) (reordered_behind a (us ++ (b ++ vs)) (b ++ xs) one))
