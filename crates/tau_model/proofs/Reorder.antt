-- Lists with the same elements in another order.
use Rattle.std.proofs.Common.{Bool, ◌≡◌, ◌⊎◌, inl, inr, List, [], ◌∷◌, ◌++◌, refl, sym, ap, subst, ◌∙◌, append_assoc, length, length-append, arith}
use Rattle.std.specs.List.{filter}
use Rattle.std.proofs.lemmas.List.Elements.{filter-append}
use Rattle.std.proofs.lemmas.Bool.{cases_Bool}
use Rattle.tau_model.specs.History.{Reordered}

pub reordered_itself : {A : Type 0} (xs : List A) → Reordered xs xs
reordered_itself [] = refl
reordered_itself (x ∷ xs) = ([], xs, refl, reordered_itself xs)

-- two ways to cut a list at an element: the element stands in front of the other cut, or after it
pub two_cuts : {A : Type 0} (front back us vs : List A) (x : A) → front ++ back ≡ us ++ x ∷ vs →
    ((mid : List A) × (front ≡ us ++ x ∷ mid) × (vs ≡ mid ++ back)) ⊎ ((mid : List A) × (us ≡ front ++ mid) × (back ≡ mid ++ x ∷ vs))
two_cuts [] back us vs x e = inr (us, refl, e)
two_cuts (a ∷ front) back [] vs x e =
    let same : a ≡ x = cc in let rest : front ++ back ≡ vs = cc in inl (front, cc, sym rest)
two_cuts (a ∷ front) back (b ∷ us) vs x e =
    let same : a ≡ b = cc in let rest : front ++ back ≡ us ++ x ∷ vs = cc in
    elim (two_cuts front back us vs x rest) [
      | inl w ↦ inl (w.0, (let p = w.1 in cc), w.2)
      | inr w ↦ inr (w.0, (let p = w.1 in cc), w.2)
    ]

-- an element of the first list stands somewhere in the second, and without it the others are reordered
pub pulled : {A : Type 0} (x : A) (front back zs : List A) → Reordered (front ++ x ∷ back) zs →
    (us : List A) × (vs : List A) × (zs ≡ us ++ x ∷ vs) × Reordered (front ++ back) (us ++ vs)
pulled x [] back zs r = r
pulled {A} x (y ∷ front) back zs (g, h, e, r) =
    let (us, vs, is, rest) = pulled x front back (g ++ h) r in
    elim (two_cuts g h us vs x is) [
      | inl w ↦
          let first : zs ≡ us ++ x ∷ (w.0 ++ y ∷ h) = e ∙ ap (λ (l : List A). l ++ y ∷ h) w.1 ∙ append_assoc us (x ∷ w.0) (y ∷ h) in
          let others : us ++ vs ≡ (us ++ w.0) ++ h = ap (λ (l : List A). us ++ l) w.2 ∙ sym (append_assoc us w.0 h) in
          (us, w.0 ++ y ∷ h, first, (us ++ w.0, h, sym (append_assoc us w.0 (y ∷ h)), subst (λ (l : List A). Reordered (front ++ back) l) others rest))
      | inr w ↦
          let first : zs ≡ (g ++ y ∷ w.0) ++ x ∷ vs = e ∙ ap (λ (l : List A). g ++ y ∷ l) w.2 ∙ sym (append_assoc g (y ∷ w.0) (x ∷ vs)) in
          let others : us ++ vs ≡ g ++ (w.0 ++ vs) = ap (λ (l : List A). l ++ vs) w.1 ∙ append_assoc g w.0 vs in
          (g ++ y ∷ w.0, vs, first, (g, w.0 ++ vs, append_assoc g (y ∷ w.0) vs, subst (λ (l : List A). Reordered (front ++ back) l) others rest))
    ]

pub reordered_trans : {A : Type 0} (xs ys zs : List A) → Reordered xs ys → Reordered ys zs → Reordered xs zs
reordered_trans {A} [] ys zs e s = subst (λ (l : List A). Reordered l zs) e s
reordered_trans {A} (x ∷ xs) ys zs (front, back, e, r) s =
    let (us, vs, is, rest) = pulled x front back zs (subst (λ (l : List A). Reordered l zs) e s) in
    (us, vs, is, reordered_trans xs (front ++ back) (us ++ vs) r rest)

-- an element may be put anywhere into the first list
pub reordered_put : {A : Type 0} (x : A) (front back zs : List A) → Reordered (front ++ back) zs → Reordered (front ++ x ∷ back) (x ∷ zs)
reordered_put x [] back zs r = ([], zs, refl, r)
reordered_put x (y ∷ front) back zs (g, h, e, r) = (x ∷ g, h, ap (λ l. x ∷ l) e, reordered_put x front back (g ++ h) r)

pub reordered_sym : {A : Type 0} (xs ys : List A) → Reordered xs ys → Reordered ys xs
reordered_sym {A} [] ys e = subst (λ (l : List A). Reordered l []) (sym e) refl
reordered_sym {A} (x ∷ xs) ys (front, back, e, r) =
    subst (λ (l : List A). Reordered l (x ∷ xs)) (sym e) (reordered_put x front back xs (reordered_sym xs (front ++ back) r))

pub reordered_filter : {A : Type 0} (p : A → Bool) (xs ys : List A) → Reordered xs ys → Reordered (filter p xs) (filter p ys)
reordered_filter {A} p [] ys e = subst (λ (l : List A). filter p l ≡ []) (sym e) refl
reordered_filter {A} p (x ∷ xs) ys (front, back, e, r) =
    let rest : Reordered (filter p xs) (filter p front ++ filter p back) = subst (λ (l : List A). Reordered (filter p xs) l) (filter-append p front back) (reordered_filter p xs (front ++ back) r) in
    subst (λ (l : List A). Reordered (filter p (x ∷ xs)) (filter p l)) (sym e) (elim (cases_Bool (p x)) [
      | inl t ↦ rw t (filter p front, filter p back, filter-append p front (x ∷ back) ∙ rw t refl, rest)
      | inr t ↦ rw t (subst (λ (l : List A). Reordered (filter p xs) l) (sym (filter-append p front (x ∷ back) ∙ rw t refl)) rest)
    ])

pub reordered_length : {A : Type 0} (xs ys : List A) → Reordered xs ys → length xs ≡ length ys
reordered_length [] ys e = rw e refl
reordered_length {A} (x ∷ xs) ys (front, back, e, r) =
    let rest : length xs ≡ length (front ++ back) = reordered_length xs (front ++ back) r in
    let whole : length ys ≡ length (front ++ x ∷ back) = ap (λ (l : List A). length l) e in
    omega (arith, length-append front (x ∷ back), length-append front back)
