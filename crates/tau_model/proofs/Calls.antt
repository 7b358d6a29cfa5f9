-- The same for lists of calls.
use Rattle.std.proofs.Common.{Bool, ◌≡◌, inl, inr, List, [], ◌∷◌, ◌++◌, map, refl, sym, ap, subst, ◌∙◌}
use Rattle.std.specs.List.{filter}
use Rattle.std.proofs.lemmas.Bool.{cases_Bool}
use Rattle.tau_base.specs.Database.{Db}
use Rattle.tau_proc.specs.Effect.{Effect}
use Rattle.tau_proc.specs.Effect.{Sound}
use Rattle.tau_model.specs.History.{Act, trace, exec, redo, Member, Before, Reordered, KeepsOrder, OrdersAlike, Closed, at_once}
use Rattle.tau_model.proofs.Orders.{trace_consistent, redo_trace, trace_calls, calls_trace, same_acts, same_part}
use Rattle.tau_base.proofs.Lists.{map_append}

-- a list whose map has two parts has two parts
part : {A B : Type 0} (f : A → B) (xs : List A) (front back : List B) → map f xs ≡ front ++ back →
    (us : List A) × (vs : List A) × (xs ≡ us ++ vs) × (map f us ≡ front) × (map f vs ≡ back)
part f xs [] back e = ([], xs, refl, refl, e)
part f [] (y ∷ front) back e = cc
part f (x ∷ xs) (y ∷ front) back e =
    let same : f x ≡ y = cc in let rest : map f xs ≡ front ++ back = cc in
    let (us, vs, is, p, q) = part f xs front back rest in
    (x ∷ us, vs, ap (λ zs. x ∷ zs) is, cc, q)

-- another order of what a function gives is what it gives of another order
pub lifted : {A B : Type 0} (f : A → B) (xs : List A) (bs : List B) → Reordered (map f xs) bs → (ys : List A) × Reordered xs ys × (map f ys ≡ bs)
lifted f [] bs e = ([], refl, sym e)
lifted {A} f (x ∷ xs) bs (front, back, e, r) =
    let (ys, rys, is) = lifted f xs (front ++ back) r in
    let (us, vs, split, p, q) = part f ys front back is in
    (us ++ x ∷ vs, (us, vs, refl, subst (λ (zs : List A). Reordered xs zs) split rys), map_append f us (x ∷ vs) ∙ cc)

pub member_map : {A B : Type 0} (f : A → B) (a : A) (xs : List A) → Member a xs → Member (f a) (map f xs)
member_map f a [] m = m
member_map f a (x ∷ xs) (inl e) = inl (ap f e)
member_map f a (x ∷ xs) (inr m) = inr (member_map f a xs m)

before_map : {A B : Type 0} (f : A → B) (u t : A) (xs : List A) → Before u t xs → Before (f u) (f t) (map f xs)
before_map f u t [] b = b
before_map f u t (x ∷ xs) (inl p) = inl (ap f p.0, member_map f t xs p.1)
before_map f u t (x ∷ xs) (inr b) = inr (before_map f u t xs b)

filter_map : {A B : Type 0} (f : A → B) (p : B → Bool) (xs : List A) → map f (filter (λ x. p (f x)) xs) ≡ filter p (map f xs)
filter_map f p [] = refl
filter_map f p (x ∷ xs) = elim (cases_Bool (p (f x))) [
  | inl e ↦ rw e (ap (λ zs. f x ∷ zs) (filter_map f p xs))
  | inr e ↦ rw e (filter_map f p xs)
]

module _ {C : Type 0} (meaning : C → Db → Effect) (sound : Sound meaning) where
  -- an order of the calls in which no conflicting pair stands the other way round: the same acts and the same database
  pub same_conflicts : (h g : List C) (db : Db) → Reordered h g → OrdersAlike (trace meaning h db) g →
      Reordered (trace meaning h db) (trace meaning g db) × (exec meaning g db ≡ exec meaning h db)
  same_conflicts h g db r alike =
      let xs : List (Act C) = trace meaning h db in
      let from : Reordered (map (λ (x : Act C). x.call) xs) g = subst (λ (cs : List C). Reordered cs g) (sym (calls_trace meaning h db)) r in
      let (ys, rys, is) = lifted (λ (x : Act C). x.call) xs g from in
      let keeps : KeepsOrder xs ys = λ u t b c v.
      alike u t b c (subst (λ (cs : List C). Before t.call u.call cs) is (before_map (λ (x : Act C). x.call) t u ys v)) in
      let same = same_acts meaning sound xs ys db (trace_consistent meaning h db) rys keeps in
      let there : trace meaning g db ≡ ys = subst (λ (cs : List C). trace meaning cs db ≡ ys) is (trace_calls meaning ys db same.0) in (
        subst (λ (zs : List (Act C)). Reordered xs zs) (sym there) rys,
        sym (redo_trace meaning g db) ∙ ap (λ (zs : List (Act C)). redo zs db) there ∙ same.1 ∙ redo_trace meaning h db,
      )

  -- a closed part does by itself what it does in the whole
  pub closed_part : (h : List C) (chosen : C → Bool) (db : Db) → Closed (trace meaning h db) chosen →
      trace meaning (filter chosen h) db ≡ filter (λ (x : Act C). chosen x.call) (trace meaning h db)
  closed_part h chosen db closed =
      let xs : List (Act C) = trace meaning h db in
      let part = same_part meaning sound xs (λ (x : Act C). chosen x.call) db (trace_consistent meaning h db) (λ u t b c. closed t u (at_once b c)) in
      let names : map (λ (x : Act C). x.call) (filter (λ (x : Act C). chosen x.call) xs) ≡ filter chosen h =
      filter_map (λ (x : Act C). x.call) chosen xs ∙ ap (filter chosen) (calls_trace meaning h db) in
      subst (λ (cs : List C). trace meaning cs db ≡ filter (λ (x : Act C). chosen x.call) xs) names
      (trace_calls meaning (filter (λ (x : Act C). chosen x.call) xs) db part)
