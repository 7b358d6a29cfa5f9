-- Lists with one more element at the end.
use Rattle.std.proofs.Common.{◌≡◌, ◌⊎◌, inl, inr, List, [], ◌∷◌, ◌++◌, map, refl, subst}
use Rattle.tau_base.specs.Database.{Db, written}
use Rattle.tau_proc.specs.Effect.{Effect}
use Rattle.tau_model.specs.History.{Act, Member, Before, Depends, at_once, through, redo, trace}
use Rattle.tau_model.proofs.Orders.{Consistent, trace_consistent, member_front, member_back}

pub member_last : {A : Type 0} (xs : List A) (t : A) → Member t (xs ++ t ∷ [])
member_last xs t = member_back t xs (t ∷ []) (inl refl)

pub member_snoc : {A : Type 0} (xs : List A) (t a : A) → Member a (xs ++ t ∷ []) → Member a xs ⊎ (t ≡ a)
member_snoc [] t a (inl e) = inr e
member_snoc [] t a (inr m) = absurd m
member_snoc (x ∷ xs) t a (inl e) = inl (inl e)
member_snoc (x ∷ xs) t a (inr m) = elim (member_snoc xs t a m) [ inl n ↦ inl (inr n) | inr e ↦ inr e ]

pub before_front : {A : Type 0} (u t : A) (xs ys : List A) → Before u t xs → Before u t (xs ++ ys)
before_front u t [] ys b = absurd b
before_front u t (x ∷ xs) ys (inl p) = inl (p.0, member_front t xs ys p.1)
before_front u t (x ∷ xs) ys (inr b) = inr (before_front u t xs ys b)

pub before_snoc : {A : Type 0} (xs : List A) (z u t : A) → Before u t (xs ++ z ∷ []) → Before u t xs ⊎ (Member u xs × (z ≡ t))
before_snoc [] z u t (inl p) = absurd p.1
before_snoc [] z u t (inr b) = absurd b
before_snoc (x ∷ xs) z u t (inl p) = elim (member_snoc xs z t p.1) [ inl m ↦ inl (inl (p.0, m)) | inr e ↦ inr (inl p.0, e) ]
before_snoc (x ∷ xs) z u t (inr b) = elim (before_snoc xs z u t b) [ inl c ↦ inl (inr c) | inr p ↦ inr (inr p.0, p.1) ]

pub before_last : {A : Type 0} (xs : List A) (z u : A) → Member u xs → Before u z (xs ++ z ∷ [])
before_last [] z u m = absurd m
before_last (x ∷ xs) z u (inl e) = inl (e, member_last xs z)
before_last (x ∷ xs) z u (inr m) = inr (before_last xs z u m)

pub depends_front : {C : Type 0} (xs ys : List (Act C)) (t u : Act C) → Depends xs t u → Depends (xs ++ ys) t u
depends_front xs ys t u (at_once b c) = at_once (before_front u t xs ys b) c
depends_front xs ys t u (through {v = v} d e) = through (depends_front xs ys t v d) (depends_front xs ys v u e)

pub redo_append : {C : Type 0} (xs ys : List (Act C)) (db : Db) → redo (xs ++ ys) db ≡ redo ys (redo xs db)
redo_append [] ys db = refl
redo_append (x ∷ xs) ys db = redo_append xs ys (written x.effect.writes db)

pub consistent_snoc : {C : Type 0} (meaning : C → Db → Effect) (xs : List (Act C)) (t : Act C) (db : Db) →
    Consistent meaning xs db → meaning t.call (redo xs db) ≡ t.effect → Consistent meaning (xs ++ t ∷ []) db
consistent_snoc meaning [] t db h is = (is, tt)
consistent_snoc meaning (x ∷ xs) t db h is = (h.0, consistent_snoc meaning xs t (written x.effect.writes db) h.1 is)

-- acts that are the trace of their calls are what their calls mean one after another
pub consistent_from : {C : Type 0} (meaning : C → Db → Effect) (xs : List (Act C)) (db : Db) → trace meaning (map (λ x. x.call) xs) db ≡ xs → Consistent meaning xs db
consistent_from {C} meaning xs db e = subst (λ (l : List (Act C)). Consistent meaning l db) e (trace_consistent meaning (map (λ x. x.call) xs) db)
