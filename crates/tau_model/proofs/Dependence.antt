-- Dependence and closed sets are the same in each order that keeps the conflicting pairs.
use Rattle.std.proofs.Common.{Bool, true, ◌≡◌, ◌⊎◌, inl, inr, List, [], ◌∷◌, sym, ap, subst, ◌∙◌}
use Rattle.std.specs.List.{filter}
use Rattle.std.proofs.lemmas.Bool.{or_cases}
use Rattle.tau_base.specs.Database.{Db}
use Rattle.tau_proc.specs.Effect.{Effect, has_key}
use Rattle.tau_proc.specs.Effect.{Sound}
use Rattle.tau_model.specs.History.{Act, trace, exec, redo, Member, Before, Reordered, Conflict, KeepsOrder, Closed, Depends, at_once, through}
use Rattle.tau_model.proofs.Orders.{Consistent, member_reordered, same_acts, trace_consistent, redo_trace}
use Rattle.tau_model.proofs.Reorder.{reordered_sym, reordered_filter}
use Rattle.tau_model.proofs.Calls.{closed_part}
use Rattle.tau_model.proofs.Logged.{member_first, member_second, before_filtered}
use Rattle.tau_base.proofs.Logic.{or_true, or_left}

pub conflict_sym : (e f : Effect) → Conflict e f → Conflict f e
conflict_sym e f (k, a, b, w) = (
  k,
  b,
  a,
  elim (or_cases (has_key k e.writes) (has_key k f.writes) w) [
    | inl p ↦ or_true (has_key k f.writes) (has_key k e.writes) p
    | inr p ↦ or_left (has_key k f.writes) (has_key k e.writes) p
  ],
)

-- of two members one is before the other, or they are the same
pub members_order : {A : Type 0} (u t : A) (xs : List A) → Member u xs → Member t xs → (Before u t xs ⊎ Before t u xs) ⊎ (t ≡ u)
members_order u t [] m n = absurd m
members_order u t (x ∷ xs) (inl a) (inl b) = inr (sym b ∙ a)
members_order u t (x ∷ xs) (inl a) (inr b) = inl (inl (inl (a, b)))
members_order u t (x ∷ xs) (inr a) (inl b) = inl (inr (inl (b, a)))
members_order u t (x ∷ xs) (inr a) (inr b) = elim (members_order u t xs a b) [
  | inl p ↦ inl (elim p [ inl q ↦ inl (inr q) | inr q ↦ inr (inr q) ])
  | inr e ↦ inr e
]

module _ {C : Type 0} (acts out : List (Act C)) (same : Reordered acts out) (keeps : KeepsOrder acts out) where
  before_there : (u t : Act C) → Before u t out → Conflict u.effect t.effect → Before u t acts ⊎ (t ≡ u)
  before_there u t b c =
      elim (members_order u t acts (member_reordered acts out same u (member_first u t out b)) (member_reordered acts out same t (member_second u t out b))) [
        | inl p ↦ elim p [ inl q ↦ inl q | inr q ↦ absurd (keeps t u q (conflict_sym u.effect t.effect c) b) ]
        | inr e ↦ inr e
      ]

  -- what depends there depends here
  pub depends_there : (t u : Act C) → Depends out t u → Depends acts t u ⊎ (t ≡ u)
  depends_there t u (at_once b c) = elim (before_there u t b c) [ inl p ↦ inl (at_once p c) | inr e ↦ inr e ]
  depends_there t u (through {v = v} d e) = joined (depends_there t v d) (depends_there v u e)
    where
      joined : Depends acts t v ⊎ (t ≡ v) → Depends acts v u ⊎ (v ≡ u) → Depends acts t u ⊎ (t ≡ u)
      joined (inl p) (inl q) = inl (through p q)
      joined (inl p) (inr q) = inl (subst (λ (z : Act C). Depends acts t z) q p)
      joined (inr p) (inl q) = inl (subst (λ (z : Act C). Depends acts z u) (sym p) q)
      joined (inr p) (inr q) = inr (p ∙ q)

  before_here : (u t : Act C) → Before u t acts → Conflict u.effect t.effect → Before u t out ⊎ (t ≡ u)
  before_here u t b c =
      let in_out : (a : Act C) → Member a acts → Member a out = λ a m. member_reordered out acts (reordered_sym acts out same) a m in
      elim (members_order u t out (in_out u (member_first u t acts b)) (in_out t (member_second u t acts b))) [
        | inl p ↦ elim p [ inl q ↦ inl q | inr q ↦ absurd (keeps u t b c q) ]
        | inr e ↦ inr e
      ]

  -- what depends here depends there
  pub depends_here : (t u : Act C) → Depends acts t u → Depends out t u ⊎ (t ≡ u)
  depends_here t u (at_once b c) = elim (before_here u t b c) [ inl p ↦ inl (at_once p c) | inr e ↦ inr e ]
  depends_here t u (through {v = v} d e) = joined (depends_here t v d) (depends_here v u e)
    where
      joined : Depends out t v ⊎ (t ≡ v) → Depends out v u ⊎ (v ≡ u) → Depends out t u ⊎ (t ≡ u)
      joined (inl p) (inl q) = inl (through p q)
      joined (inl p) (inr q) = inl (subst (λ (z : Act C). Depends out t z) q p)
      joined (inr p) (inl q) = inl (subst (λ (z : Act C). Depends out z u) (sym p) q)
      joined (inr p) (inr q) = inr (p ∙ q)

  pub closed_there : (chosen : C → Bool) → Closed acts chosen → Closed out chosen
  closed_there chosen closed t u d in' up = elim (depends_there t u d) [
    | inl p ↦ closed t u p in' up
    | inr e ↦ subst (λ (z : Act C). chosen z.call ≡ true) e in'
  ]

-- a closed set gives the same in both orders
pub part_there : {C : Type 0} (meaning : C → Db → Effect) (sound : Sound meaning) (h g : List C) (db : Db) (chosen : C → Bool) →
    Reordered (trace meaning h db) (trace meaning g db) → KeepsOrder (trace meaning h db) (trace meaning g db) → Closed (trace meaning h db) chosen →
    exec meaning (filter chosen g) db ≡ exec meaning (filter chosen h) db
part_there {C} meaning sound h g db chosen same keeps closed =
    let p : Act C → Bool = λ x. chosen x.call in
    let xs : List (Act C) = trace meaning h db in let ys : List (Act C) = trace meaning g db in
    let hs : trace meaning (filter chosen h) db ≡ filter p xs = closed_part meaning sound h chosen db closed in
    let gs : trace meaning (filter chosen g) db ≡ filter p ys = closed_part meaning sound g chosen db (closed_there xs ys same keeps chosen closed) in
    let part : Consistent meaning (filter p xs) db = subst (λ (zs : List (Act C)). Consistent meaning zs db) hs (trace_consistent meaning (filter chosen h) db) in
    let moved = same_acts meaning sound (filter p xs) (filter p ys) db part (reordered_filter p xs ys same)
    (λ u t b c v. keeps u t (before_filtered p u t xs b) c (before_filtered p t u ys v)) in
    sym (redo_trace meaning (filter chosen g) db) ∙ ap (λ (zs : List (Act C)). redo zs db) gs ∙ moved.1 ∙ ap (λ (zs : List (Act C)). redo zs db) (sym hs) ∙ redo_trace meaning (filter chosen h) db
