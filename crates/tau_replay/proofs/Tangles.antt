-- Where recovery gets stuck is the same wherever it began.
use Rattle.std.proofs.Common.{ℕ, ◌≤◌, ◌⊎◌, inl, inr, List, [], ◌∷◌, ◌++◌, map, refl, sym, subst, arith, slice_index}
use Rattle.tau_model.specs.History.{Member, Reordered}
use Rattle.tau_model.specs.Logged.{StartBehind, Orderly}
use Rattle.tau_model.proofs.Orders.{member_back, member_reordered}
use Rattle.tau_model.proofs.Reorder.{reordered_sym}
use Rattle.tau_scan.specs.declared.log.Log.{Log}
use Rattle.tau_scan.specs.Taken.{Kept, taken}
use Rattle.tau_replay.specs.Redone.{IsTangledAt, WaitsFor}
use Rattle.tau_replay.specs.Laws.{TangledAlike, TangledHasNoOrder, place_of}

parts : (a : Kept) (xs ys : List Kept) → Member a (xs ++ ys) → Member a xs ⊎ Member a ys
parts a [] ys m = inr m
parts a (x ∷ xs) ys (inl e) = inl (inl e)
parts a (x ∷ xs) ys (inr m) = elim (parts a xs ys m) [ inl n ↦ inl (inr n) | inr n ↦ inr n ]

behind_each : (v : List ℕ) (xs : List Kept) (q : Kept) → StartBehind v (map place_of xs) → Member q xs → slice_index v q.place.stream ≤ q.place.start
behind_each v [] q h m = absurd m
behind_each v (x ∷ xs) q h (inl e) = subst (λ (z : Kept). slice_index v z.place.stream ≤ z.place.start) e h.0
behind_each v (x ∷ xs) q h (inr m) = behind_each v xs q h.1 m

-- records that wait for one another stand in no orderly list that waits for nothing after it
apart : (done left rest : List Kept) → Orderly (map place_of done) → ((r : Kept) → Member r done → WaitsFor r left → ⊥) →
    ((r : Kept) → Member r rest → Member r done ⊎ Member r left) → ((r : Kept) → Member r rest → WaitsFor r rest) → (r : Kept) → Member r done → Member r rest → ⊥
apart [] left rest orderly free among stuck r m n = m
apart (d ∷ done) left rest orderly free among stuck r m n = elim m [
  | inl e ↦ first (subst (λ (z : Kept). Member z rest) (sym e) n)
  | inr later ↦ apart done left rest orderly.1 (λ x k. free x (inr k)) others stuck r later n
]
  where
    first : Member d rest → ⊥
    first k =
        let (q, there, low) = stuck d k in
        elim (among q there) [
          | inl here ↦ let high = behind_each d.place.dep (d ∷ done) q orderly.0 here in omega (arith, low, high)
          | inr behind ↦ free d (inl refl) (q, behind, low)
        ]

    others : (x : Kept) → Member x rest → Member x done ⊎ Member x left
    others x k = elim (among x k) [
      | inl (inl e) ↦ absurd (first (subst (λ (z : Kept). Member z rest) (sym e) k))
      | inl (inr later) ↦ inl later
      | inr behind ↦ inr behind
    ]

-- what is left in one is among what is done and left in the other
across : (log : Log) (done left other rest : List Kept) → Reordered (taken log) (done ++ left) → Reordered (taken log) (other ++ rest) → (r : Kept) → Member r rest → Member r done ⊎ Member r left
across log done left other rest one two r m =
    parts r done left (member_reordered (done ++ left) (taken log) (reordered_sym (taken log) (done ++ left) one) r (member_reordered (taken log) (other ++ rest) two r (member_back r other rest m)))

within : (log : Log) (j at k other : ℕ) (a : IsTangledAt log j at) (b : IsTangledAt log k other) → (r : Kept) → Member r b.rest → Member r a.rest
within log j at k other a b r m =
    let among = across log a.done a.rest b.done b.rest a.parts b.parts in
    elim (among r m) [
      | inl done ↦ absurd (apart a.done a.rest b.rest a.orderly a.free among b.stuck r done m)
      | inr left ↦ left
    ]

pub tangled_alike : TangledAlike
tangled_alike log j at k other a b =
    let one = b.lowest a.first (within log k other j at b a a.first a.among) in
    let two = a.lowest b.first (within log j at k other a b b.first b.among) in
    let s = a.stream in
    let t = b.stream in
    let p = a.start in
    let q = b.start in
    elim one [
      | inl low ↦ elim two [
        | inl lower ↦ absurd (omega (arith, low, lower, s, t))
        | inr same ↦ absurd (omega (arith, low, same.0, s, t))
      ]
      | inr is ↦ elim two [
        | inl lower ↦ absurd (omega (arith, is.0, lower, s, t))
        | inr same ↦ (omega (arith, is.0, s), omega (arith, is.1, same.1, p, q))
      ]
    ]

pub tangled_has_no_order : TangledHasNoOrder
tangled_has_no_order log j at order a is =
    let among : (r : Kept) → Member r a.rest → Member r order ⊎ Member r [] = λ r m. inl (member_reordered order (taken log) (reordered_sym (taken log) order is.each_once) r (member_reordered (taken log) (a.done ++ a.rest) a.parts r (member_back r a.done a.rest m))) in
    elim (among a.first a.among) [
      | inl there ↦ apart order [] a.rest is.orderly (λ r m w. w.1) among a.stuck a.first there a.among
      | inr none ↦ none
    ]
