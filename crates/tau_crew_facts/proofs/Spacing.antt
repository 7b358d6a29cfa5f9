-- Anchors stand in their distance.
use Rattle.std.proofs.Common.{ℕ, suc, ◌+◌, ◌<◌, ◌≤◌, ◌≡◌, Bool, true, false, ◌⊎◌, inl, inr, List, [], ◌∷◌, ◌++◌, length, refl, sym, ap, subst, ◌∙◌, arith, length-append}
use Rattle.std.specs.Prelude.{◌&&◌, nat_le, nat_lt, if◌then◌else◌}
use Rattle.std.proofs.lemmas.Bool.Decides.{leb_tells}
use Rattle.tau_base.specs.declared.limits.TheConstants.{ANCHOR_BYTES, MAX_ANCHORS, MAX_BODY}
use Rattle.tau_crew_facts.specs.Spacing.{Spaced, newest, IsSpacing, Flushes, placed_after}

-- ---- the loop of a manager, step by step

pub spaced_more : (base x : ℕ) (xs : List ℕ) → Spaced base xs → newest base xs + ANCHOR_BYTES ≤ x → x < newest base xs + ANCHOR_BYTES + MAX_BODY → Spaced base (xs ++ x ∷ [])
spaced_more base x [] s low high = (low, high, tt)
spaced_more base x (y ∷ xs) s low high = (s.0, s.1, spaced_more y x xs s.2 low high)

pub newest_more : (base x : ℕ) (xs : List ℕ) → newest base (xs ++ x ∷ []) ≡ x
newest_more base x [] = refl
newest_more base x (y ∷ xs) = newest_more y x xs

-- at first
pub spacing_begins : (before base : ℕ) → IsSpacing before base base []
spacing_begins before base = record { spaced = tt; low = omega arith; near = λ few. omega arith }

-- a flush after which no anchor is due, or none can be placed
pub spacing_stays : (before base durable upto : ℕ) (xs : List ℕ) → IsSpacing before base durable xs → durable ≤ upto → (before + length xs < MAX_ANCHORS → upto < newest base xs + ANCHOR_BYTES) → IsSpacing before base upto xs
spacing_stays before base durable upto xs s le near = record { spaced = s.spaced; low = (let a = s.low in omega (arith, a, le)); near = near }

-- a flush after which one is placed, whose own component is what is durable now
pub spacing_places : (before base durable upto : ℕ) (xs : List ℕ) → IsSpacing before base durable xs → before + length xs < MAX_ANCHORS → upto ≤ durable + MAX_BODY → newest base xs + ANCHOR_BYTES ≤ upto → IsSpacing before base upto (xs ++ upto ∷ [])
spacing_places before base durable upto xs s few block due =
    let near = s.near few in
    let last : newest base (xs ++ upto ∷ []) ≡ upto = newest_more base upto xs in
    record {
      spaced = spaced_more base upto xs s.spaced due (omega (arith, near, block));
      low = omega (arith, last);
      near = λ more. omega (arith, last);
    }

-- ---- the whole loop, as a function of where its flushes end

-- the test of the loop
abbrev is_due : ℕ → ℕ → ℕ → Bool
is_due count last d = nat_lt count MAX_ANCHORS && nat_le (last + ANCHOR_BYTES) d

due_tells : (count last d : ℕ) → ((is_due count last d ≡ true) × (count < MAX_ANCHORS) × (last + ANCHOR_BYTES ≤ d)) ⊎ ((is_due count last d ≡ false) × (count < MAX_ANCHORS → d < last + ANCHOR_BYTES))
due_tells count last d = elim (leb_tells (suc count) MAX_ANCHORS) [
  | inr full ↦ inr (ap (λ (b : Bool). b && nat_le (last + ANCHOR_BYTES) d) full.0, λ few. absurd (let no = full.1 in omega (arith, no, few)))
  | inl few ↦ elim (leb_tells (last + ANCHOR_BYTES) d) [
    | inl due ↦ inl (ap (λ (b : Bool). b && nat_le (last + ANCHOR_BYTES) d) few.0 ∙ due.0, (let a = few.1 in omega (arith, a)), due.1)
    | inr not_due ↦ inr (ap (λ (b : Bool). b && nat_le (last + ANCHOR_BYTES) d) few.0 ∙ not_due.0, λ a. (let e = not_due.1 in omega (arith, e)))
  ]
]

pub spacing_loop : (before base durable : ℕ) (xs ds : List ℕ) → IsSpacing before base durable xs → Flushes durable ds → IsSpacing before base (newest durable ds) (xs ++ placed_after (before + length xs) (newest base xs) ds)
spacing_loop before base durable xs [] s f = subst (λ (ys : List ℕ). IsSpacing before base durable ys) (sym (nil xs)) s
  where
    nil : (ys : List ℕ) → ys ++ [] ≡ ys
    nil [] = refl
    nil (y ∷ ys) = ap (λ (zs : List ℕ). y ∷ zs) (nil ys)
spacing_loop before base durable xs (d ∷ ds) s f = elim (due_tells (before + length xs) (newest base xs) d) [
  | inl (due, few, le) ↦
      let rest = spacing_loop before base d (xs ++ d ∷ []) ds (spacing_places before base durable d xs s few f.1 le) f.2 in
      let last : newest base (xs ++ d ∷ []) ≡ d = newest_more base d xs in
      let count : before + length (xs ++ d ∷ []) ≡ before + length xs + 1 = (let e = length-append xs (d ∷ []) in omega (arith, e)) in
      let here : placed_after (before + length xs) (newest base xs) (d ∷ ds) ≡ d ∷ placed_after (before + length xs + 1) d ds =
      ap (λ (b : Bool). if b then d ∷ placed_after (before + length xs + 1) d ds else placed_after (before + length xs) (newest base xs) ds) due in
      subst (λ (ys : List ℕ). IsSpacing before base (newest d ds) ys)
      (ap (λ (k : ℕ). (xs ++ d ∷ []) ++ placed_after (before + length (xs ++ d ∷ [])) k ds) last ∙ ap (λ (k : ℕ). (xs ++ d ∷ []) ++ placed_after k d ds) count ∙ assoc xs d (placed_after (before + length xs + 1) d ds) ∙ ap (λ (ys : List ℕ). xs ++ ys) (sym here)) rest
  | inr (not_due, near) ↦
      let rest = spacing_loop before base d xs ds (spacing_stays before base durable d xs s f.0 near) f.2 in
      let here : placed_after (before + length xs) (newest base xs) (d ∷ ds) ≡ placed_after (before + length xs) (newest base xs) ds =
      ap (λ (b : Bool). if b then d ∷ placed_after (before + length xs + 1) d ds else placed_after (before + length xs) (newest base xs) ds) not_due in
      subst (λ (ys : List ℕ). IsSpacing before base (newest d ds) ys) (ap (λ (ys : List ℕ). xs ++ ys) (sym here)) rest
]
  where
    assoc : (ys : List ℕ) (y : ℕ) (zs : List ℕ) → (ys ++ y ∷ []) ++ zs ≡ ys ++ y ∷ zs
    assoc [] y zs = refl
    assoc (x ∷ ys) y zs = ap (λ (ws : List ℕ). x ∷ ws) (assoc ys y zs)
