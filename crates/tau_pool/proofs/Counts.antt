-- How many records wait, and how many are in flight.
use Rattle.std.proofs.Common.{ℕ, zero, suc, ◌≡◌, ◌+◌, ◌≤◌, Bool, true, false, List, [], ◌∷◌, length, refl, ap, ◌∙◌, arith}
use Rattle.std.specs.Prelude.{Some, slice_get, if◌then◌else◌}
use Rattle.std.proofs.Math.ListN.{set}
use Rattle.tau_pool.specs.Item.{Item}
use Rattle.tau_pool.specs.declared.item.Stage.{Stage}
use Rattle.tau_pool.specs.declared.item.Stage.TheVariants.{Waiting, Flying, Finished}
use Rattle.tau_pool.specs.Items.{is_waiting, is_flying}
use Rattle.tau_pool.specs.Pooled.{flying_in, waiting_in}
use Rattle.tau_base.proofs.Logic.{some_is}

abbrev pub one : Bool → ℕ
one b = if b then 1 else 0

pub waiting_set : (items : List Item) (i : ℕ) (x y : Item) → slice_get items i ≡ Some x → waiting_in (set items i y) + one (is_waiting x.stage) ≡ waiting_in items + one (is_waiting y.stage)
waiting_set [] i x y is = absurd cc
waiting_set (z ∷ zs) zero x y is = let same : z ≡ x = some_is z x is in rw same (omega arith)
waiting_set (z ∷ zs) (suc i) x y is = let h = waiting_set zs i x y is in omega (arith, h)

pub flying_set : (items : List Item) (i : ℕ) (x y : Item) → slice_get items i ≡ Some x → flying_in (set items i y) + one (is_flying x.stage) ≡ flying_in items + one (is_flying y.stage)
flying_set [] i x y is = absurd cc
flying_set (z ∷ zs) zero x y is = let same : z ≡ x = some_is z x is in rw same (omega arith)
flying_set (z ∷ zs) (suc i) x y is = let h = flying_set zs i x y is in omega (arith, h)

both_few : (s : Stage) → one (is_waiting s) + one (is_flying s) ≤ 1
both_few Waiting = omega arith
both_few Flying = omega arith
both_few Finished = omega arith

pub counts_few : (items : List Item) → waiting_in items + flying_in items ≤ length items
counts_few [] = omega arith
counts_few (z ∷ zs) = let h = counts_few zs in let a = both_few z.stage in omega (arith, h, a)

pub none_waiting : (items : List Item) → waiting_in items ≡ 0 → (i : ℕ) (x : Item) → slice_get items i ≡ Some x → is_waiting x.stage ≡ true → ⊥
none_waiting [] e i x is w = absurd cc
none_waiting (z ∷ zs) e zero x is w =
    let here : is_waiting z.stage ≡ true = ap (λ (q : Item). is_waiting q.stage) (some_is z x is) ∙ w in
    let counted : one (is_waiting z.stage) ≡ 1 = ap one here in
    omega (arith, e, counted)
none_waiting (z ∷ zs) e (suc i) x is w = none_waiting zs (omega (arith, e)) i x is w

pub some_waiting : (items : List Item) → 1 ≤ waiting_in items → (i : ℕ) × (x : Item) × (slice_get items i ≡ Some x) × (is_waiting x.stage ≡ true)
some_waiting [] e = absurd (omega (arith, e))
some_waiting (z ∷ zs) e = by_stage (λ le. some_waiting zs le) (is_waiting z.stage) refl e
  where
    by_stage : (1 ≤ waiting_in zs → (i : ℕ) × (x : Item) × (slice_get zs i ≡ Some x) × (is_waiting x.stage ≡ true)) → (b : Bool) → is_waiting z.stage ≡ b → 1 ≤ one b + waiting_in zs →
        (i : ℕ) × (x : Item) × (slice_get (z ∷ zs) i ≡ Some x) × (is_waiting x.stage ≡ true)
    by_stage more true is le = (0, z, refl, is)
    by_stage more false is le = let (i, x, there, w) = more (omega (arith, le)) in (suc i, x, there, w)

pub none_flying : (items : List Item) → flying_in items ≡ 0 → (i : ℕ) (x : Item) → slice_get items i ≡ Some x → is_flying x.stage ≡ true → ⊥
none_flying [] e i x is w = absurd cc
none_flying (z ∷ zs) e zero x is w =
    let here : is_flying z.stage ≡ true = ap (λ (q : Item). is_flying q.stage) (some_is z x is) ∙ w in
    let counted : one (is_flying z.stage) ≡ 1 = ap one here in
    omega (arith, e, counted)
none_flying (z ∷ zs) e (suc i) x is w = none_flying zs (omega (arith, e)) i x is w
