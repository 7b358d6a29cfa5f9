-- One record more that waits for a stream, or does not.
use Rattle.std.proofs.Common.{ℕ, suc, ◌≡◌, ◌+◌, ◌∙◌, true, false, List, [], ◌∷◌, ◌++◌, drop, refl, ap, arith}
use Rattle.std.specs.Prelude.{Some, slice_get}
use Rattle.tau_pool.specs.Item.{Item}
use Rattle.tau_pool.specs.declared.waits.Wait.{Wait}
use Rattle.tau_pool.specs.Passing.{wait_of, waits_for, waits_at}
use Rattle.tau_base.proofs.Lists.{drop_at}

module _ (k reach : ℕ) (items : List Item) (i : ℕ) (x : Item) (there : slice_get items i ≡ Some x) where
  next : suc i ≡ i + 1
  next = omega arith

  step_off : waits_for k reach x ≡ false → waits_at k reach i (x ∷ drop (suc i) items) ≡ waits_at k reach (suc i) (drop (suc i) items)
  step_off is = rw is refl

  step_on : waits_for k reach x ≡ true → waits_at k reach i (x ∷ drop (suc i) items) ≡ wait_of k i x ∷ waits_at k reach (suc i) (drop (suc i) items)
  step_on is = rw is refl

  pub wait_passed : waits_for k reach x ≡ false → waits_at k reach i (drop i items) ≡ waits_at k reach (i + 1) (drop (i + 1) items)
  wait_passed is = ap (waits_at k reach i) (drop_at items i x there) ∙ step_off is ∙ ap (λ (n : ℕ). waits_at k reach n (drop n items)) next

  pub wait_put : waits_for k reach x ≡ true → waits_at k reach i (drop i items) ≡ wait_of k i x ∷ waits_at k reach (i + 1) (drop (i + 1) items)
  wait_put is = ap (waits_at k reach i) (drop_at items i x there) ∙ step_on is ∙ ap (λ (n : ℕ). wait_of k i x ∷ waits_at k reach n (drop n items)) next

pub put_after : (ws : List Wait) (w : Wait) (rest : List Wait) → (ws ++ w ∷ []) ++ rest ≡ ws ++ w ∷ rest
put_after [] w rest = refl
put_after (v ∷ ws) w rest = ap (λ (zs : List Wait). v ∷ zs) (put_after ws w rest)
