use Rattle.std.proofs.Common.{ℕ, ◌≡◌, ◌≤◌, ◌<◌, inl, inr, List, length, Option, sym, subst, arith}
use Rattle.std.specs.Prelude.{OnSome, slice_index_or}
use Rattle.std.specs.List.{remove}
use Rattle.std.specs.List.Sorted.{IsNonDecreasing}
use Rattle.std.proofs.lemmas.Bool.{cases_lt}
use Rattle.std.proofs.lemmas.List.Quantifiers.{all_pairs_remove}
use Rattle.tau_core.specs.Plain.{PlainLeft}
use Rattle.tau_core.proofs.left_over.LeftOvers.remove.Goals as goal

removed : (xs : List ℕ) (n : ℕ) → n < length xs → IsNonDecreasing xs → IsNonDecreasing (remove xs n)
removed xs n lt a i j d le within = elim (cases_lt i j) [
  | inl below ↦ all_pairs_remove (λ (x y : ℕ). x ≤ y) xs n lt (λ k m e f g. a k m e (omega arith) g) i j d below within
  | inr above ↦ (let same : i ≡ j = omega arith in subst (λ (k : ℕ). slice_index_or (remove xs n) i d ≤ slice_index_or (remove xs n) k d) same (omega arith))
]

pub invariant_of-self : goal.invariant_of-self
invariant_of-self c = λ e.
    let xs : List ℕ = c.self.inside.numbers.items in
    let lt : c.args.at < length xs = subst (λ (x : PlainLeft). c.args.at < length x.numbers) (sym c.self.view_is) c.requires in
    let long = c.self.inside.numbers.ok.0 in
    let some = c.remove.ensures.succeeds 0 (omega arith) in
    let now : c.remove.new.self.items ≡ remove xs c.args.at = subst (λ (o : Option ℕ). OnSome o (c.remove.new.self.items ≡ remove xs c.args.at)) some c.remove.ensures.items in
    subst IsNonDecreasing (sym now) (removed xs c.args.at lt (c.self.invariant e))
