-- One record more is not left.
use Rattle.std.proofs.Common.{ℕ, List, ◌≡◌, ◌∙◌, true, inl, inr, length, refl, sym, ap, subst, arith}
use Rattle.std.specs.Prelude.{Some, slice_get}
use Rattle.std.proofs.lemmas.Bool.{cases_lt}
use Rattle.tau_pool.specs.Item.{Item}
use Rattle.tau_pool.specs.declared.item.Job.{Job}
use Rattle.tau_pool.specs.Pooled.{Pooled, IsFirstLeft}
use Rattle.tau_pool.proofs.pools.Pools.first_left.Goals as goal
use Rattle.tau_base.proofs.Lists.{some_at, got_within}

pub loop-place-preserved : goal.loop-place-preserved
loop-place-preserved c i x lt there left = elim (cases_lt i c.loop-place.place) [
  | inl a ↦ c.loop-place.invariant i x a there left
  | inr b ↦
      let e : i ≡ c.loop-place.place = omega (arith, lt, b) in
      let items = ap (λ (p : Pooled). p.items) c.self.view_is in
      let here : slice_get c.self.inside.items c.loop-place.place ≡ Some x = subst (λ (xs : List Item). slice_get xs c.loop-place.place ≡ Some x) (sym items) (subst (λ (n : ℕ). slice_get c.args.self.now.items n ≡ Some x) e there) in
      let on : c.is_left.result ≡ true = c.is_left.ensures x here ∙ left in
      let off = c.if-is_left.false in
      absurd cc
]

pub returns-then-is_left-clause-some : goal.returns-then-is_left-clause-some
returns-then-is_left-clause-some c =
    let items = ap (λ (p : Pooled). p.items) c.self.view_is in
    let (x, here) = some_at c.self.inside.items c.loop-place.place (omega (arith, c.loop-place-test.true, c.len-place-end.ensures)) in
    let there : slice_get c.args.self.now.items c.loop-place.place ≡ Some x = subst (λ (xs : List Item). slice_get xs c.loop-place.place ≡ Some x) items here in
    subst (λ (b : Job). IsFirstLeft c.args.self.now.items b) (sym (c.job.ensures.same x here)) (record {
      item = x;
      there = there;
      left = sym (c.is_left.ensures x here) ∙ c.if-is_left.true;
      named = refl;
      before = c.loop-place.invariant;
    })

pub returns-clause-none : goal.returns-clause-none
returns-clause-none c e i x there left =
    let same = ap (λ (p : Pooled). length p.items) c.self.view_is in
    let low = got_within c.args.self.now.items i x there in
    c.loop-place.invariant i x (omega (arith, low, same, c.loop-place-test.false, c.len-place-end.ensures)) there left
