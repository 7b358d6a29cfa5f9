-- What is passed over for a stream is passed over for the next one.
use Rattle.std.proofs.Common.{ℕ, ◌≡◌, ◌+◌, ◌≤◌, ◌<◌, ◌∙◌, List, length, drop, ap, sym, true, arith}
use Rattle.std.specs.Prelude.{Some, slice_get}
use Rattle.tau_pool.specs.Item.{Item}
use Rattle.tau_pool.specs.First.{first_from}
use Rattle.tau_pool.specs.Passing.{is_passed}
use Rattle.tau_pool.proofs.Firsts.{first_skip, before_first, passed_more}
use Rattle.tau_pool.proofs.pools.first_after.Goals as goal

-- from the first place on
from_start : (j from : ℕ) (xs : List Item) → from ≤ length xs → ((k : ℕ) (x : Item) → k < from → slice_get xs k ≡ Some x → is_passed j x ≡ true) → first_from j from (drop from xs) ≡ first_from j 0 xs
from_start j from xs le all =
    let same : 0 + from ≡ from = omega arith in
    ap (λ (n : ℕ). first_from j n (drop from xs)) (sym same) ∙ sym (first_skip j 0 from xs le all)

pub returns-clause-same : goal.returns-clause-same
returns-clause-same c = c.first_left.ensures.same ∙ from_start c.args.j c.args.from c.args.items.now c.requires.from c.requires.passed

pub returns-clause-passed : goal.returns-clause-passed
returns-clause-passed c k x lt there =
    let is = c.first_left.ensures.same ∙ from_start c.args.j c.args.from c.args.items.now c.requires.from c.requires.passed in
    passed_more c.args.j x (before_first c.args.j 0 c.args.items.now k x (omega (arith, lt, is)) there)
