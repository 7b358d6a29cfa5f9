use Rattle.std.proofs.Common.{◌≡◌, ◌≤◌, ◌∙◌, ℕ, List, take, ap, arith, slice_index}
use Rattle.tau_base.specs.declared.limits.TheConstants.{MAX_LSN, MAX_STREAMS}
use Rattle.tau_base.proofs.Widths.{zeros_left, first_positions, small_positions}
use Rattle.tau_base.proofs.lv.Lv.set_width.Goals as goal

pub invariant_of-self : goal.invariant_of-self
invariant_of-self c =
    let p = c.self.inside.parts in
    let w = c.self.inside.width in
    let cleared : (k : ℕ) → c.args.width ≤ k → slice_index (take w p) k ≡ 0 = λ k le. ap (λ (l : List ℕ). slice_index l k) c.self.view_is ∙ c.clear_from.ensures.high k le in (
      c.requires.low,
      c.requires.high,
      c.self.invariant.2,
      zeros_left MAX_STREAMS w c.args.width p c.self.invariant.2 c.self.invariant.3 cleared,
      small_positions MAX_STREAMS w c.args.width MAX_LSN p (omega arith) c.self.invariant.3 c.self.invariant.4,
    )

pub returns-clause-same : goal.returns-clause-same
returns-clause-same c = λ k lt.
    first_positions MAX_STREAMS c.self.inside.width c.args.width c.self.inside.parts c.self.invariant.3 k lt
    ∙ ap (λ (l : List ℕ). slice_index l k) c.self.view_is
    ∙ c.clear_from.ensures.low k lt
