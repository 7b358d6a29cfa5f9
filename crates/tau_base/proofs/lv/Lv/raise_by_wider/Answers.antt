use Rattle.std.proofs.Common.{◌≡◌, ◌<◌, ◌∙◌, ℕ, length, arith, slice_index}
use Rattle.tau_base.proofs.Vectors.{join_widened}
use Rattle.tau_base.proofs.lv.Lv.raise_by_wider.Goals as goal

pub returns : goal.returns
returns c =
    let wide : length c.set_width.new.self ≡ length c.args.other.now = c.set_width.ensures.long ∙ c.width.ensures.same in
    let same : (k : ℕ) → k < length c.args.other.now → slice_index c.set_width.new.self k ≡ slice_index c.args.self.now k = λ k lt. c.set_width.ensures.same k (omega (arith, lt, c.width.ensures.same)) in
    c.raise_by_narrower.ensures ∙ join_widened c.args.self.now c.set_width.new.self c.args.other.now c.requires wide same
