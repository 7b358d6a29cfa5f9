use Rattle.std.proofs.Common.{◌∙◌, arith}
use Rattle.tau_base.proofs.Widths.{zeros_only}
use Rattle.tau_base.proofs.lv.Lv.set_zero.Goals as goal

pub returns : goal.returns
returns c = zeros_only c.set_width.new.self c.args.streams c.set_width.ensures.long (λ k lt. c.set_width.ensures.same k lt ∙ c.clear_from.ensures.high k (omega arith))
