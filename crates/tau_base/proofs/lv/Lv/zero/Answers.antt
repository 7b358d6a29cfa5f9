use Rattle.std.proofs.Common.{refl, arith}
use Rattle.tau_base.specs.declared.limits.TheConstants.{MAX_LSN, MAX_STREAMS}
use Rattle.tau_base.proofs.Widths.{zeros_dropped, zeros_small, zeros_taken}
use Rattle.tau_base.proofs.lv.Lv.zero.Goals as goal

pub invariant_of-result : goal.invariant_of-result
invariant_of-result c = (c.requires.low, c.requires.high, refl, zeros_dropped MAX_STREAMS c.args.streams, λ k lt. zeros_small MAX_STREAMS MAX_LSN k (omega arith))

pub returns : goal.returns
returns c = zeros_taken MAX_STREAMS c.args.streams c.requires.high
