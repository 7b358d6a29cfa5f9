-- The first components are read.
use Rattle.std.proofs.Common.{length}
use Rattle.tau_inspect.proofs.Cutting.{ReadTo}
use Rattle.tau_inspect.proofs.quick.vector.Given as goal

abbrev pub invariant-loop-j : goal.invariant-loop-j
invariant-loop-j l = ReadTo (length l.initial.lv) l.text l.j l.lv l.rest
