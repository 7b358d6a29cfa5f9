-- The streams so far go on one after another.
use Rattle.std.proofs.Common.{ℕ, suc, ◌<◌, ◌≡◌}
use Rattle.std.specs.Prelude.{slice_index}
use Rattle.tau_inspect.proofs.walk.is_whole_way.Given as goal

abbrev pub invariant-loop-k : goal.invariant-loop-k
invariant-loop-k l = (j : ℕ) → j < l.k → slice_index l.last j ≡ slice_index l.first (suc j)
