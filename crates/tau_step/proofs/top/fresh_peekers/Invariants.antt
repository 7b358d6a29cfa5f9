use Rattle.std.proofs.Common.{◌≡◌}
use Rattle.std.specs.Prelude.{replicate}
use Rattle.tau_occ.specs.Peeker.{blank_peeker}
use Rattle.tau_step.proofs.top.fresh_peekers.Given as goal

abbrev pub invariant-loop : goal.invariant-loop
invariant-loop l = l.peekers.items ≡ replicate l.counter blank_peeker
