use Rattle.std.proofs.Common.{length, ◌-◌, ◌≤◌}
use Rattle.tau_block.specs.Image.{IsWalked}
use Rattle.tau_block.proofs.content.blocks_of.Given as goal

abbrev pub invariant-loop-gate_at : goal.invariant-loop-gate_at
invariant-loop-gate_at l = IsWalked l.image l.gate_at l.bytes.items × (length l.bytes.items ≤ l.gate_at)

abbrev pub decreases-loop-gate_at : goal.decreases-loop-gate_at
decreases-loop-gate_at l = length l.image - l.gate_at
