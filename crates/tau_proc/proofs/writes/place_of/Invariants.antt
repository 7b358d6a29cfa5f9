use Rattle.std.proofs.Common.{◌≡◌, ◌-◌, ◌≤◌, ◌++◌, length, take, drop}
use Rattle.std.specs.FinMap.{put}
use Rattle.tau_base.specs.Database.{key_cmp}
use Rattle.tau_base.specs.declared.value.Value.{Value}
use Rattle.tau_proc.proofs.writes.place_of.Given as goal

abbrev pub invariant-loop-at : goal.invariant-loop-at
invariant-loop-at l = record {
  fits : l.at ≤ length l.writes;
  before : (v : Value) → put key_cmp l.key v l.writes ≡ take l.at l.writes ++ put key_cmp l.key v (drop l.at l.writes);
}

abbrev pub decreases-loop-at : goal.decreases-loop-at
decreases-loop-at l = length l.writes - l.at
