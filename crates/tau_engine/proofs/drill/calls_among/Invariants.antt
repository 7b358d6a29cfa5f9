use Rattle.std.proofs.Common.{ℕ, ◌≡◌, ◌≤◌, ◌==◌, length, take}
use Rattle.std.specs.List.{filter}
use Rattle.tau_engine.proofs.drill.calls_among.Given as goal

abbrev pub invariant-loop-call : goal.invariant-loop-call
invariant-loop-call l = record {
  count : l.count ≡ length (filter (λ (i : ℕ). i == l.stream) (take l.call-index l.calls));
  low : l.count ≤ l.call-index;
}
