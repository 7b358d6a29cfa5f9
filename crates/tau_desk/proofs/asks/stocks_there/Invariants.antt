use Rattle.std.proofs.Common.{ℕ, ◌<◌, ◌≡◌}
use Rattle.std.specs.Prelude.{Some, None, slice_get}
use Rattle.tau_desk.proofs.asks.stocks_there.Given as goal

abbrev pub invariant-loop-stream : goal.invariant-loop-stream
invariant-loop-stream l = (i : ℕ) → i < l.stream → slice_get l.stocks.items i ≡ Some None → ⊥
