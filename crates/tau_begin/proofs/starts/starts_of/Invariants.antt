-- The streams so far have their starts, and the other contents are left.
use Rattle.std.proofs.Common.{ℕ, ◌≡◌, ◌+◌, reverse, vec_len, length}
use Rattle.std.specs.Prelude.{drop, slice_get, Some}
use Rattle.tau_block.specs.declared.content.Content.{Content}
use Rattle.tau_open.specs.declared.start.StreamStart.{StreamStart}
use Rattle.tau_begin.specs.Starts.{IsStartOf}
use Rattle.tau_begin.proofs.starts.starts_of.Given as goal

abbrev pub invariant-loop-j : goal.invariant-loop-j
invariant-loop-j l =
    ((i : ℕ) (p : StreamStart) → slice_get l.starts.items i ≡ Some p → (c : Content) × (slice_get l.fn.contents.items i ≡ Some c) × IsStartOf l.format (length l.fn.contents.items) i l.text l.epoch l.elv c p)
    × (length l.starts.items ≡ l.j)
    × (reverse l.left.items ≡ drop l.j l.fn.contents.items)
    × (vec_len l.left + l.j ≡ l.n)
