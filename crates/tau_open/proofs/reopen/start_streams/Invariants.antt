-- The first j disks have become writers, and the others are left.
use Rattle.std.proofs.Common.{◌≡◌, ◌+◌, reverse, vec_len, vec_capacity}
use Rattle.std.specs.Prelude.{drop}
use Rattle.tau_open.specs.Reopening.{Starting}
use Rattle.tau_open.proofs.reopen.start_streams.Given as goal

abbrev pub invariant-loop-j : goal.invariant-loop-j
invariant-loop-j g l =
    Starting g.D.Disk l.fn.starts.items l.j (reverse l.initial.stack.items) (reverse l.stack.items) l.writers.items
    × (reverse l.left.items ≡ drop l.j l.fn.starts.items)
    × (vec_len l.writers ≡ l.j)
    × (vec_len l.writers + vec_len l.stack ≡ vec_len l.initial.stack)
    × (vec_capacity l.stack ≡ vec_capacity l.initial.stack)
    × (vec_capacity l.writers ≡ vec_capacity l.initial.writers)
    × (vec_len l.left + l.j ≡ l.count)
