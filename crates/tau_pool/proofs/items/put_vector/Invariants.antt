-- The positions so far.
use Rattle.std.proofs.Common.{◌≡◌, ◌+◌, ◌++◌, ◌≤◌, take, length, vec_len, vec_capacity}
use Rattle.tau_pool.proofs.items.put_vector.Given as goal

abbrev pub invariant-loop-j : goal.invariant-loop-j
invariant-loop-j l = (l.positions.items ≡ l.fn.positions.items ++ take l.j l.dep)
    × (vec_len l.positions ≡ vec_len l.fn.positions + l.j) × (vec_len l.fn.positions + length l.dep ≤ vec_capacity l.positions)
