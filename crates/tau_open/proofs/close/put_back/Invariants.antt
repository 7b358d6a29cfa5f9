-- The disks of the writers that are left, and those that are back.
use Rattle.std.proofs.Common.{◌≡◌, ◌++◌, ◌+◌, map, reverse, vec_len, vec_capacity}
use Rattle.tau_stream.specs.Writer.{disk_of}
use Rattle.tau_open.proofs.close.put_back.Given as goal

abbrev pub invariant-loop-writer : goal.invariant-loop-writer
invariant-loop-writer g l =
    (map disk_of l.writers.items ++ reverse l.stack.items ≡ map disk_of l.initial.writers.items ++ reverse l.initial.stack.items)
    × (vec_len l.writers + vec_len l.stack ≡ vec_len l.initial.writers + vec_len l.initial.stack)
    × (vec_capacity l.stack ≡ vec_capacity l.initial.stack)

abbrev pub decreases-loop-writer : goal.decreases-loop-writer
decreases-loop-writer g l = vec_len l.writers
