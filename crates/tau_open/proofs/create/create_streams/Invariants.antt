-- The first j disks have become writers, and the others are left.
use Rattle.std.proofs.Common.{◌≡◌, ◌+◌, reverse, vec_len, vec_capacity}
use Rattle.tau_stream.specs.Stream.{catalogue_record}
use Rattle.tau_open.specs.Creating.{Creating}
use Rattle.tau_open.proofs.create.create_streams.Given as goal

abbrev pub invariant-loop-j : goal.invariant-loop-j
invariant-loop-j g l =
    Creating g.D.Disk l.n (catalogue_record l.catalogue) l.j (reverse l.initial.stack.items) (reverse l.stack.items) l.writers.items
    × (vec_len l.writers ≡ l.j)
    × (vec_len l.writers + vec_len l.stack ≡ vec_len l.initial.stack)
    × (vec_capacity l.stack ≡ vec_capacity l.initial.stack)
    × (vec_capacity l.writers ≡ vec_capacity l.initial.writers)
