-- The disks so far are asked, and their lengths are in the list.
use Rattle.std.proofs.Common.{◌≡◌, vec_len, vec_capacity}
use Rattle.tau_open.specs.Opening.{Asked}
use Rattle.tau_disk.specs.Stages.{Staged, AreLengths}
use Rattle.tau_open.proofs.sizes.ask_each.Given as goal

abbrev pub invariant-loop-j : goal.invariant-loop-j
invariant-loop-j g l =
    Staged (λ i. Asked g.D.Disk) l.j l.initial.disks l.disks × AreLengths g.D.Disk.tells g.D.Disk.seen l.initial.disks l.lengths.items
    × (vec_len l.lengths ≡ l.j) × (vec_capacity l.lengths ≡ vec_capacity l.initial.lengths)
