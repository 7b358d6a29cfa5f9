-- The disks so far are asked, the others are as they were, and the first long one is known.
use Rattle.tau_open.specs.Opening.{AreAsked}
use Rattle.tau_open.proofs.Lengths.{Found}
use Rattle.tau_open.proofs.ask.ask_lengths.Given as goal

abbrev pub invariant-loop-j : goal.invariant-loop-j
invariant-loop-j g l = AreAsked g.D.Disk l.j l.initial.disks l.disks × Found g.D.Disk.tells g.D.Disk.seen l.initial.disks l.j l.first
