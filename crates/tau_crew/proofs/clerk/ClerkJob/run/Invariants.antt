use Rattle.std.proofs.Common.{◌≡◌, ◌≤◌, ◌⊎◌, true, List, ℕ}
use Rattle.tau_disk.specs.Disk.{Rose}
use Rattle.tau_crew.specs.Clerking.{IsToldSoFar}
use Rattle.tau_crew.specs.ClerkJobs.{ClerkGoes, IsClerkJob}
use Rattle.tau_crew.proofs.clerk.ClerkJob.run.Given as goal

abbrev pub invariant-loop : goal.invariant-loop
invariant-loop g l =
    ClerkGoes l.desk.load l.initial.self l.self × IsClerkJob l.self
    × (g.K.Sink.tells → (base : List ℕ) → IsToldSoFar base l.initial.self.told (g.K.Sink.held l.initial.sink) → IsToldSoFar base l.self.told (g.K.Sink.held l.sink))
    × (l.self.told.sink_failed ≡ true → (l.initial.self.told.sink_failed ≡ true) ⊎ Rose (g.K.Sink.faults l.initial.sink) (g.K.Sink.faults l.sink))
    × (g.K.Sink.faults l.initial.sink ≤ g.K.Sink.faults l.sink)
