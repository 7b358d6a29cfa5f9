-- What the clerk's loop keeps.
use Rattle.std.specs.Prelude.{◌≡◌, false, None, []}
use Rattle.tau_core.specs.declared.state.Load.{Load}
use Rattle.tau_crew.specs.declared.clerk.ClerkJob.{ClerkJob}
use Rattle.tau_crew.specs.Gathering.{raised_in}
use Rattle.tau_crew.specs.Clerking.{IsSameClerk, KeepsTelling}

-- at the head of a pass no line waits, and where memory was there no call is missing, and it has not raised the stop
pub record IsClerkJob (job : ClerkJob) : Type 0 where
  pub written : job.told.lines.items ≡ []
  pub none : job.short ≡ false → job.told.missing ≡ None
  pub raised : job.short ≡ false → raised_in job.seat.me.0 ≡ false

-- it has acknowledged calls of what it has seen, and told them
pub record ClerkGoes (l : Load) (job job' : ClerkJob) : Type 0 where
  pub tells : KeepsTelling l job.seat job'.seat job.told job'.told
  pub same : IsSameClerk job.seat job'.seat
