-- What reading a whole source gives.
use Rattle.std.specs.Prelude.{◌≡◌, ◌<◌, ℕ, List, []}
use Rattle.tau_base.specs.declared.limits.TheConstants.{MAX_WORKLOAD}
use Rattle.tau_disk.specs.Disk.{Rose}
use Rattle.std.specs.Prelude.{length}
use Rattle.tau_commands.specs.declared.source.SourceRefusal.{SourceRefusal}
use Rattle.tau_commands.specs.declared.source.SourceRefusal.TheVariants as refusal

-- the text is all that was left, and nothing is left
pub record ReadsText (old new text : List ℕ) : Type 0 where
  pub whole : text ≡ old
  pub nothing : new ≡ []

-- why there is no text
abbrev pub RefusesText : Type 0 → List ℕ → ℕ → ℕ → SourceRefusal → Type 0
RefusesText tells old before now refusal.NoMemory = Unit {0}
RefusesText tells old before now refusal.Failed = Rose before now
RefusesText tells old before now refusal.TooLong = tells → MAX_WORKLOAD < length old
