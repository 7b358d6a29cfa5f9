-- Where a run begins that was opened.
use Rattle.std.specs.Prelude.{ℕ, ◌≡◌, List, length, slice_get, Some}
use Rattle.tau_base.specs.declared.format.Format.{Format}
use Rattle.tau_base.specs.Database.{empty_db}
use Rattle.tau_block.specs.declared.content.Content.{Content}
use Rattle.tau_core.specs.declared.opening.Opening.{Opening}
use Rattle.tau_disk.specs.declared.disk.Disk.{Ghosts}
use Rattle.tau_open.specs.declared.start.StreamStart.{StreamStart}
use Rattle.tau_text.specs.declared.load.Workload.{Workload}
use Rattle.tau_text.specs.Canonical.{declarations_text}
use Rattle.tau_scan.specs.declared.log.Log.{Log}
use Rattle.tau_scan.specs.Contents.{bytes_in}
use Rattle.tau_scan.specs.Sound.{redo_in}
use Rattle.tau_scan.specs.Taken.{Kept}
use Rattle.tau_run.specs.Start.{Start, old_at, given_first, IsStart}
use Rattle.tau_run.specs.CoreRun.{IsOpeningOn}
use Rattle.tau_begin.specs.Given.{next_epoch}
use Rattle.tau_begin.specs.Opened.{IsBegun}

-- the start of a run on this log of these contents, which is redone in this order
abbrev pub start_on : List Content → Log → List Kept → Start
start_on contents log order = record { old = bytes_in contents; log = log; base = redo_in log order empty_db; epoch = next_epoch (bytes_in contents) log }

-- A run of the workload may begin on n streams so, this is the state for it, and each stream starts with what it held and is
-- given what the run gives it first.
pub record IsOpened (f : Format) (n : ℕ) (load : Workload) (contents : List Content) (log : Log) (ps : List StreamStart) (o : Opening) : Type 0 where
  pub order : List Kept
  pub starts : IsStart f n load (start_on contents log order)
  pub opening : IsOpeningOn load (start_on contents log order) o
  pub given : (j : ℕ) (p : StreamStart) → slice_get ps j ≡ Some p → (p.content.bytes ≡ old_at (start_on contents log order) j) × (p.body ≡ given_first load (start_on contents log order) (old_at (start_on contents log order) j))

module _ {D : Type 0} (G : Ghosts D) where
  -- what was read and redone is where a run may begin
  abbrev pub BegunIsStart : Type 0
  BegunIsStart = (f : Format) (load : Workload) (disks : List D) (sizes : List ℕ) (starts : List StreamStart) (b : IsBegun G f (declarations_text load.declarations) disks sizes starts) → IsOpened f (length disks) load b.contents b.log starts b.opening
