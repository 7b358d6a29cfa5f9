-- A worker reads the published anchor of its stream.
use Rattle.std.specs.Prelude.{◌≡◌, Some, [], length}
use Rattle.tau_core.specs.State.{Plain}
use Rattle.tau_core.specs.View.{setting_of}
use Rattle.tau_rule.specs.Rule.{anchor_part}
use Rattle.tau_rule.specs.Steps.{Agrees}
use Rattle.tau_rule.specs.declared.part.Part.{Part}
use Rattle.tau_desk.specs.Seats.{PlainWorkerSeat}
use Rattle.tau_desk.specs.Works.{anchor_in, told_read}

-- the worker took the published anchor of its stream, read it, and gave it back: it is none, or one of those that were placed there, and has a position for each stream
pub record ReadsAnchor (origin : Plain) (s s' : PlainWorkerSeat) : Type 0 where
  pub part_taken : Part
  pub agrees : Agrees origin s.me.0 (anchor_part origin.load ((setting_of origin.load).stream_of s.worker)) part_taken
  pub is : anchor_in part_taken ≡ Some s'.read
  pub wide : length s'.read.1 ≡ origin.load.streams
  pub after : s' ≡ record s { me = (told_read s.me.0 s'.read.0 s'.read.1, []); read = s'.read }
