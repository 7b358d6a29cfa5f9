-- The head looks how far the streams are persisted, and changes nothing else.
use Rattle.std.specs.Prelude.{ℕ, ◌<◌, ◌≡◌, Some, List, slice_get, slice_index}
use Rattle.tau_base.specs.Vectors.{AtMost}
use Rattle.tau_disk.specs.declared.disk.Disk.{Ghosts}
use Rattle.tau_stream.specs.declared.writer.Writer.{Writer}
use Rattle.tau_stream.specs.Writer.{durable_of}
use Rattle.tau_rule.specs.Rule.{has}
use Rattle.tau_desk.specs.Seats.{PlainClerkSeat, PlainHead}

-- the clerk's seat, which may have seen streams persisted further
pub record KeepsSight (s s' : PlainClerkSeat) : Type 0 where
  pub table : s'.table_id ≡ s.table_id
  pub me : s'.me ≡ (record s.me.0 { seen = s'.me.0.seen }, s.me.1)
  pub up : AtMost s.seen s'.seen

-- the head, of which no role has changed
pub record IsSameHead (h h' : PlainHead) : Type 0 where
  pub table : h'.table_id ≡ h.table_id
  pub opened : h'.me.0.opened ≡ h.me.0.opened
  pub found : h'.me.0.found ≡ h.me.0.found
  pub workers : h'.workers ≡ h.workers
  pub managers : h'.managers ≡ h.managers
  pub clerk : h'.clerk ≡ h.clerk
  pub roles : (u : ℕ) → has u h'.me.0 ≡ has u h.me.0
  pub up : AtMost h.seen h'.seen

-- the first streams were seen persisted as far as their writers have them durable
abbrev pub SightDurable : {D : Type 0} {G : Ghosts D} → List ℕ → List (Writer D G) → ℕ → Type 0
SightDurable {D} {G} seen ws upto = (j : ℕ) (w : Writer D G) → j < upto → slice_get ws j ≡ Some w → slice_index seen j ≡ durable_of w
