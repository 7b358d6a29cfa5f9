-- What holds of each run in threads.
use Rattle.std.specs.Prelude.{ℕ, ◌+◌, ◌<◌, ◌≡◌, false, Some, None, List, [], ◌++◌, length, slice_get, slice_index, slice_index_or}
use Rattle.tau_disk.specs.declared.disk.Disk.{Ghosts}
use Rattle.tau_stream.specs.declared.writer.Writer.{Writer}
use Rattle.tau_stream.specs.Writer.{disk_of, durable_of, has_failed}
use Rattle.tau_base.specs.declared.format.Format.{Format}
use Rattle.tau_outbox.specs.declared.Piece.{Piece}
use Rattle.tau_occ.specs.declared.style.Style.{Style}
use Rattle.tau_crew_facts.specs.Writers.{HasLong, HasWritten}
use Rattle.tau_model.specs.History.{Act}
use Rattle.tau_machine.specs.Events.{Event, Leads}
use Rattle.tau_machine.specs.Hands.{Txn}
use Rattle.tau_machine.specs.State.{Core, Setting, Ticket}
use Rattle.tau_machine.specs.Worker.{Worker}
use Rattle.tau_core.specs.State.{Plain}
use Rattle.tau_run.specs.Gives.{CameTo}
use Rattle.tau_run.specs.Writers.{EachOf}
use Rattle.tau_rule.specs.Knows.{Knows}
use Rattle.tau_rule.specs.Role.{Managed}
use Rattle.tau_rule.specs.Rule.{Now}
use Rattle.tau_crew_facts.specs.Closing.{ClerkDone, IsClosing, ManagerApart, ManagerDone, ManagerKnows, WorkerDone}
use Rattle.tau_crew_facts.specs.Ends.{AreApart, IsLoose, IsThreadEnd, stopped_by, stops_of}
use Rattle.tau_crew_facts.specs.Spacing.{Flushes, IsSpacing, newest, placed_after}
use Rattle.tau_crew_facts.specs.Telling.{IsTelling}
use Rattle.tau_crew_facts.specs.Threads.{lasting}
use Rattle.tau_run.specs.Keeping.{Keeps, KeepsOf, NoneLost, Steady}
use Rattle.tau_run.specs.StopsLeave.{IsOver, NamesLowest}

-- anchors that are placed after each flush that makes them due, as long as the stream may have one more, stand in their distance,
-- wherever the flushes end
abbrev pub AnchorsKeepApart : Type 0
AnchorsKeepApart = (before base durable : ℕ) (anchors ends : List ℕ) → IsSpacing before base durable anchors → Flushes durable ends → IsSpacing before base (newest durable ends) (anchors ++ placed_after (before + length anchors) (newest base anchors) ends)

-- no event loses a call of a worker but one by which this worker gives it up
abbrev pub WorkersKeepCalls : Type 0
WorkersKeepCalls = (w : ℕ) (set : Setting) (e : Event) (s s' : Core) (new : List (Act Txn)) → Steady (s.workers w) → KeepsOf w e → Leads set e s s' new → Keeps (s.workers w) (s'.workers w)

module _ {D : Type 0} (G : Ghosts D) where
  -- What was stored stays stored. A manager whose disk works may count its present writer as that of the entry; whatever it
  -- writes from then on, every image since then has at least what was durable then.
  abbrev pub EntriesMove : Type 0
  EntriesMove = (format : Format) (n j : ℕ) (base : List ℕ) (taken : List Piece) (w0 w : Writer D G) → has_failed w ≡ false → HasWritten format n j base taken (durable_of w) w0 w → HasWritten format n j base taken (durable_of w) w w

  abbrev pub StoredIsKept : Type 0
  StoredIsKept =
      (format : Format) (n j : ℕ) (base : List ℕ) (taken more : List Piece) (stored : ℕ) (w0 w w' : Writer D G) → HasWritten format n j base taken (durable_of w) w0 w → HasWritten format n j base more stored w w' → G.tells →
      (x : List ℕ) → G.may_leave_since (disk_of w') (G.moment (disk_of w)) x → HasLong format n j (durable_of w) x

  -- a desk that closes ends a run, with what the loops know of their own at their ends
  abbrev pub ClosedDesksEnd : Type 0
  ClosedDesksEnd =
      (first : Plain) (style : Style) (v : Knows) (workers : ℕ → Worker) (managers : ℕ → Managed) (acked : List (List Ticket)) (c : Now) → IsClosing first style v workers managers acked c → (bases : ℕ → List ℕ) (ws ws' : List (Writer D G)) (acks : List (ℕ × List ℕ)) →
      length ws ≡ first.load.streams → ((w : ℕ) → w < first.load.workers → IsLoose (workers w).hand) → EachOf (λ j w w'. ManagerKnows first.load v.seen j (bases j) (managers j) w w') ws ws' → IsTelling first.load acked v.seen acks →
      IsThreadEnd bases first style c.core ws ws' acks
      × (((j : ℕ) → j < first.load.streams → ManagerApart first.load v.seen j (bases j) (managers j)) → AreApart bases first.load c.core)
      × (((w : ℕ) → w < first.load.workers → WorkerDone first.load w (workers w)) →
      ((j : ℕ) (w' : Writer D G) → slice_get ws' j ≡ Some w' → has_failed w' ≡ false → ManagerDone first.load v.seen workers j (managers j)) →
      ((w : ℕ) → w < first.load.workers → ClerkDone v.seen (workers w) (slice_index_or acked w [])) →
      (NamesLowest first.load.streams (stops_of ws' c.core.plv) None → (w : ℕ) → w < first.load.workers → ((workers w).waiting ≡ []) × ((workers w).left ≡ [])) →
      IsOver first.load.streams (stopped_by ws' c.core) × NoneLost (length first.load.calls) c.core)

  -- and that is a run of the core, by events in any order, in the style of the desk
  abbrev pub EndsAreRuns : Type 0
  EndsAreRuns =
      (bases : ℕ → List ℕ) (first : Plain) (style : Style) → ((j : ℕ) → j < first.load.streams → length (bases j) ≡ slice_index first.load.opening.ends j) → (c : Core) (ws ws' : List (Writer D G)) (acks : List (ℕ × List ℕ)) → IsThreadEnd bases first style c ws ws' acks →
      CameTo (lasting style ws') bases first.load ws ws' acks
