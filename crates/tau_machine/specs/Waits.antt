-- What a worker that is Busy, and what is posted and not gathered, waits for.
use Rattle.std.specs.Prelude.{ℕ, ◌+◌, ◌<◌, ◌≤◌, Some, ◌≡◌, List, [], ◌∷◌, slice_index}
use Rattle.tau_base.specs.declared.limits.TheConstants.{MAX_BODY}
use Rattle.tau_base.specs.declared.value.Key.{Key}
use Rattle.tau_base.specs.declared.value.Mode.{Mode}
use Rattle.tau_machine.specs.Events.{Busy, Conflicts, Event, lock_next, ready}
use Rattle.tau_machine.specs.Hands.{Hand}
use Rattle.tau_machine.specs.State.{Core, Item, Setting, past_of, start_of}

-- the first of these items does not continue what was gathered, or it is too long for the block that is to be written
abbrev pub Waits : Core → ℕ → List Item → Type 0
Waits s j [] = Unit {0}
Waits s j (i ∷ items) = start_of i ≡ slice_index s.gathered j → slice_index s.plv j + MAX_BODY < past_of i

module _ (set : Setting) where
  -- another worker holds the key that the worker wants next, in a mode that conflicts
  pub record IsBarred (w : ℕ) (s : Core) : Type 0 where
    pub hand : Hand
    pub key : Key
    pub mode : Mode
    pub is : (ready set s w).hand ≡ Some hand
    pub next : lock_next set hand ≡ Some (key, mode)
    pub held : Conflicts set (s.shards (set.shard_of key)) w key mode

  -- a worker is Busy only if it is barred so
  abbrev pub BusyHasHolder : Event → Core → Type 0
  BusyHasHolder (Busy w) s = IsBarred w s
  BusyHasHolder _ s = Unit {0}

  -- the stream is gathered by at most one block beyond what is persisted, and nothing is left that can be gathered of what
  -- the manager and the m workers of the stream have posted
  pub record IsGathered (m j : ℕ) (s : Core) : Type 0 where
    pub near : slice_index s.gathered j ≤ slice_index s.plv j + MAX_BODY
    pub own : Waits s j (s.streams j).posted
    pub posted : (w : ℕ) → w < m → set.stream_of w ≡ j → Waits s j (s.outboxes w).posted
