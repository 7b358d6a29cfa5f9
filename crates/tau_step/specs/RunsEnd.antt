-- How whole runs by turns end, in either style.
use Rattle.std.specs.Prelude.{ℕ, ◌<◌, ◌≡◌, false, None, List, [], slice_index}
use Rattle.std.specs.List.{list_any}
use Rattle.tau_base.specs.Vectors.{covers}
use Rattle.tau_machine.specs.State.{Setting, Ticket, Core}
use Rattle.tau_machine.specs.Waits.{IsGathered}
use Rattle.tau_occ.specs.declared.style.Style.{Style}
use Rattle.tau_text.specs.declared.load.Turn.{Turn}
use Rattle.tau_run.specs.Turns.{is_raised}
use Rattle.tau_run.specs.Schedule.{RunState, still, state_of, IsWhole}

module _ (set : Setting) (m n : ℕ) where
  -- no call is in hand; where no disk has failed none waits nor is left over; of each stream whose disk has not failed no
  -- record can be gathered, and what was gathered is persisted; and what is persisted is acknowledged
  pub record HasEnded (s : Core) : Type 0 where
    pub hands : (w : ℕ) → w < m → (s.workers w).hand ≡ None
    pub done : is_raised set m n s ≡ false → (w : ℕ) → w < m → ((s.workers w).waiting ≡ []) × ((s.workers w).left ≡ [])
    pub gathered : (j : ℕ) → j < n → (s.streams j).stop ≡ None → IsGathered set m j s × (slice_index s.gathered j ≡ slice_index s.plv j)
    pub told : (w : ℕ) → w < m → list_any (λ (k : Ticket). covers s.plv k.lv) (s.outboxes w).pending ≡ false

-- A whole run in either style ends so, and nothing is peeked then.
abbrev pub WholeRunsEnd : Type 0
WholeRunsEnd = (set : Setting) (m n : ℕ) (style : Style) (turns : List Turn) (opening : Core) (x : RunState) → IsWhole set m n style turns opening x → (x ≡ still x.progress) × HasEnded set m n (state_of x)
