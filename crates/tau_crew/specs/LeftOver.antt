-- Calls that were left over run alone, when the head has every worker's role.
use Rattle.std.specs.Prelude.{ℕ, ◌<◌, ◌≡◌, ◌⊎◌, Bool, true, false, Some, None, [], IfOk, OnErr, OnOk, Result, length, slice_get, slice_set}
use Rattle.atomic_table.specs.Seated.{TableId}
use Rattle.tau_base.specs.Vectors.{AtMost, join}
use Rattle.tau_base.specs.declared.value.NoMemory.{NoMemory}
use Rattle.tau_core.specs.State.{Plain}
use Rattle.tau_core.specs.declared.state.Load.{Load}
use Rattle.tau_rule.specs.Heads.{both}
use Rattle.tau_rule.specs.Role.{Role}
use Rattle.tau_rule.specs.Rule.{has}
use Rattle.tau_desk.specs.Resumes.{CanGoOn}
use Rattle.tau_desk.specs.Seats.{PlainHead, PlainWorkerSeat, Works}
use Rattle.tau_desk.specs.Shares.{PlainWork}
use Rattle.tau_crew.specs.Ending.{HasRunBack, IsHeadBack}
use Rattle.tau_crew.specs.Working.{WorkerEnds}

-- each worker has run to its end
abbrev pub AllHaveRun : Load → PlainHead → Type 0
AllHaveRun l h = (w : ℕ) → w < l.workers → HasRunBack l h w

-- no call that was left over can go on, unless the stop was found raised
abbrev pub NoneGoesOn : Load → PlainHead → Type 0
NoneGoesOn l h = (h.me.0.found ≡ true) ⊎ CanGoOn (length l.calls) h.workers None

-- an actor whose role the head has has raised the stop
pub record HasRaised (h : PlainHead) : Type 0 where
  pub actor : ℕ
  pub role : Role
  pub is : has actor h.me.0 ≡ Some role
  pub raised : role.raised ≡ true

-- the head, of which nothing has changed but what it knows of the workers and what it has seen
pub record KeepsBeside (h h' : PlainHead) : Type 0 where
  pub table : h'.table_id ≡ h.table_id
  pub opened : h'.me.0.opened ≡ h.me.0.opened
  pub managers : h'.managers ≡ h.managers
  pub clerk : h'.clerk ≡ h.clerk
  pub found : h.me.0.found ≡ true → h'.me.0.found ≡ true
  pub up : AtMost h.seen h'.seen

-- the worker is the first whose role is out
pub record IsFirstOut (h : PlainHead) (w : ℕ) : Type 0 where
  pub out : (work : PlainWork) → slice_get h.workers w ≡ Some (Some work) → ⊥
  pub below : (u : ℕ) → u < w → (work : PlainWork) × (slice_get h.workers u ≡ Some (Some work))

-- a worker's loop has ended on this seat, and the head has taken that in
pub record SeatBack (l : Load) (h h' : PlainHead) (s : PlainWorkerSeat) (r : Result Unit NoMemory) : Type 0 where
  pub was : Works s
  pub seat : PlainWorkerSeat
  pub ends : WorkerEnds l s seat r
  pub works : Works seat
  pub joined : h' ≡ record h { me = (both h.me.0 seat.me.0, []); workers = slice_set h.workers seat.worker (Some seat.work); seen = join h.seen seat.seen }

-- The head after one call more that was left over, with every worker's role. Where none went on, none can. Out of memory the stop was raised.
pub record LeftWent (first : Plain) (table : TableId) (h h' : PlainHead) (r : Result Bool NoMemory) : Type 0 where
  pub beside : KeepsBeside h h'
  pub back : IsHeadBack first table h'
  pub ran : OnOk r (AllHaveRun first.load h')
  pub none : IfOk r (λ (b : Bool). b ≡ false → NoneGoesOn first.load h')
  pub raised : OnErr r (HasRaised h')
