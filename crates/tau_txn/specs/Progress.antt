-- A call in hand whose machine stands where the values that the call has seen lead.
use Rattle.std.specs.Prelude.{ℕ, ◌+◌, ◌≤◌, ◌<◌, ◌≡◌, Some, None, List, [], ◌∷◌, length, take, IsTrue}
use Rattle.std.specs.Map.{lookup}
use Rattle.tau_base.specs.declared.value.Call.{Call}
use Rattle.tau_base.specs.declared.value.Key.{Key}
use Rattle.tau_base.specs.declared.value.Value.{Value}
use Rattle.tau_base.specs.Database.{same_key}
use Rattle.tau_proc.specs.declared.proc.Proc.{Proc}
use Rattle.tau_proc.specs.Effect.{has_key}
use Rattle.tau_proc.specs.Limits.{KeepsLimits}
use Rattle.tau_proc.specs.Progress.{Progress, IsAt, ahead, buffered, next_want}
use Rattle.tau_proc.specs.Stage.{Stage, Wants, Ends, stage, values, Asked}
use Rattle.tau_proc.specs.Takes.{takes}
use Rattle.tau_model.specs.History.{updating}
use Rattle.tau_model.specs.Logged.{lv}
use Rattle.tau_machine.specs.Hands.{mode_of}
use Rattle.tau_machine.specs.Worker.{held_writing}
use Rattle.tau_base.specs.declared.limits.TheConstants.{MAX_TRIES}
use Rattle.tau_proc.specs.declared.reply.Want.{Want}
use Rattle.tau_proc.specs.declared.reply.Want.TheVariants as want
use Rattle.tau_txn.specs.declared.standing.Standing.{Standing}
use Rattle.tau_txn.specs.declared.standing.Standing.TheVariants.{Running, Placed, Freeing}
use Rattle.tau_txn.specs.Hand.{PlainHand}

-- the values that were read are those seen
abbrev pub AreSeen : List (Key × Value) → List (Key × Value) → Type 0
AreSeen seen [] = Unit {0}
AreSeen seen (r ∷ rs) = (lookup (same_key r.0) seen ≡ Some r.1) × AreSeen seen rs

-- the machine of this call was given the values seen, each as often as the call has read it
pub record Follows (procs : List Proc) (c : Call) (seen : List (Key × Value)) (m : Progress) : Type 0 where
  pub reads : List (Key × Value)
  pub asked : Asked (stage procs c) reads
  pub saw : AreSeen seen reads
  pub few : length seen ≤ length reads
  pub at : IsAt procs c (values reads) m.granted m

-- a row that is wanted was not seen
abbrev pub WantsUnseen : List (Key × Value) → Stage → Type 0
WantsUnseen seen (Wants k) = lookup (same_key k) seen ≡ None
WantsUnseen seen (Ends ws reply) = Unit {0}

-- while a row is wanted, no write was granted
abbrev pub GrantsNone : ℕ → Stage → Type 0
GrantsNone granted (Wants k) = granted ≡ 0
GrantsNone granted (Ends ws reply) = Unit {0}

-- a call that holds a write lock on just the writes that were granted
pub record HoldsGranted (h : PlainHand) : Type 0 where
  pub locked : (x : Key) → held_writing (mode_of x h.held) ≡ has_key x (take h.machine.granted (buffered h.machine))
  pub room : length h.held ≤ length h.seen + h.machine.granted

-- a call that runs has tries left
abbrev pub TriesLeft : ℕ → Standing → Type 0
TriesLeft tries Running = tries < MAX_TRIES
TriesLeft tries _ = tries ≤ MAX_TRIES

abbrev pub HasCommitted : Standing → Type 0
HasCommitted Placed = Unit {0}
HasCommitted Freeing = Unit {0}
HasCommitted _ = ⊥

abbrev pub IsFinished : Want → Type 0
IsFinished (want.Finished reply) = Unit {0}
IsFinished _ = ⊥

-- the call is one of these procedures', and its machine stands where the values seen lead
pub record IsRunBy (procs : List Proc) (h : PlainHand) : Type 0 where
  pub takes : IsTrue (takes procs h.call)
  pub limits : KeepsLimits procs
  pub follows : Follows procs h.call h.seen h.machine
  pub unseen : WantsUnseen h.seen (ahead h.machine [])
  pub none : GrantsNone h.machine.granted (ahead h.machine [])
  pub number : 1 ≤ h.number
  pub tries : TriesLeft h.tries h.standing
  pub holds : h.standing ≡ Running → HoldsGranted h
  pub finished : HasCommitted h.standing → IsFinished (next_want h.machine)
  pub vector : HasCommitted h.standing → h.lv ≡ lv (updating (buffered h.machine)) (record { stream = h.stream; start = h.start; past = h.past; dep = h.dep })

-- the call is that of some procedures
pub record IsRun (h : PlainHand) : Type 0 where
  pub procs : List Proc
  pub is : IsRunBy procs h
