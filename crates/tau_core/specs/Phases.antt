-- Where a worker stands.
use Rattle.std.specs.Prelude.{Bool, true, false, Option, Some, None, List, [], ◌∷◌}
use Rattle.tau_base.specs.declared.value.Key.{Key}
use Rattle.tau_base.specs.declared.value.Mode.{Mode}
use Rattle.tau_proc.specs.declared.proc.Proc.{Proc}
use Rattle.tau_model.specs.History.{updating}
use Rattle.tau_machine.specs.Hands as machine
use Rattle.tau_machine.specs.Hands.{Hand}
use Rattle.tau_machine.specs.Stage as stages
use Rattle.tau_machine.specs.Stage.{Stage, stage}
use Rattle.tau_machine.specs.Worker.{lock_of}
use Rattle.tau_txn.specs.declared.action.ActionKind.{ActionKind}
use Rattle.tau_txn.specs.declared.action.ActionKind.TheVariants as kind
use Rattle.tau_core.specs.declared.event.Phase.{Phase}
use Rattle.tau_core.specs.declared.event.Phase.TheVariants.{Resting, Locking, Quitting, Ready, Placed, Freeing, Ended}

-- a call that has joined the committed ones, or is read-only and has finished
abbrev pub freeing_phase : List (Key × Mode) → Phase
freeing_phase [] = Ended
freeing_phase (k ∷ ks) = Freeing

-- a call that has finished
abbrev pub finished_phase : Bool → List (Key × Mode) → Phase
finished_phase true held = Ready
finished_phase false held = freeing_phase held

abbrev pub stage_phase : Stage → List (Key × Mode) → Phase
stage_phase (stages.Wants rs k) held = Locking
stage_phase (stages.Ends e) held = finished_phase (updating e.writes) held

-- a call that runs
abbrev pub running_phase : Option (Key × Mode) → Stage → List (Key × Mode) → Phase
running_phase (Some l) st held = Locking
running_phase None st held = stage_phase st held

abbrev pub phase_by : List Proc → Hand → machine.Phase → Phase
phase_by procs h machine.Running = running_phase (lock_of (stage procs h.call.call h.seen) h.held) (stage procs h.call.call h.seen) h.held
phase_by procs h machine.Quitting = Quitting
phase_by procs h (machine.Placed t) = Placed
phase_by procs h (machine.Freeing t) = freeing_phase h.held

-- what the call in this hand does next
abbrev pub hand_phase : List Proc → Option Hand → Phase
hand_phase procs None = Resting
hand_phase procs (Some h) = phase_by procs h h.phase

-- the phase in which an action of this kind comes
abbrev pub phase_of_kind : ActionKind → Phase
phase_of_kind kind.Lock = Locking
phase_of_kind kind.Quit = Quitting
phase_of_kind kind.Commit = Ready
phase_of_kind kind.Post = Placed
phase_of_kind kind.Free = Freeing
phase_of_kind kind.Done = Ended
phase_of_kind kind.LeftOver = Resting
phase_of_kind kind.Nothing = Resting
