-- What the call in a worker's hand does next.
use Rattle.std.specs.Prelude.{ℕ, Bool, if◌then◌else◌, Option, Some, None, List, [], ◌∷◌}
use Rattle.std.specs.Map.{lookup}
use Rattle.tau_base.specs.declared.value.Key.{Key}
use Rattle.tau_base.specs.declared.value.Value.{Value}
use Rattle.tau_base.specs.declared.value.Mode.{Mode}
use Rattle.tau_base.specs.Database.{same_key}
use Rattle.tau_proc.specs.declared.proc.Proc.{Proc}
use Rattle.tau_proc.specs.declared.reply.Reply.{Reply}
use Rattle.tau_model.specs.History.{Act}
use Rattle.tau_machine.specs.Stage.{stage}
use Rattle.tau_machine.specs.Hands as theory
use Rattle.tau_machine.specs.Hands.{Phase, Running, Quitting, Placed, Freeing, Hand, lv_of, unplaced_at}
use Rattle.tau_machine.specs.Worker.{lock_of}
use Rattle.tau_txn.specs.declared.action.Action.{Action}
use Rattle.tau_txn.specs.declared.action.Action.TheVariants as action
use Rattle.tau_txn.specs.Read.{effect_in}

-- a call that is to quit gives its lowest key back
abbrev pub quits : List (Key × Mode) → Action
quits [] = action.Nothing
quits (e ∷ es) = action.Quit e.0

-- a call that has committed frees its lowest key
abbrev pub frees : Reply → List ℕ → List (Key × Value) → List (Key × Mode) → Action
frees reply lv writes [] = action.Done reply lv
frees reply lv writes (e ∷ es) = action.Free e.0 (lookup (same_key e.0) writes)

abbrev pub act_frees : Act theory.Txn → List (Key × Mode) → Action
act_frees t held = frees t.effect.reply (lv_of t) t.effect.writes held

-- a call that holds all its locks gets its place, or frees them where it writes nothing
abbrev pub ends : Act theory.Txn → ℕ → List (Key × Mode) → List (Key × Value) → Action
ends t size held [] = act_frees t held
ends t size held (w ∷ ws) = action.Commit size

abbrev pub runs : Option (Key × Mode) → Act theory.Txn → ℕ → List (Key × Mode) → Action
runs (Some l) t size held = action.Lock l.0 l.1
runs None t size held = ends t size held t.effect.writes

-- the act of a read-only call
abbrev pub act_reading : List Proc → ℕ → Hand → Act theory.Txn
act_reading procs w h = record {
  call = record { call = h.call; worker = w; place = unplaced_at h.dep; anchor = 0 };
  effect = effect_in (stage procs h.call.call h.seen);
}

-- by how far it has come; whether it is to be given up, and the size of its record, stand beside the hand
abbrev pub action_by : List Proc → ℕ → Bool → ℕ → Hand → Phase → Action
action_by procs w leaves size h Running = if leaves then quits h.held else runs (lock_of (stage procs h.call.call h.seen) h.held) (act_reading procs w h) size h.held
action_by procs w leaves size h Quitting = quits h.held
action_by procs w leaves size h (Placed t) = action.Post
action_by procs w leaves size h (Freeing t) = act_frees t h.held

abbrev pub action_of : List Proc → ℕ → Bool → ℕ → Hand → Action
action_of procs w leaves size h = action_by procs w leaves size h h.phase
