-- The phase of a call in hand is that of its next action.
use Rattle.std.proofs.Common.{ℕ, ◌≡◌, Bool, true, false, inl, inr, List, [], ◌∷◌, refl, sym, ap, ◌∙◌, Option}
use Rattle.std.specs.Prelude.{Some, None, is_some}
use Rattle.tau_base.specs.declared.value.Key.{Key}
use Rattle.tau_base.specs.declared.value.Value.{Value}
use Rattle.tau_base.specs.declared.value.Mode.{Mode}
use Rattle.tau_proc.specs.declared.proc.Proc.{Proc}
use Rattle.tau_proc.specs.Effect.{Effect}
use Rattle.tau_model.specs.History.{Act, updating}
use Rattle.tau_machine.specs.Hands as machine
use Rattle.tau_machine.specs.Hands.{Txn, Hand, mode_of}
use Rattle.tau_machine.specs.Stage.{Stage, Wants, Ends, stage}
use Rattle.tau_machine.specs.Worker.{lock_of, unlocked, write_want, fresh, begun, begun_by, Worker}
use Rattle.tau_model.specs.History.{Numbered}
use Rattle.tau_txn.specs.declared.action.Action.{Action}
use Rattle.tau_txn.specs.declared.action.Action.TheVariants as action
use Rattle.tau_txn.specs.Txn.{PlainTxn, hand_in, leaves_in, has_joined}
use Rattle.tau_txn.specs.Next.{Means, FreesBy}
use Rattle.tau_core.specs.declared.event.Phase.{Phase}
use Rattle.tau_core.specs.declared.event.Phase.TheVariants.{Resting, Locking, Freeing, Ended}
use Rattle.tau_core.specs.Phases.{freeing_phase, finished_phase, stage_phase, running_phase, phase_by, hand_phase}
use Rattle.tau_core.proofs.PhaseOf.{phase_of}
use Rattle.tau_core.proofs.Hands.{hand_gone}

shown_phase : (procs : List Proc) (o : Option Hand) (h : Hand) (m : machine.Phase) → o ≡ Some h → h.phase ≡ m → hand_phase procs o ≡ phase_by procs h m
shown_phase procs o h m e f = ap (hand_phase procs) e ∙ ap (phase_by procs h) f

holds_some : (x : Key) (m : Mode) (held : List (Key × Mode)) → mode_of x held ≡ Some m → freeing_phase held ≡ Freeing
holds_some x m [] e = cc
holds_some x m (k ∷ ks) e = refl

frees_phase : (procs : List Proc) (b : Bool) (w : ℕ) (hand : Hand) (act : Act Txn) (o : Option Hand) → o ≡ Some hand → FreesBy procs b w hand act → hand_phase procs o ≡ freeing_phase hand.held
frees_phase procs true w hand act o e q = shown_phase procs o hand (machine.Freeing act) e q
frees_phase procs false w hand act o e q =
    shown_phase procs o hand machine.Running e q.phase
    ∙ ap (λ (s : Stage). running_phase (lock_of s hand.held) s hand.held) q.ended
    ∙ ap (λ (l : List (Key × Value)). running_phase (write_want (unlocked l hand.held)) (Ends q.effect) hand.held) q.no_write
    ∙ ap (λ (l : List (Key × Value)). finished_phase (updating l) hand.held) q.no_write

pub means_phase : (procs : List Proc) (t : PlainTxn) (a : Action) → Means procs t a → leaves_in t ≡ false → is_some t.hand ≡ is_some (hand_in procs t) → hand_phase procs (hand_in procs t) ≡ phase_of a
means_phase procs t (action.Lock x m) q leaving stays =
    shown_phase procs (hand_in procs t) q.hand machine.Running q.is q.phase ∙ ap (λ (o : Option (Key × Mode)). running_phase o (stage procs q.hand.call.call q.hand.seen) q.hand.held) q.next
means_phase procs t (action.Quit x) q leaving stays = elim q.phase [
  | inl e ↦ shown_phase procs (hand_in procs t) q.hand machine.Quitting q.is e
  | inr e ↦ absurd (let bad : true ≡ false = sym e.1 ∙ leaving in cc)
]
means_phase procs t (action.Commit size) q leaving stays =
    shown_phase procs (hand_in procs t) q.hand machine.Running q.is q.phase
    ∙ ap (λ (o : Option (Key × Mode)). running_phase o (stage procs q.hand.call.call q.hand.seen) q.hand.held) q.locked
    ∙ ap (λ (s : Stage). stage_phase s q.hand.held) q.ended
    ∙ ap (λ (b : Bool). finished_phase b q.hand.held) q.updates
means_phase procs t action.Post q leaving stays = shown_phase procs (hand_in procs t) q.hand (machine.Placed q.act) q.is q.phase
means_phase procs t (action.Free x write) q leaving stays = frees_phase procs (has_joined t) t.worker q.hand q.act (hand_in procs t) q.is q.act_is ∙ holds_some x q.mode q.hand.held q.held
means_phase procs t (action.Done reply lv) q leaving stays = frees_phase procs (has_joined t) t.worker q.hand q.act (hand_in procs t) q.is q.act_is ∙ ap freeing_phase q.held
means_phase procs t action.LeftOver q leaving stays = absurd (let bad : true ≡ false = ap is_some (sym q.is) ∙ stays ∙ ap is_some q.gone in cc)
means_phase procs t action.Nothing q leaving stays = ap (hand_phase procs) (hand_gone procs t q)

-- the first action of a call is a lock, or that it has finished
pub fresh_phase : (procs : List Proc) (width : ℕ) (c : Numbered) (wanted : Phase) → (Locking ≡ wanted → ⊥) → (Ended ≡ wanted → ⊥) → hand_phase procs (Some (fresh width c 0)) ≡ wanted → ⊥
fresh_phase procs width c wanted locking ended e = by_stage (stage procs c.call []) e
  where
    by_writes : (effect : Effect) (ws : List (Key × Value)) → running_phase (write_want (unlocked ws [])) (Ends (record effect { writes = ws })) [] ≡ wanted → ⊥
    by_writes effect [] f = ended f
    by_writes effect (w ∷ ws) f = locking f

    by_stage : (s : Stage) → running_phase (lock_of s []) s [] ≡ wanted → ⊥
    by_stage (Wants rs k) f = locking f
    by_stage (Ends effect) f = by_writes effect effect.writes f

-- and so is that of a worker that is ready, where it rests
pub ready_phase : (procs : List Proc) (width : ℕ) (wk : Worker) (wanted : Phase) → (Locking ≡ wanted → ⊥) → (Ended ≡ wanted → ⊥) → (Resting ≡ wanted → ⊥) →
    wk.hand ≡ None → hand_phase procs (begun width wk).hand ≡ wanted → ⊥
ready_phase procs width wk wanted locking ended resting none e = by_case wk.waiting (ap (λ (o : Option Hand). hand_phase procs (begun_by width wk o wk.waiting).hand) (sym none) ∙ e)
  where
    by_case : (cs : List Numbered) → hand_phase procs (begun_by width wk None cs).hand ≡ wanted → ⊥
    by_case [] f = resting (ap (hand_phase procs) (sym none) ∙ f)
    by_case (c ∷ cs) f = fresh_phase procs width c wanted locking ended f
