use Rattle.std.proofs.Common.{◌≡◌, sym, ap, subst, ◌∙◌}
use Rattle.std.specs.Prelude.{Bool, Option, Some}
use Rattle.tau_base.specs.declared.value.Key.{Key}
use Rattle.tau_base.specs.declared.value.Value.{Value}
use Rattle.tau_model.specs.History.{Act}
use Rattle.tau_machine.specs.Hands as theory
use Rattle.tau_machine.specs.Worker.{Worker, settled, hand_quit, hand_freed, hand_joined}
use Rattle.tau_txn.specs.declared.action.Action.TheVariants as action
use Rattle.tau_txn.specs.Kept.{KeepsHand, keeps_in, kept}
use Rattle.tau_txn.specs.Next.{next_action, FreesBy}
use Rattle.tau_txn.specs.Txn.{PlainTxn, RunsBy, hand_in, worker_in, shown_of, leaves_in, has_joined}
use Rattle.tau_txn.proofs.Txns.{quit_in, freed_in, never_rests}
use Rattle.tau_txn.proofs.txn.Txn.went.Goals as goal

pub invariant_of-self : goal.invariant_of-self
invariant_of-self c =
    record {
      low = c.self.invariant.low;
      high = c.self.invariant.high;
      fits = c.self.invariant.fits;
      hand = c.went-self-inside.ensures.keeps c.self.inside.streams (subst (λ (b : Bool). keeps_in c.self.inside.streams (kept b c.self.inside.hand)) c.if-not-self.false c.self.invariant.hand);
    }

pub returns-clause-quit : goal.returns-clause-quit
returns-clause-quit c =
    let keeps : KeepsHand c.self.inside.streams c.self.inside.hand = subst (λ (b : Bool). keeps_in c.self.inside.streams (kept b c.self.inside.hand)) c.if-not-self.false c.self.invariant.hand in
    subst (λ (t : PlainTxn). (wk : Worker) (hand : theory.Hand) (x : Key) → next_action t ≡ action.Quit x → hand_in c.args.procs.now t ≡ Some hand →
    worker_in c.args.procs.now c.self.inside.worker wk (kept c.went-self-inside.result c.went-self-inside.new.self) ≡ settled t.width wk (hand_quit hand x (leaves_in t)))
    (ap (λ (b : Bool). record { worker = c.self.inside.worker; width = c.self.inside.streams; mode = c.self.inside.mode; hand = kept b c.self.inside.hand }) (sym c.if-not-self.false) ∙ c.self.view_is)
    (quit_in c.args.procs.now c.self.inside.worker c.self.inside.streams c.self.inside.hand (λ u. worker_in c.args.procs.now c.self.inside.worker u (kept c.went-self-inside.result c.went-self-inside.new.self))
    (λ u k a. c.went-self-inside.ensures.quit c.self.inside.worker u k a) keeps.shaped.wide)

pub returns-clause-freed : goal.returns-clause-freed
returns-clause-freed c =
    subst (λ (t : PlainTxn). (hand : theory.Hand) (act : Act theory.Txn) (x : Key) (write : Option Value) → next_action t ≡ action.Free x write → hand_in c.args.procs.now t ≡ Some hand →
    FreesBy c.args.procs.now (has_joined t) t.worker hand act →
    shown_of c.args.procs.now c.self.inside.worker (kept c.went-self-inside.result c.went-self-inside.new.self) ≡ Some (hand_freed (hand_joined hand (theory.Freeing act) hand.dep) x))
    (ap (λ (b : Bool). record { worker = c.self.inside.worker; width = c.self.inside.streams; mode = c.self.inside.mode; hand = kept b c.self.inside.hand }) (sym c.if-not-self.false) ∙ c.self.view_is)
    (freed_in c.args.procs.now c.self.inside.worker c.self.inside.hand (shown_of c.args.procs.now c.self.inside.worker (kept c.went-self-inside.result c.went-self-inside.new.self))
    (λ k write' a asks' f. c.went-self-inside.ensures.freed c.self.inside.worker k write' a asks' f))

pub returns-clause-nothing : goal.returns-clause-nothing
returns-clause-nothing c = λ e.
    let at : ◌≡◌ {A = PlainTxn} (record { worker = c.self.inside.worker; width = c.self.inside.streams; mode = c.self.inside.mode; hand = Some c.self.inside.hand }) c.args.self.now = ap (λ (b : Bool). record { worker = c.self.inside.worker; width = c.self.inside.streams; mode = c.self.inside.mode; hand = kept b c.self.inside.hand }) (sym c.if-not-self.false) ∙ c.self.view_is in
    absurd (never_rests c.args.procs.now c.self.inside.streams c.self.inside.hand (subst (RunsBy c.args.procs.now) (sym at) c.requires.run) (subst (λ (b : Bool). keeps_in c.self.inside.streams (kept b c.self.inside.hand)) c.if-not-self.false c.self.invariant.hand) (ap next_action at ∙ e))
