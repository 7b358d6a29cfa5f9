use Rattle.std.proofs.Common.{◌≡◌, ◌≤◌, ℕ, length, false, List, sym, ap, subst, ◌∙◌, arith}
use Rattle.std.specs.Prelude.{Bool, Some, OnOk}
use Rattle.tau_proc.specs.declared.proc.Proc.{Proc}
use Rattle.tau_base.specs.Modes.{format_of}
use Rattle.tau_record.specs.Record.{base_of, Spells}
use Rattle.tau_machine.specs.Hands as theory
use Rattle.tau_txn.specs.Kept.{KeepsHand, keeps_in, kept}
use Rattle.tau_txn.specs.Next.{next_action, IsCommit, act_at}
use Rattle.tau_txn.specs.Progress.{IsFinished}
use Rattle.tau_txn.specs.Record.{entry_of}
use Rattle.tau_txn.specs.Txn.{PlainTxn, RunsBy, shown, shown_of, bytes_by}
use Rattle.tau_txn.proofs.Asked.{commit_of}
use Rattle.tau_txn.proofs.Prepared.{prepared_bytes, prepared_sized}
use Rattle.tau_txn.proofs.txn.Txn.prepare.Goals as goal

pub returns-clause-sized : goal.returns-clause-sized
returns-clause-sized c =
    subst (λ (b : Bool). OnOk c.prepare.result (1 ≤ length (bytes_by (kept b c.prepare.new.self)))) (sym c.if-not-self.false)
    (prepared_sized c.self.inside.worker c.self.inside.streams c.self.inside.mode c.self.inside.hand c.prepare.new.self c.args.anchor_number c.args.anchor.now c.prepare.result c.prepare.ensures.bytes)

pub returns-clause-bytes : goal.returns-clause-bytes
returns-clause-bytes c =
    let at : ◌≡◌ {A = PlainTxn} (record { worker = c.self.inside.worker; width = c.self.inside.streams; mode = c.self.inside.mode; hand = Some c.self.inside.hand }) c.args.self.now =
    ap (λ (b : Bool). record { worker = c.self.inside.worker; width = c.self.inside.streams; mode = c.self.inside.mode; hand = kept b c.self.inside.hand }) (sym c.if-not-self.false) ∙ c.self.view_is in
    let keeps : KeepsHand c.self.inside.streams c.self.inside.hand = subst (λ (b : Bool). keeps_in c.self.inside.streams (kept b c.self.inside.hand)) c.if-not-self.false c.self.invariant.hand in
    let asked = commit_of c.self.inside.hand (subst (λ (t : PlainTxn). IsCommit (next_action t)) (sym at) c.requires.commit) in
    let finished = subst IsFinished (sym asked.1.finished) tt in
    subst (λ (b : Bool). OnOk c.prepare.result ((procs : List Proc) (hand : theory.Hand) (start : ℕ) (vectors : List (List ℕ)) → RunsBy procs c.args.self.now →
    shown_of procs c.self.inside.worker (kept b c.prepare.new.self) ≡ Some hand → base_of vectors c.args.anchor_number ≡ c.args.anchor.now →
    Spells (format_of c.args.self.now.mode) c.args.self.now.width vectors false
    (entry_of c.args.self.now.mode (act_at procs (record { worker = c.self.inside.worker; width = c.self.inside.streams; mode = c.self.inside.mode; hand = kept b c.prepare.new.self }) start hand)) (bytes_by (kept b c.prepare.new.self))))
    (sym c.if-not-self.false)
    (subst (λ (t : PlainTxn). OnOk c.prepare.result ((procs : List Proc) (hand : theory.Hand) (start : ℕ) (vectors : List (List ℕ)) → RunsBy procs t →
    shown procs c.self.inside.worker c.prepare.new.self.standing c.prepare.new.self ≡ Some hand → base_of vectors c.args.anchor_number ≡ c.args.anchor.now →
    Spells (format_of t.mode) t.width vectors false
    (entry_of t.mode (act_at procs (record { worker = c.self.inside.worker; width = c.self.inside.streams; mode = c.self.inside.mode; hand = Some c.prepare.new.self }) start hand)) c.prepare.new.self.bytes))
    at
    (prepared_bytes c.self.inside.worker c.self.inside.streams c.self.inside.mode c.self.inside.hand c.prepare.new.self c.args.anchor_number c.args.anchor.now c.prepare.result
    c.prepare.ensures.raised c.prepare.ensures.bytes keeps.shaped.wide finished c.prepare.ensures.runs))

pub prepare-requires-clause-few : goal.prepare-requires-clause-few
prepare-requires-clause-few c =
    let keeps : KeepsHand c.self.inside.streams c.self.inside.hand = subst (λ (b : Bool). keeps_in c.self.inside.streams (kept b c.self.inside.hand)) c.if-not-self.false c.self.invariant.hand in
    omega (arith, keeps.shaped.wide, c.self.invariant.fits)
