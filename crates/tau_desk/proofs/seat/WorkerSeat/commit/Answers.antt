use Rattle.std.proofs.Common.{◌≡◌, ℕ, List, ap, subst, sym, ◌∙◌, arith}
use Rattle.tau_proc.specs.declared.proc.Proc.{Proc}
use Rattle.tau_model.specs.declared.committed.Committed.{Committed}
use Rattle.tau_txn.specs.Next.{Means, kind_of, next_action}
use Rattle.tau_txn.specs.Txn.{PlainTxn, RunsBy}
use Rattle.tau_desk.specs.Acts.{HasCommitted}
use Rattle.tau_core.specs.State.{Plain}
use Rattle.tau_desk.specs.Seats.{IsWorkerSeat}
use Rattle.tau_desk.proofs.GoingOn.{work_at}
use Rattle.tau_desk.proofs.Committing.{commit_room, seat_committed}
use Rattle.tau_desk.proofs.seat.WorkerSeat.commit.Goals as goal

-- the call is the one in the box
committed_from : (procs : List Proc) (t o t' : PlainTxn) (number : ℕ) (anchor : List ℕ) (start : ℕ) (kept : Committed) → t ≡ o → HasCommitted procs t t' number anchor start kept → HasCommitted procs o t' number anchor start kept
committed_from procs t o t' number anchor start kept same has = subst (λ (x : PlainTxn). HasCommitted procs x t' number anchor start kept) same has

pub commit-requires-clause-list : goal.commit-requires-clause-list
commit-requires-clause-list c =
    let origin : Plain = c.args.desk.now.table.shared.key.value in
    let opened = ap (λ x. x.seat.me.0.opened) c.self-inside.view_is ∙ ap (λ v. v.me.0.opened) c.self.view_is ∙ c.requires.opened in
    let s = subst (λ x. IsWorkerSeat x.seat.me x.worker x.work (x.anchor, x.anchor_lv) x.seen) (sym c.self-inside.view_is) c.self.invariant in
    let f = (work_at origin _ _ _ _ _ opened s).fits in
    let means = c.kind.ensures.means origin.load.procs (subst (λ (t : PlainTxn). RunsBy origin.load.procs t) (sym c.deref.ensures) f.runs) in
    commit_room origin.load _ _ f (subst (λ (t : PlainTxn). Means origin.load.procs t (next_action t)) c.deref.ensures means) (ap (λ (t : PlainTxn). kind_of (next_action t)) (sym c.deref.ensures) ∙ sym c.kind.ensures.kind ∙ c.in-Commit.is)

pub invariant_of-self : goal.invariant_of-self
invariant_of-self c =
    let origin : Plain = c.args.desk.now.table.shared.key.value in
    let opened = ap (λ x. x.seat.me.0.opened) c.self-inside.view_is ∙ ap (λ v. v.me.0.opened) c.self.view_is ∙ c.requires.opened in
    let s = subst (λ x. IsWorkerSeat x.seat.me x.worker x.work (x.anchor, x.anchor_lv) x.seen) (sym c.self-inside.view_is) c.self.invariant in
    let room : ℕ = c.commit.new.committed.room in
    let some = c.if-self-eq0.false in
    let step = c.in-Ok.ensures.step in
    seat_committed origin _ c.commit.new.seat.me _ _ c.commit.new.txn c.in-Ok.start step.0 c.commit.new.committed.items room _ _ opened s step.1.0 step.2 (omega (arith, some))
    (committed_from _ _ _ _ _ _ _ _ c.deref_mut.ensures.value step.1.1)
