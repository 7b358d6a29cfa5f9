use Rattle.std.proofs.Common.{ap, ◌∙◌}
use Rattle.tau_txn.specs.Next.{kind_of, next_action}
use Rattle.tau_desk.specs.Seats.{PlainWorkerSeat}
use Rattle.tau_desk.specs.Shares.{PlainWork}
use Rattle.tau_crew.proofs.WorkSteps.{is_before, unjoined_before, unjoined_same, works_committed, works_then}
use Rattle.tau_crew.proofs.worker.commit.Goals as goal

pub read_newer-requires-clause-there : goal.read_newer-requires-clause-there
read_newer-requires-clause-there g c = c.stream_of-stream.ensures.there

pub commit-requires-clause-own : goal.commit-requires-clause-own
commit-requires-clause-own g c = c.read_newer.ensures.works.seat.0 ∙ c.requires.own

pub commit-requires-clause-opened : goal.commit-requires-clause-opened
commit-requires-clause-opened g c = c.read_newer.ensures.works.seat.3 ∙ c.requires.opened

pub post-requires-clause-own : goal.post-requires-clause-own
post-requires-clause-own g c = c.commit.ensures.seat.0 ∙ c.read_newer.ensures.works.seat.0 ∙ c.requires.own

pub post-requires-clause-opened : goal.post-requires-clause-opened
post-requires-clause-opened g c = c.commit.ensures.seat.3 ∙ c.read_newer.ensures.works.seat.3 ∙ c.requires.opened

pub post-requires-clause-next : goal.post-requires-clause-next
post-requires-clause-next g c =
    let step = c.in-Went.ensures.step in
    ap (λ (o : PlainWork). kind_of (next_action o.txn)) step.4.work ∙ ap kind_of step.3.next

pub returns-in-Went-clause-works : goal.returns-in-Went-clause-works
returns-in-Went-clause-works g c = works_then c.args.seat.now c.read_newer.new.seat c.post.new.seat c.read_newer.ensures.works
    (works_then c.read_newer.new.seat c.commit.new.self c.post.new.seat
    (works_committed c.args.desk.now.table.shared.key.value c.read_newer.new.seat c.commit.new.self c.agrees.ensures (c.read_newer.ensures.works.seat.3 ∙ c.requires.opened) c.commit.ensures.seat c.commit.result c.commit.ensures.step) c.post.ensures)

pub returns-in-Busy-clause-works : goal.returns-in-Busy-clause-works
returns-in-Busy-clause-works g c = works_then c.args.seat.now c.read_newer.new.seat c.commit.new.self c.read_newer.ensures.works
    (works_committed c.args.desk.now.table.shared.key.value c.read_newer.new.seat c.commit.new.self c.agrees.ensures (c.read_newer.ensures.works.seat.3 ∙ c.requires.opened) c.commit.ensures.seat c.commit.result c.commit.ensures.step)

pub returns-in-Other-clause-works : goal.returns-in-Other-clause-works
returns-in-Other-clause-works g c = works_then c.args.seat.now c.read_newer.new.seat c.commit.new.self c.read_newer.ensures.works
    (works_committed c.args.desk.now.table.shared.key.value c.read_newer.new.seat c.commit.new.self c.agrees.ensures (c.read_newer.ensures.works.seat.3 ∙ c.requires.opened) c.commit.ensures.seat c.commit.result c.commit.ensures.step)

pub returns-in-NoMemory-clause-works : goal.returns-in-NoMemory-clause-works
returns-in-NoMemory-clause-works g c = works_then c.args.seat.now c.read_newer.new.seat c.commit.new.self c.read_newer.ensures.works
    (works_committed c.args.desk.now.table.shared.key.value c.read_newer.new.seat c.commit.new.self c.agrees.ensures (c.read_newer.ensures.works.seat.3 ∙ c.requires.opened) c.commit.ensures.seat c.commit.result c.commit.ensures.step)

pub returns-in-NoMemory-clause-short : goal.returns-in-NoMemory-clause-short
returns-in-NoMemory-clause-short g c = unjoined_same c.args.seat.now.work.txn c.commit.new.self.work.txn (ap (λ (x : PlainWorkerSeat). x.work.txn) c.in-NoMemory.ensures.step ∙ c.read_newer.ensures.txn)
    (unjoined_before c.args.seat.now.work.txn (ap is_before c.requires.next))
