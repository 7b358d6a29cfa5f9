use Rattle.std.proofs.Common.{ap, ◌∙◌}
use Rattle.tau_txn.specs.Next.{kind_of, next_action}
use Rattle.tau_txn.specs.Txn.{PlainTxn}
use Rattle.tau_desk.specs.Seats.{PlainWorkerSeat}
use Rattle.tau_crew.proofs.WorkSteps.{is_before, unjoined_before, works_read, works_then}
use Rattle.tau_crew.proofs.worker.read_newer.Goals as goal

pub returns-then-not-may_be_newer-clause-works : goal.returns-then-not-may_be_newer-clause-works
returns-then-not-may_be_newer-clause-works g c = c.may_be_newer.ensures.works

pub read_anchor-requires-clause-own : goal.read_anchor-requires-clause-own
read_anchor-requires-clause-own g c = c.may_be_newer.ensures.works.seat.0 ∙ c.requires.own

pub read_anchor-requires-clause-opened : goal.read_anchor-requires-clause-opened
read_anchor-requires-clause-opened g c = c.may_be_newer.ensures.works.seat.3 ∙ c.requires.opened

pub read_anchor-requires-clause-posted : goal.read_anchor-requires-clause-posted
read_anchor-requires-clause-posted g c = (unjoined_before c.may_be_newer.new.seat.work.txn (ap is_before (ap (λ (t : PlainTxn). kind_of (next_action t)) c.may_be_newer.ensures.txn ∙ c.requires.next))).posted

pub returns-clause-works : goal.returns-clause-works
returns-clause-works g c = works_then c.args.seat.now c.may_be_newer.new.seat c.read_anchor.new.self c.may_be_newer.ensures.works (works_read c.args.desk.now.table.shared.key.value c.may_be_newer.new.seat c.read_anchor.new.self c.read_anchor.ensures)

pub returns-clause-txn : goal.returns-clause-txn
returns-clause-txn g c = ap (λ (x : PlainWorkerSeat). x.work.txn) c.read_anchor.ensures.after ∙ c.may_be_newer.ensures.txn
