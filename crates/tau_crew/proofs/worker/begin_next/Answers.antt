use Rattle.std.proofs.Common.{ap, subst, sym, ◌∙◌}
use Rattle.std.specs.Prelude.{OnErr}
use Rattle.std.proofs.lemmas.Result.{err_from_is_err_and}
use Rattle.tau_txn.specs.Txn.{PlainTxn}
use Rattle.tau_crew.specs.Working.{IsUnjoined}
use Rattle.tau_crew.proofs.WorkSteps.{works_begun, works_then, unjoined_none}
use Rattle.tau_crew.proofs.WorkEnds.{begun_none, begun_rests, begun_short}
use Rattle.tau_crew.proofs.worker.begin_next.Goals as goal

pub begin-requires-clause-opened : goal.begin-requires-clause-opened
begin-requires-clause-opened g c = (c.make_ready.ensures.works.seat.3 ∙ c.requires.opened)

pub begin-requires-clause-rests : goal.begin-requires-clause-rests
begin-requires-clause-rests g c = (ap (λ (t : PlainTxn). t.hand) c.make_ready.ensures.txn ∙ c.requires.rests)

pub returns-clause-works : goal.returns-clause-works
returns-clause-works g c = works_then c.args.seat.now c.make_ready.new.seat c.begin.new.self c.make_ready.ensures.works (works_begun c.args.desk.now.table.shared.key.value.load c.make_ready.new.seat c.begin.new.self c.begin.result c.begin.ensures.begins c.begin.ensures.others)

pub returns-clause-rests : goal.returns-clause-rests
returns-clause-rests g c = begun_rests c.args.desk.now.table.shared.key.value c.make_ready.new.seat c.begin.new.self c.agrees.ensures (c.make_ready.ensures.works.seat.3 ∙ c.requires.opened) (ap (λ (t : PlainTxn). t.hand) c.make_ready.ensures.txn ∙ c.requires.rests) c.begin.ensures.others c.begin.result c.begin.ensures.begins

pub returns-clause-none : goal.returns-clause-none
returns-clause-none g c = begun_none c.args.desk.now.table.shared.key.value c.make_ready.new.seat c.begin.new.self c.agrees.ensures (c.make_ready.ensures.works.seat.3 ∙ c.requires.opened) (ap (λ (t : PlainTxn). t.hand) c.make_ready.ensures.txn ∙ c.requires.rests) c.begin.ensures.others c.begin.result c.begin.ensures.begins

pub returns-clause-short : goal.returns-clause-short
returns-clause-short g c = begun_short c.args.desk.now.table.shared.key.value c.make_ready.new.seat c.begin.new.self c.agrees.ensures (c.make_ready.ensures.works.seat.3 ∙ c.requires.opened) (ap (λ (t : PlainTxn). t.hand) c.make_ready.ensures.txn ∙ c.requires.rests) c.begin.ensures.others c.begin.result c.begin.ensures.begins

pub returns-in_err-make_ready-clause-short : goal.returns-in_err-make_ready-clause-short
returns-in_err-make_ready-clause-short g c =
    let p = err_from_is_err_and c.from_residual.result c.from_residual.ensures.1 in
    subst (λ r. OnErr r (IsUnjoined c.make_ready.new.seat.work.txn)) (sym p.1) (unjoined_none c.make_ready.new.seat.work.txn (ap (λ (t : PlainTxn). t.hand) c.make_ready.ensures.txn ∙ c.requires.rests))
