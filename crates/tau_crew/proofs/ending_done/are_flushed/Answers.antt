use Rattle.std.proofs.Common.{◌∙◌, subst, sym, arith}
use Rattle.tau_desk.specs.Seats.{PlainHead}
use Rattle.tau_crew.specs.Ending.{IsHeadBack}
use Rattle.tau_crew.specs.EndLeft.{HasGatheredAll}
use Rattle.tau_crew.proofs.EndLeft.{gathered_more}
use Rattle.tau_crew.proofs.ending_done.are_flushed.Goals as goal

pub flushed_at-requires-clause-head : goal.flushed_at-requires-clause-head
flushed_at-requires-clause-head g c = subst (λ (h : PlainHead). IsHeadBack c.args.desk.now.table.shared.key.value c.args.desk.now.table.shared.table_id h) (sym c.loop-stream.invariant.0) c.requires.head

pub loop-stream-preserved : goal.loop-stream-preserved
loop-stream-preserved g c = (
  c.flushed_at.ensures.same ∙ c.loop-stream.invariant.0,
  gathered_more c.args.desk.now.table.shared.key.value c.args.head.now c.args.jobs.now.items c.loop-stream.stream c.loop-stream.invariant.1
      (λ job is works. subst (λ (h : PlainHead). HasGatheredAll c.args.desk.now.table.shared.key.value h job.seat) c.loop-stream.invariant.0 (c.flushed_at.ensures.all c.if-not-flushed_at.false job is works)),
)

pub returns-clause-all : goal.returns-clause-all
returns-clause-all g c = λ yes j job lt is.
    let past = c.loop-stream-test.false in
    let n = c.len-stream-end.ensures in
    c.loop-stream.invariant.1 j job (omega (arith, lt, past, n)) is
