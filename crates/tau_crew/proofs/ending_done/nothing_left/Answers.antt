use Rattle.std.proofs.Common.{subst, sym}
use Rattle.tau_desk.specs.Seats.{PlainHead}
use Rattle.tau_crew.specs.Ending.{IsHeadBack}
use Rattle.tau_crew.specs.EndDone.{durables}
use Rattle.tau_crew.specs.EndLeft.{AreTold}
use Rattle.tau_crew.proofs.ending_done.nothing_left.Goals as goal

pub are_told-requires-clause-head : goal.are_told-requires-clause-head
are_told-requires-clause-head g c = subst (λ (h : PlainHead). IsHeadBack c.args.desk.now.table.shared.key.value c.args.desk.now.table.shared.table_id h) (sym c.are_flushed.ensures.same) c.requires.head

pub returns-clause-gathered : goal.returns-clause-gathered
returns-clause-gathered g c = λ yes. c.are_flushed.ensures.all c.if-not-are_flushed.false

pub returns-clause-told : goal.returns-clause-told
returns-clause-told g c = λ yes. subst (λ (h : PlainHead). AreTold c.args.desk.now.load.workers (durables c.args.jobs.now.items) h c.args.clerk.now.told.acks c.args.desk.now.load.workers) c.are_flushed.ensures.same (c.are_told.ensures yes)
