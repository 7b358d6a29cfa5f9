use Rattle.std.proofs.Common.{ap, subst, sym}
use Rattle.tau_core.specs.declared.state.Load.{Load}
use Rattle.tau_desk.specs.Seats.{PlainHead}
use Rattle.tau_crew.specs.Ending.{IsHeadBack}
use Rattle.tau_crew.specs.EndDone.{IsDone}
use Rattle.tau_crew.proofs.EndLeft.{all_done, goes_none}
use Rattle.tau_crew.proofs.ending_pass.do_left.Goals as goal

pub returns-then-not-have_memory-clause-goes : goal.returns-then-not-have_memory-clause-goes
returns-then-not-have_memory-clause-goes g c = goes_none _ _ _ _ _ _ _ c.requires.clerk

pub returns-in-Err-clause-goes : goal.returns-in-Err-clause-goes
returns-in-Err-clause-goes g c = goes_none _ _ _ _ _ _ _ c.requires.clerk

pub returns-in-Ok-clause-head : goal.returns-in-Ok-clause-head
returns-in-Ok-clause-head g c = subst (λ (h : PlainHead). IsHeadBack c.args.desk.now.table.shared.key.value c.args.desk.now.table.shared.table_id h) (sym c.pass_left.ensures.same) c.run_left.ensures.back

pub returns-in-Ok-clause-done : goal.returns-in-Ok-clause-done
returns-in-Ok-clause-done g c = λ yes.
    let first = c.args.desk.now.table.shared.key.value in
    let (bases, ws, m) = c.requires.managers in
    subst (λ (h : PlainHead). IsDone first h c.pass_left.new.jobs.items c.pass_left.new.clerk) (sym c.pass_left.ensures.same)
    (all_done first c.args.desk.now.table.shared.table_id c.run_left.new.head c.run_left.ensures.back c.agrees.ensures bases ws c.pass_left.new.jobs.items c.pass_left.new.clerk c.args.desk.now.load.workers (ap (λ (l : Load). l.workers) c.args.desk.now.same_load)
    (c.pass_left.ensures.goes.managers bases ws m) c.pass_left.ensures.goes.clerk (c.pass_left.ensures.memory yes) (c.pass_left.ensures.clerk yes) (c.pass_left.ensures.gathered yes) (c.pass_left.ensures.told yes) c.in-Ok.ensures.ran c.in-Ok.ensures.left)
