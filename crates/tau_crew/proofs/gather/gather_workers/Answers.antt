use Rattle.std.proofs.Common.{◌∙◌}
use Rattle.tau_crew.proofs.Gathering.{gathers_none, gathers_on}
use Rattle.tau_crew.proofs.gather.gather_workers.Goals as goal

pub loop-worker-init : goal.loop-worker-init
loop-worker-init g c = gathers_none c.args.seat.now c.args.body.now.items

pub gather_worker-requires-clause-own : goal.gather_worker-requires-clause-own
gather_worker-requires-clause-own g c = c.loop-worker.invariant.table ∙ c.requires.own

pub gather_worker-requires-clause-opened : goal.gather_worker-requires-clause-opened
gather_worker-requires-clause-opened g c = c.loop-worker.invariant.opened ∙ c.requires.opened

pub gather_worker-requires-clause-stream : goal.gather_worker-requires-clause-stream
gather_worker-requires-clause-stream g c = c.loop-worker.invariant.stream ∙ c.requires.stream

pub returns-in_err-gather_worker : goal.returns-in_err-gather_worker
returns-in_err-gather_worker g c = gathers_on c.args.seat.now c.loop-worker.seat c.gather_worker.new.seat c.args.body.now.items c.loop-worker.body.items c.gather_worker.new.body.items c.loop-worker.invariant c.gather_worker.ensures

pub loop-worker-preserved : goal.loop-worker-preserved
loop-worker-preserved g c = gathers_on c.args.seat.now c.loop-worker.seat c.gather_worker.new.seat c.args.body.now.items c.loop-worker.body.items c.gather_worker.new.body.items c.loop-worker.invariant c.gather_worker.ensures
