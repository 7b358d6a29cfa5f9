use Rattle.std.proofs.Common.{◌∙◌}
use Rattle.tau_crew.proofs.Gathering.{gathers_none, gathers_on}
use Rattle.tau_crew.proofs.gather.gather_rounds.Goals as goal

pub loop-round-init : goal.loop-round-init
loop-round-init g c = gathers_none c.args.seat.now c.args.body.now.items

pub gather_round-requires-clause-own : goal.gather_round-requires-clause-own
gather_round-requires-clause-own g c = c.loop-round.invariant.table ∙ c.requires.own

pub gather_round-requires-clause-opened : goal.gather_round-requires-clause-opened
gather_round-requires-clause-opened g c = c.loop-round.invariant.opened ∙ c.requires.opened

pub gather_round-requires-clause-stream : goal.gather_round-requires-clause-stream
gather_round-requires-clause-stream g c = c.loop-round.invariant.stream ∙ c.requires.stream

pub returns-in_err-gather_round : goal.returns-in_err-gather_round
returns-in_err-gather_round g c = gathers_on c.args.seat.now c.loop-round.seat c.gather_round.new.seat c.args.body.now.items c.loop-round.body.items c.gather_round.new.body.items c.loop-round.invariant c.gather_round.ensures

pub returns-then-len-before : goal.returns-then-len-before
returns-then-len-before g c = gathers_on c.args.seat.now c.loop-round.seat c.gather_round.new.seat c.args.body.now.items c.loop-round.body.items c.gather_round.new.body.items c.loop-round.invariant c.gather_round.ensures

pub loop-round-preserved : goal.loop-round-preserved
loop-round-preserved g c = gathers_on c.args.seat.now c.loop-round.seat c.gather_round.new.seat c.args.body.now.items c.loop-round.body.items c.gather_round.new.body.items c.loop-round.invariant c.gather_round.ensures
