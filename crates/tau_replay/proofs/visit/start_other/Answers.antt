-- A record is started, or nothing changes.
use Rattle.std.proofs.Common.{refl}
use Rattle.std.specs.Prelude.{Some}
use Rattle.tau_replay.proofs.Visits.{rest_set, rest_same}
use Rattle.tau_replay.proofs.visit.start_other.Goals as goal

pub returns-in-Some-clause-rest : goal.returns-in-Some-clause-rest
returns-in-Some-clause-rest c = rest_set c.args.hand c.args.part.now.replay.hands.items c.start_at.new.replay.hands.items (Some c.in-Some.job) c.in-Some.ensures.hand

pub returns-in-None-clause-rest : goal.returns-in-None-clause-rest
returns-in-None-clause-rest c = rest_same c.args.hand 1 c.args.part.now.replay.hands.items c.start_at.new.replay.hands.items (c.in-None.ensures.none refl)
