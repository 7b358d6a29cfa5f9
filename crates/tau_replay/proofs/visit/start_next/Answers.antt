-- A record is started, or another one may be.
use Rattle.std.proofs.Common.{refl, ap, ◌∙◌}
use Rattle.std.specs.Prelude.{Some, slice_get}
use Rattle.tau_replay.proofs.Visits.{rest_set, rest_same, rest_trans}
use Rattle.tau_replay.proofs.visit.start_next.Goals as goal

pub returns-in-Some-clause-rest : goal.returns-in-Some-clause-rest
returns-in-Some-clause-rest c = rest_set c.args.hand c.args.part.now.replay.hands.items c.start_at.new.replay.hands.items (Some c.in-Some.job) c.in-Some.ensures.hand

pub start_other-requires-clause-idle : goal.start_other-requires-clause-idle
start_other-requires-clause-idle c = ap (λ hs. slice_get hs c.args.hand) (c.in-None.ensures.none refl) ∙ c.requires.idle

pub returns-in-None-clause-rest : goal.returns-in-None-clause-rest
returns-in-None-clause-rest c =
    rest_trans c.args.hand 1 c.args.part.now.replay.hands.items c.start_at.new.replay.hands.items c.start_other.new.part.replay.hands.items
    (rest_same c.args.hand 1 c.args.part.now.replay.hands.items c.start_at.new.replay.hands.items (c.in-None.ensures.none refl)) c.start_other.ensures.rest
