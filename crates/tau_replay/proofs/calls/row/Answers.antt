-- The part is given back as it was.
use Rattle.std.proofs.Common.{ap}
use Rattle.tau_replay.specs.Rule.{Sat}
use Rattle.tau_replay.proofs.Crews.{may_give_same, gave_same}
use Rattle.tau_replay.proofs.calls.row.Goals as goal

pub give-requires-clause-held : goal.give-requires-clause-held
give-requires-clause-held g c =
    let held = c.take-part.ensures.held in
    (ap (λ (m : Sat). m.1) held, may_give_same c.args.seat.now.me c.take-part.new.seat.me c.take-part.result c.requires.idle held c.take-part.ensures.working)

pub returns-clause-same : goal.returns-clause-same
returns-clause-same g c = gave_same c.args.seat.now.me c.take-part.new.seat.me c.give.new.seat.me c.take-part.result c.requires.idle c.take-part.ensures.named c.take-part.ensures.held c.give.ensures.given
