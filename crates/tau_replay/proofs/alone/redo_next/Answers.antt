-- A record is started and finished, or none is ready.
use Rattle.std.proofs.Common.{sym, subst}
use Rattle.std.specs.Prelude.{Some, None}
use Rattle.tau_pool.specs.Pooled.{Pooled, NoneReady}
use Rattle.tau_replay.proofs.Visits.{sound_turn, set_here}
use Rattle.tau_replay.proofs.alone.redo_next.Goals as goal

pub start-requires : goal.start-requires
start-requires g c = (c.requires.sound.way, c.requires.idle)

pub finish-requires : goal.finish-requires
finish-requires g c = (
  c.start.ensures.going,
  set_here 0 c.args.replay.now.hands.items c.start.new.replay.hands.items None (Some c.in-Taken.job) c.requires.idle (c.start.ensures.hand c.in-Taken.job c.in-Taken.is),
)

pub returns-in_ok-finish-in-Taken-clause-sound : goal.returns-in_ok-finish-in-Taken-clause-sound
returns-in_ok-finish-in-Taken-clause-sound g c =
    sound_turn c.args.log.now c.start.new.replay c.finish.new.replay 0 (sound_turn c.args.log.now c.args.replay.now c.start.new.replay 0 c.requires.sound c.start.ensures.going c.start.ensures.followed) c.in_ok-finish-in-Taken.ensures.going c.in_ok-finish-in-Taken.ensures.followed

pub returns-in_ok-finish-in-Taken-clause-idle : goal.returns-in_ok-finish-in-Taken-clause-idle
returns-in_ok-finish-in-Taken-clause-idle g c =
    let busy = set_here 0 c.args.replay.now.hands.items c.start.new.replay.hands.items None (Some c.in-Taken.job) c.requires.idle (c.start.ensures.hand c.in-Taken.job c.in-Taken.is) in
    set_here 0 c.start.new.replay.hands.items c.finish.new.replay.hands.items (Some c.in-Taken.job) None busy c.in_ok-finish-in-Taken.ensures.hand

pub returns-in-NotYet-clause-sound : goal.returns-in-NotYet-clause-sound
returns-in-NotYet-clause-sound g c = sound_turn c.args.log.now c.args.replay.now c.start.new.replay 0 c.requires.sound c.start.ensures.going c.start.ensures.followed

pub returns-in-NotYet-clause-over : goal.returns-in-NotYet-clause-over
returns-in-NotYet-clause-over g c = λ is. let none = c.start.ensures.not_yet c.in-NotYet.is in subst (λ (p : Pooled). NoneReady p) (sym none.1) none.2.none_ready
