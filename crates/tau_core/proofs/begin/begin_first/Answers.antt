use Rattle.tau_core.specs.State.{plain}
use Rattle.tau_core.proofs.Firsts.{room_sound, room_rests, room_next, begun_from}
use Rattle.tau_core.proofs.begin.begin_first.Goals as goal

pub begin_call-requires-clause-sound : goal.begin_call-requires-clause-sound
begin_call-requires-clause-sound c = room_sound (plain c.args.state.now) (plain c.make_room.new.state) c.args.worker c.requires.stood c.make_room.ensures.made

pub begin_call-requires-clause-rests : goal.begin_call-requires-clause-rests
begin_call-requires-clause-rests c = room_rests (plain c.args.state.now) (plain c.make_room.new.state) c.args.worker c.args.number c.make_room.ensures.made c.requires.rests

pub begin_call-requires-clause-next : goal.begin_call-requires-clause-next
begin_call-requires-clause-next c = room_next (plain c.args.state.now) (plain c.make_room.new.state) c.args.worker c.args.number c.make_room.ensures.made c.requires.next

pub returns-clause-begun : goal.returns-clause-begun
returns-clause-begun c =
    begun_from (plain c.args.state.now) (plain c.make_room.new.state) (plain c.begin_call.new.state) c.args.worker c.args.number c.begin_call.result c.requires.stood c.make_room.ensures.made c.in_ok-make_room.ensures.roomy
    c.begin_call.ensures.begins c.begin_call.ensures.mark c.requires.next c.requires.rests
