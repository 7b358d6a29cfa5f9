use Rattle.std.proofs.Common.{sym, ◌∙◌, rules}
use Rattle.tau_core.specs.State.{plain}
use Rattle.tau_core.specs.Gather.{end_on, room_next}
use Rattle.tau_core.proofs.GathersOn.{next_room, next_on, on_on}
use Rattle.tau_core.proofs.gather.gather_all.Goals as goal

pub returns-then-is_err : goal.returns-then-is_err
returns-then-is_err c = (c.requires.going, c.reserve_body.ensures.made)

pub loop-stream-init : goal.loop-stream-init
loop-stream-init c = record {
  gathers = room_next c.reserve_body.ensures.made end_on;
  next = next_room c.args.stream (plain c.args.state.now) (plain c.reserve_body.new.state) c.requires.stood c.requires.there c.requires.going c.reserve_body.ensures.made (search rules);
}

pub returns-then-upto-before : goal.returns-then-upto-before
returns-then-upto-before c = (
  c.requires.going,
  on_on c.args.stream (plain c.args.state.now) (plain c.loop-stream.state) (plain c.gather_round.new.state) c.loop-stream.invariant.gathers c.gather_round.ensures.gathers,
  c.get-upto.ensures.same,
  c.gather_round.ensures.settles (sym c.get-upto.ensures.same ∙ c.if-upto-before.true ∙ c.get-before.ensures.same),
)

pub loop-stream-preserved : goal.loop-stream-preserved
loop-stream-preserved c = record {
  gathers = on_on c.args.stream (plain c.args.state.now) (plain c.loop-stream.state) (plain c.gather_round.new.state) c.loop-stream.invariant.gathers c.gather_round.ensures.gathers;
  next = next_on c.args.stream (plain c.args.state.now) (plain c.loop-stream.state) (plain c.gather_round.new.state) c.loop-stream.invariant.next c.gather_round.ensures.next;
}
