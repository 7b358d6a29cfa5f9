use Rattle.std.proofs.Common.{sym, ◌∙◌}
use Rattle.std.specs.Prelude.{Some, None}
use Rattle.tau_step.proofs.PeekTurns.{has_ended, kept_lock, kept_peek, peek_turned, wants_now}
use Rattle.tau_step.proofs.seen.seen_turn.Goals as goal

pub lock_seen-requires-clause-ended : goal.lock_seen-requires-clause-ended
lock_seen-requires-clause-ended c = has_ended c.args.core.now c.args.worker c.wants.new.self.seen
    (wants_now c.args.core.now c.args.worker c.args.peeker.now c.wants.result c.wants.new.self.seen None c.requires.peeks c.wants.ensures.wants c.wants.ensures.seen c.in-None.is)

pub returns-in-Some : goal.returns-in-Some
returns-in-Some c = record {
  turned = λ K h es told f stands same works.
      peek_turned c.args.worker c.args.core.now c.args.number c.args.key c.args.mode c.wants.new.self.seen c.in-Some.wanted c.requires.at
      (wants_now c.args.core.now c.args.worker c.args.peeker.now c.wants.result c.wants.new.self.seen (Some c.in-Some.wanted) c.requires.peeks c.wants.ensures.wants c.wants.ensures.seen c.in-Some.is)
      c.peek.new.peeker.seen c.peek.result c.peek.ensures.saw c.peek.ensures.same K h es told f stands (same ∙ sym c.wants.ensures.seen) works;
  kept = kept_peek c.peek.result c.args.peeker.now c.wants.new.self c.peek.new.peeker c.wants.ensures.peeks c.peek.ensures.kept;
}

pub returns-in-None : goal.returns-in-None
returns-in-None c = record {
  turned = λ K h es told f stands same works. c.lock_seen.ensures.turned K h es told f stands (same ∙ sym c.wants.ensures.seen) works;
  kept = kept_lock c.lock_seen.result c.args.peeker.now c.wants.new.self c.lock_seen.new.peeker c.wants.ensures.peeks c.lock_seen.ensures.kept;
}
