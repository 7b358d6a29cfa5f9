use Rattle.std.proofs.Common.{◌≡◌, ℕ, ◌+◌, ◌-◌, ◌<◌, ◌≤◌, ◌∙◌, ◌++◌, subst, length, refl, ap, arith, rules, length-append, length-drop}
use Rattle.tau_stream.specs.Stream.{IsSettled}
use Rattle.tau_stream.specs.Writer.{part_upto}
use Rattle.tau_stream.proofs.Tears.{content_now}
use Rattle.tau_stream.proofs.Left.{flush_stops}
use Rattle.tau_stream.proofs.Parts.{part_is, part_whole, length_part, length_tail}
use Rattle.tau_stream.proofs.writer.Writer.flush_gated.Goals as goal

pub invariant_of-self : goal.invariant_of-self
invariant_of-self g c =
    let w = c.args.self.now in
    let reach = c.requires.prepared.reach in
    let some : w.durable < c.args.upto = omega (arith, reach.not_before, c.if-upto-self.false) in
    let size : length w.block.items ≡ 5 + (c.args.upto - w.durable) = ap length (c.requires.prepared.block some) ∙ length_tail w c.args.upto reach some in
    let long : c.len.result ≡ length w.block.items = omega (arith, c.len.ensures) in
    let here : length c.deref.result.now ≡ length w.block.items = ap length c.deref.ensures.value in
    let whole : w.durable + 5 ≤ c.args.upto = part_whole w c.args.upto reach some in
    let left : length c.drop_front.new.bytes.items ≡ length w.body.items - (c.args.upto - w.durable) = ap length c.drop_front.ensures ∙ length-drop (c.args.upto - w.durable) w.body.items in
    record {
      here = λ tells works. omega (arith, c.in-Ok.ensures.here tells, long, here);
      counted = omega (arith, left, reach.within, w.counted);
      behind = omega (arith, w.behind, long, size, reach.not_before);
      room = omega (arith, left, long, size, whole, reach.within, w.room);
      limit = w.limit;
    }

pub returns-in-Ok-clause-flushed : goal.returns-in-Ok-clause-flushed
returns-in-Ok-clause-flushed g c =
    let w = c.args.self.now in
    let reach = c.requires.prepared.reach in
    let some : w.durable < c.args.upto = omega (arith, reach.not_before, c.if-upto-self.false) in
    let size : length c.deref.result.now ≡ c.len.result = omega (arith, c.len.ensures, ap length c.deref.ensures.value) in
    record {
      durable = search rules;
      left = search rules;
      works = search rules;
      done = λ tells f n j content ready. record {
        settled = subst (λ (long : ℕ). IsSettled f n j (g.D.Disk.seen c.publish_gated.new.disk) (g.D.Disk.may_leave c.publish_gated.new.disk) (w.gate_at + long) (content ++ part_upto w c.args.upto)) size
            (c.in-Ok.ensures.done tells f n j content (part_upto w c.args.upto) ready.settled (part_is w c.args.upto reach some) (c.deref.ensures.value ∙ c.requires.prepared.block some));
        counts = omega (arith, ready.counts, length-append content (part_upto w c.args.upto), length_part w c.args.upto reach some, reach.not_before);
      };
    }

pub returns-in-Ok-clause-flushes : goal.returns-in-Ok-clause-flushes
returns-in-Ok-clause-flushes g c =
    let w = c.args.self.now in
    let reach = c.requires.prepared.reach in
    let some : w.durable < c.args.upto = omega (arith, reach.not_before, c.if-upto-self.false) in
    record {
      moments = λ tells f n j content ready.
          c.publish_gated.ensures.moments tells f n j content (part_upto w c.args.upto) ready.settled (part_is w c.args.upto reach some) (c.deref.ensures.value ∙ c.requires.prepared.block some);
      plan = search rules;
      idle = search rules;
      idle_same = search rules;
      failed = search rules;
      memory = search rules;
      added = search rules;
      faults = search rules;
      stops = search rules;
      last = λ tells. c.publish_gated.ensures.last tells;
    }

pub returns-in-Err-clause-stays : goal.returns-in-Err-clause-stays
returns-in-Err-clause-stays g c = record {
  durable = search rules;
  left = search rules;
  reached = λ tells f n j content ready. c.in-Err.ensures.reached tells f n j content ready.settled;
}

pub returns-in-Err-clause-flushes : goal.returns-in-Err-clause-flushes
returns-in-Err-clause-flushes g c =
    let w = c.args.self.now in
    let reach = c.requires.prepared.reach in
    let some : w.durable < c.args.upto = omega (arith, reach.not_before, c.if-upto-self.false) in
    record {
      moments = λ tells f n j content ready.
          c.publish_gated.ensures.moments tells f n j content (part_upto w c.args.upto) ready.settled (part_is w c.args.upto reach some) (c.deref.ensures.value ∙ c.requires.prepared.block some);
      plan = search rules;
      idle = search rules;
      idle_same = search rules;
      failed = search rules;
      memory = search rules;
      added = search rules;
      faults = search rules;
      stops = λ failed tells. flush_stops w _ c.args.upto c.deref.result.now (part_is w c.args.upto reach some) (c.deref.ensures.value ∙ c.requires.prepared.block some) (c.in-Err.ensures.left tells);
      last = λ tells. c.publish_gated.ensures.last tells;
    }

pub returns-then-upto-self-clause-stays : goal.returns-then-upto-self-clause-stays
returns-then-upto-self-clause-stays g c =
    let w = c.args.self.now in
    record {
      durable = search rules;
      left = search rules;
      reached = λ tells f n j content ready. (g.D.Disk.seen w.disk, g.met.D.Disk.seen_now w.disk tells, content_now f n j (g.D.Disk.seen w.disk) w.gate_at content ready.settled.log);
    }

pub returns-then-upto-self-clause-flushes : goal.returns-then-upto-self-clause-flushes
returns-then-upto-self-clause-flushes g c = record {
  moments = search rules;
  plan = search rules;
  idle = search rules;
  idle_same = search rules;
  failed = search rules;
  memory = search rules;
  added = search rules;
  faults = search rules;
  stops = search rules;
  last = λ tells k. refl;
}
