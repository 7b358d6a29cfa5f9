-- The vectors rise, so half of those between are settled.
use Rattle.std.proofs.Common.{◌+◌, ◌-◌, ◌/◌, [], sym, ◌∙◌, ap, arith}
use Rattle.tau_base.specs.Vectors.{covers}
use Rattle.tau_model.proofs.Listings.{at_default, rising_covers, rising_uncovered, first_slot}
use Rattle.tau_model.proofs.report.slot_of.Goals as goal

pub loop-low-preserved-then-covers_all : goal.loop-low-preserved-then-covers_all
loop-low-preserved-then-covers_all c = record {
  within = omega arith;
  between = omega arith;
  before = c.loop-low.invariant.before;
  behind = λ k low lt. rising_covers c.args.reached.now c.args.dep.now (c.loop-low.low + (c.loop-low.high - c.loop-low.low) / 2) k c.requires low lt (ap (λ v. covers v c.args.dep.now) (at_default c.args.reached.now (c.loop-low.low + (c.loop-low.high - c.loop-low.low) / 2) c.index-reached-middle.result [] (omega arith) c.index-reached-middle.is) ∙ sym c.covers_all.ensures.same ∙ c.if-covers_all.true);
}

pub loop-low-preserved : goal.loop-low-preserved
loop-low-preserved c = record {
  within = c.loop-low.invariant.within;
  between = omega arith;
  before = λ k lt. rising_uncovered c.args.reached.now c.args.dep.now k (c.loop-low.low + (c.loop-low.high - c.loop-low.low) / 2) c.requires (omega arith) (omega arith) (ap (λ v. covers v c.args.dep.now) (at_default c.args.reached.now (c.loop-low.low + (c.loop-low.high - c.loop-low.low) / 2) c.index-reached-middle.result [] (omega arith) c.index-reached-middle.is) ∙ sym c.covers_all.ensures.same ∙ c.if-covers_all.false);
  behind = c.loop-low.invariant.behind;
}

pub returns : goal.returns
returns c = first_slot c.args.reached.now c.args.dep.now c.loop-low.low (omega arith) c.loop-low.invariant.before (λ k low lt. c.loop-low.invariant.behind k (omega arith) lt)
