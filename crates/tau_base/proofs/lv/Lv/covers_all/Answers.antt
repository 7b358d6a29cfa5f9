use Rattle.std.proofs.Common.{sym, rules, arith, ◌<◌, slice_index}
use Rattle.tau_base.proofs.Vectors.{above_covers, at_most_covers, at_most_within}
use Rattle.tau_base.proofs.lv.Lv.covers_all.Goals as goal

pub returns-then-positions-j-clause-same : goal.returns-then-positions-j-clause-same
returns-then-positions-j-clause-same c =
    let above : slice_index c.args.self.now c.loop-j.j < slice_index c.args.positions.now c.loop-j.j = search rules in
    sym (above_covers c.args.self.now c.args.positions.now c.loop-j.j above)

pub returns-clause-same : goal.returns-clause-same
returns-clause-same c = sym (at_most_covers c.args.self.now c.args.positions.now (at_most_within c.args.positions.now c.args.self.now (λ k lt. c.loop-j.invariant k (omega arith))))

pub returns-clause-covers : goal.returns-clause-covers
returns-clause-covers c = (λ _. at_most_within c.args.positions.now c.args.self.now (λ k lt. c.loop-j.invariant k (omega arith)), λ _. search rules)
