use Rattle.std.proofs.Common.{arith, ◌≤◌, length}
use Rattle.tau_base.proofs.Vectors.{join_so_far}
use Rattle.tau_base.proofs.lv.Lv.raise_by_narrower.Goals as goal

pub returns : goal.returns
returns c =
    let all : length c.args.other.now ≤ c.loop-j.j = omega arith in
    join_so_far c.loop-j.self c.args.self.now c.args.other.now c.loop-j.j all c.loop-j.invariant.0 c.loop-j.invariant.1 c.loop-j.invariant.2
