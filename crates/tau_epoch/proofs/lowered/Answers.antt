use Rattle.std.proofs.Common.{arith, ◌≤◌, length}
use Rattle.tau_epoch.proofs.Meets.{meet_so_far}
use Rattle.tau_epoch.proofs.lowered.Goals as goal

pub returns : goal.returns
returns c =
    let all : length c.args.narrow.now ≤ c.loop-j.j = omega arith in
    meet_so_far c.loop-j.out c.args.narrow.now c.args.wide.now c.loop-j.j all c.requires c.loop-j.invariant.0 c.loop-j.invariant.1
