-- The texts are alike up to the end of the shorter one.
use Rattle.std.proofs.Common.{arith}
use Rattle.tau_scan.proofs.Streams.{alike_end}
use Rattle.tau_scan.proofs.catalogue.alike.Goals as goal

pub returns : goal.returns
returns c =
    let rest = alike_end c.args.text.now c.args.other.now c.loop-n.n (omega (arith, c.min-most.ensures, c.loop-n-test.false)) in
    omega (arith, c.loop-n.invariant, rest, c.loop-n.auto.n-end, c.loop-n-test.false)
