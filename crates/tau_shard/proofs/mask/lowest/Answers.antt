use Rattle.std.proofs.Common.{◌<◌, arith}
use Rattle.tau_shard.proofs.Masks.{least_bit}
use Rattle.tau_shard.proofs.mask.lowest.Goals as goal

pub returns-else-mask-eq0-clause-found : goal.returns-else-mask-eq0-clause-found
returns-else-mask-eq0-clause-found c =
    let above : 0 < c.args.mask = (let e = c.if-mask-eq0.false in grind arith) in
    let small : c.args.mask < 4294967296 = omega arith in
    (least_bit c.args.mask above small).1
