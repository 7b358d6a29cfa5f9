use Rattle.std.proofs.Common.{[]}
use Rattle.tau_record.specs.Format.{One}
use Rattle.tau_begin.proofs.Giving.{if_ok_then, epoch_is, epoch_long}
use Rattle.tau_begin.proofs.given.epoch_bytes.Goals as goal

pub returns-clause-is : goal.returns-clause-is
returns-clause-is c = if_ok_then _ _ c.encode_epoch.result c.encode_epoch.ensures (λ v spelled. epoch_is c.args.epoch c.args.elv.now v.items c.if-epoch-eq0.false (spelled One []).text)

pub returns-clause-long : goal.returns-clause-long
returns-clause-long c =
    if_ok_then _ _ c.encode_epoch.result c.encode_epoch.ensures (λ v spelled. (epoch_long c.args.epoch c.args.elv.now v.items c.as_slice-positions.ensures.high (spelled One []).text).1)

pub returns-clause-some : goal.returns-clause-some
returns-clause-some c =
    if_ok_then _ _ c.encode_epoch.result c.encode_epoch.ensures (λ v spelled some. (epoch_long c.args.epoch c.args.elv.now v.items c.as_slice-positions.ensures.high (spelled One []).text).0)
