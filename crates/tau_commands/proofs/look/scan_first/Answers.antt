use Rattle.std.proofs.Common.{◌≡◌, length, rules}
use Rattle.tau_commands.proofs.First.{log_first, refusal_first}
use Rattle.tau_commands.proofs.look.scan_first.Goals as goal

-- no format is asked
pub scan_contents-requires-clause-fits : goal.scan_contents-requires-clause-fits
scan_contents-requires-clause-fits g c f is = absurd (cc is)

pub returns-in-Ok : goal.returns-in-Ok
returns-in-Ok g c =
    let long : length c.scan_contents.new.disks ≡ c.args.streams = search rules in
    log_first g.D.Disk c.args.disks.now c.scan_contents.new.disks c.args.streams c.requires.there long c.scan_contents.ensures.only_read c.in-Ok.log c.in-Ok._contents.items c.in-Ok.ensures.read c.in-Ok.ensures.sound c.in-Ok.ensures.contents c.in-Ok.ensures.calls

pub returns-in-Err : goal.returns-in-Err
returns-in-Err g c =
    let long : length c.scan_contents.new.disks ≡ c.args.streams = search rules in
    refusal_first g.D.Disk c.args.disks.now c.scan_contents.new.disks c.args.streams c.requires.there long c.scan_contents.ensures.only_read c.scan_contents.result c.in-Err.refusal c.in-Err.is c.in-Err.ensures.read c.scan_contents.ensures.failed c.scan_contents.ensures.stopped c.scan_contents.ensures.calls_bad
