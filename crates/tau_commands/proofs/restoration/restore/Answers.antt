use Rattle.std.proofs.Common.{◌≡◌, length, arith}
use Rattle.tau_base.specs.declared.limits.TheConstants.{MAX_STREAMS}
use Rattle.tau_disk.specs.Disk.{Rose}
use Rattle.tau_disk.specs.Used.{OnlyRead}
use Rattle.tau_commands.specs.Finding.{TellsFound, WasReadWhole}
use Rattle.tau_commands.specs.Outside.{Output, Wrote}
use Rattle.tau_commands.proofs.Found.{finds_at}
use Rattle.tau_commands.proofs.Restored.{found_ended, found_of, found_read, refused_is, refused_of, refused_read}
use Rattle.tau_commands.proofs.restoration.restore.Goals as goal

pub returns-in-Ok : goal.returns-in-Ok
returns-in-Ok g c =
    let long : length c.read_all.new.front ≡ MAX_STREAMS = omega (arith, c.read_all.auto.front, c.split_at_mut-front.ensures.front_len, c.requires.there) in
    let first : length c.split_at_mut-front.result.0.now ≡ MAX_STREAMS = omega (arith, c.split_at_mut-front.ensures.front_len, c.requires.there) in
    let all = finds_at c.args.disks.now c.split_at_mut-front.result.0.now c.split_at_mut-front.result.1.now c.split_at_mut-front.ensures.value first g.D.Disk (OnlyRead g.D.Disk.tells g.D.Disk.seen g.D.Disk.may_leave g.D.Disk.moment g.D.Disk.may_leave_since) (WasReadWhole g.D.Disk) c.args.streams c.read_all.new.front c.read_all.new.slots c.read_all.result c.read_all.ensures in
    let few : length c.read_all.new.slots ≡ 2 = omega (arith, c.read_all.auto.slots, c.split_at_mut-front.ensures.back_len, c.requires.there) in
    let o : Output = record { hears = g.K.Sink.tells; held = g.K.Sink.held c.args.sink.now; held' = g.K.Sink.held c.tell_found-status.new.sink; faults = g.K.Sink.faults c.args.sink.now; faults' = g.K.Sink.faults c.tell_found-status.new.sink } in
    let told : TellsFound c.in-Ok.found (Wrote o.hears o.held o.held') (Rose o.faults o.faults') c.tell_found-status.result =
    record {
      kind = c.tell_found-status.ensures.kind;
      no_disk = c.tell_found-status.ensures.no_disk;
      told = c.tell_found-status.ensures.told;
      refusal = c.tell_found-status.ensures.refusal;
      tangled = c.tell_found-status.ensures.tangled;
      sink = c.tell_found-status.ensures.write_fault;
    } in
    record {
      ended = found_ended g.D.Disk c.args.streams c.requires.high c.args.disks.now c.read_all.new.front c.read_all.new.slots c.requires.there long few c.read_all.result all o c.in-Ok.found c.tell_found-status.result c.in-Ok.is told;
      read = found_read g.D.Disk c.args.streams c.requires.high c.args.disks.now c.read_all.new.front c.read_all.new.slots c.requires.there long few c.read_all.result all o c.in-Ok.found c.tell_found-status.result c.in-Ok.is told;
      of = found_of g.D.Disk c.args.streams c.requires.high c.args.disks.now c.read_all.new.front c.read_all.new.slots c.requires.there long few c.read_all.result all o c.in-Ok.found c.tell_found-status.result c.in-Ok.is told;
    }

pub returns-in-Err : goal.returns-in-Err
returns-in-Err g c =
    let long : length c.read_all.new.front ≡ MAX_STREAMS = omega (arith, c.read_all.auto.front, c.split_at_mut-front.ensures.front_len, c.requires.there) in
    let first : length c.split_at_mut-front.result.0.now ≡ MAX_STREAMS = omega (arith, c.split_at_mut-front.ensures.front_len, c.requires.there) in
    let all = finds_at c.args.disks.now c.split_at_mut-front.result.0.now c.split_at_mut-front.result.1.now c.split_at_mut-front.ensures.value first g.D.Disk (OnlyRead g.D.Disk.tells g.D.Disk.seen g.D.Disk.may_leave g.D.Disk.moment g.D.Disk.may_leave_since) (WasReadWhole g.D.Disk) c.args.streams c.read_all.new.front c.read_all.new.slots c.read_all.result c.read_all.ensures in
    let few : length c.read_all.new.slots ≡ 2 = omega (arith, c.read_all.auto.slots, c.split_at_mut-front.ensures.back_len, c.requires.there) in
    let o : Output = record { hears = g.K.Sink.tells; held = g.K.Sink.held c.args.sink.now; held' = g.K.Sink.held c.refuse.new.sink; faults = g.K.Sink.faults c.args.sink.now; faults' = g.K.Sink.faults c.refuse.new.sink } in
    record {
      ended = refused_is g.D.Disk c.args.streams c.requires.high c.args.disks.now c.read_all.new.front c.read_all.new.slots c.requires.there long few c.read_all.result all o c.in-Err.refusal c.refuse.result c.in-Err.is c.refuse.ensures;
      read = refused_read g.D.Disk c.args.streams c.requires.high c.args.disks.now c.read_all.new.front c.read_all.new.slots c.requires.there long few c.read_all.result all o c.in-Err.refusal c.refuse.result c.in-Err.is c.refuse.ensures;
      of = refused_of g.D.Disk c.args.streams c.requires.high c.args.disks.now c.read_all.new.front c.read_all.new.slots c.requires.there long few c.read_all.result all o c.in-Err.refusal c.refuse.result c.in-Err.is c.refuse.ensures;
    }
