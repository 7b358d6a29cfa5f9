use Rattle.std.proofs.Common.{◌≡◌, length, arith}
use Rattle.tau_base.specs.declared.limits.TheConstants.{MAX_STREAMS}
use Rattle.tau_disk.specs.Stages.{OnlySynced}
use Rattle.tau_commands.specs.Finding.{WasSettled}
use Rattle.tau_commands.specs.Outside.{Output}
use Rattle.tau_commands.proofs.Found.{finds_at}
use Rattle.tau_commands.proofs.CheckpointEnds.{made_ended, made_of, quiet, unread_ended, unread_of}
use Rattle.tau_commands.proofs.checkpoints.checkpoint.Goals as goal

pub make_and_put-requires-clause-quiet : goal.make_and_put-requires-clause-quiet
make_and_put-requires-clause-quiet g c =
    let long : length c.settle_all.new.front ≡ MAX_STREAMS = omega (arith, c.settle_all.auto.front, c.split_at_mut-front.ensures.front_len, c.requires.there) in
    let first : length c.split_at_mut-front.result.0.now ≡ MAX_STREAMS = omega (arith, c.split_at_mut-front.ensures.front_len, c.requires.there) in
    let all = finds_at c.args.disks.now c.split_at_mut-front.result.0.now c.split_at_mut-front.result.1.now c.split_at_mut-front.ensures.value first g.D.Disk (OnlySynced g.D.Disk) (WasSettled g.D.Disk) c.args.streams c.settle_all.new.front c.settle_all.new.slots c.settle_all.result c.settle_all.ensures in
    let few : length c.settle_all.new.slots ≡ 2 = omega (arith, c.settle_all.auto.slots, c.split_at_mut-front.ensures.back_len, c.requires.there) in
    let o : Output = record { hears = g.K.Sink.tells; held = g.K.Sink.held c.args.sink.now; held' = g.K.Sink.held c.args.sink.now; faults = g.K.Sink.faults c.args.sink.now; faults' = g.K.Sink.faults c.args.sink.now } in
    λ κs lives. quiet g.D.Disk c.args.streams c.requires.high c.args.disks.now c.settle_all.new.front c.settle_all.new.slots c.requires.there long few c.settle_all.result all o c.in-Ok.found c.in-Ok.is

pub returns-in-Ok : goal.returns-in-Ok
returns-in-Ok g c =
    let long : length c.settle_all.new.front ≡ MAX_STREAMS = omega (arith, c.settle_all.auto.front, c.split_at_mut-front.ensures.front_len, c.requires.there) in
    let first : length c.split_at_mut-front.result.0.now ≡ MAX_STREAMS = omega (arith, c.split_at_mut-front.ensures.front_len, c.requires.there) in
    let all = finds_at c.args.disks.now c.split_at_mut-front.result.0.now c.split_at_mut-front.result.1.now c.split_at_mut-front.ensures.value first g.D.Disk (OnlySynced g.D.Disk) (WasSettled g.D.Disk) c.args.streams c.settle_all.new.front c.settle_all.new.slots c.settle_all.result c.settle_all.ensures in
    let few : length c.settle_all.new.slots ≡ 2 = omega (arith, c.settle_all.auto.slots, c.split_at_mut-front.ensures.back_len, c.requires.there) in
    let two : length c.make_and_put.new.slots ≡ 2 = omega (arith, c.make_and_put.auto.slots, few) in
    let o : Output = record { hears = g.K.Sink.tells; held = g.K.Sink.held c.args.sink.now; held' = g.K.Sink.held c.make_and_put.new.sink; faults = g.K.Sink.faults c.args.sink.now; faults' = g.K.Sink.faults c.make_and_put.new.sink } in
    record {
      ended = made_ended g.D.Disk c.args.streams c.requires.high c.args.disks.now c.settle_all.new.front c.settle_all.new.slots c.requires.there long few c.settle_all.result all o c.in-Ok.found c.in-Ok.is g.met.D.Disk.only_now c.make_and_put.new.slots two c.make_and_put.result c.make_and_put.ensures;
      of = made_of g.D.Disk c.args.streams c.requires.high c.args.disks.now c.settle_all.new.front c.settle_all.new.slots c.requires.there long few c.settle_all.result all o c.in-Ok.found c.in-Ok.is g.met.D.Disk.only_now c.make_and_put.new.slots two c.make_and_put.result c.make_and_put.ensures;
    }

pub returns-in-Err : goal.returns-in-Err
returns-in-Err g c =
    let long : length c.settle_all.new.front ≡ MAX_STREAMS = omega (arith, c.settle_all.auto.front, c.split_at_mut-front.ensures.front_len, c.requires.there) in
    let first : length c.split_at_mut-front.result.0.now ≡ MAX_STREAMS = omega (arith, c.split_at_mut-front.ensures.front_len, c.requires.there) in
    let all = finds_at c.args.disks.now c.split_at_mut-front.result.0.now c.split_at_mut-front.result.1.now c.split_at_mut-front.ensures.value first g.D.Disk (OnlySynced g.D.Disk) (WasSettled g.D.Disk) c.args.streams c.settle_all.new.front c.settle_all.new.slots c.settle_all.result c.settle_all.ensures in
    let few : length c.settle_all.new.slots ≡ 2 = omega (arith, c.settle_all.auto.slots, c.split_at_mut-front.ensures.back_len, c.requires.there) in
    let o : Output = record { hears = g.K.Sink.tells; held = g.K.Sink.held c.args.sink.now; held' = g.K.Sink.held c.refuse.new.sink; faults = g.K.Sink.faults c.args.sink.now; faults' = g.K.Sink.faults c.refuse.new.sink } in
    record {
      ended = unread_ended g.D.Disk c.args.streams c.requires.high c.args.disks.now c.settle_all.new.front c.settle_all.new.slots c.requires.there long few c.settle_all.result all o c.in-Err.refusal c.refuse.result c.in-Err.is c.refuse.ensures;
      of = unread_of g.D.Disk c.args.streams c.requires.high c.args.disks.now c.settle_all.new.front c.settle_all.new.slots c.requires.there long few c.settle_all.result all o c.in-Err.refusal c.refuse.result c.in-Err.is c.refuse.ensures;
    }
