use Rattle.std.proofs.Common.{◌++◌, ◌≡◌, ◌∙◌, List, length, sym, ap, subst, arith}
use Rattle.std.specs.Prelude.{None, Ok}
use Rattle.tau_disk.specs.declared.call.Tear.TheVariants.{New}
use Rattle.tau_disk.specs.declared.memory.MemDisk.{MemDisk}
use Rattle.tau_disk.specs.Streams.{held_by}
use Rattle.tau_words.specs.declared.command.Ending.TheVariants.{Fail}
use Rattle.tau_scan.specs.declared.log.Log.{Log}
use Rattle.tau_scan.specs.Reading.{log_of}
use Rattle.tau_scan.specs.Taken.{Kept}
use Rattle.tau_replay.specs.Redone.{IsOrderOf}
use Rattle.tau_engine.specs.Drill.{IsFound, calls_of, images_by}
use Rattle.tau_commands.proofs.Oks.{on_ok}
use Rattle.tau_engine.proofs.Drilled.{drilled, image_left, ordered}
use Rattle.tau_engine.proofs.drill.drill_failure.Goals as goal

pub play-requires-clause-new : goal.play-requires-clause-new
play-requires-clause-new g c = λ j d got. ((c.in_ok-disks.ensures.new j d got).0, tt)

pub tell-requires-clause-ordered : goal.tell-requires-clause-ordered
tell-requires-clause-ordered g c κs within =
    let count : length c.in_ok-disks.disks.items ≡ c.args.streams = (let e = c.in_ok-disks.ensures.count in omega (arith, e)) in
    let same : length c.play.new.disks.items ≡ c.args.streams = (let e = c.in_ok-play.ensures.count in omega (arith, e)) in
    subst (λ (ds : List MemDisk). (log : Log) × (log_of None (images_by New ds) ≡ Ok log) × (order : List Kept) × IsOrderOf log order) (sym c.as_slice-2.ensures.value)
    (ordered tt image_left c.args.streams c.args.workers c.args.load.now c.in_ok-disks.disks.items c.play.new.disks.items count same (λ lines. held_by c.play.new.out ≡ held_by c.args.out.now ++ lines) c.in_ok-play.ensures.told.rehearsed New)

pub returns : goal.returns
returns g c =
    let count : length c.in_ok-disks.disks.items ≡ c.args.streams = (let e = c.in_ok-disks.ensures.count in omega (arith, e)) in
    let same : length c.play.new.disks.items ≡ c.args.streams = (let e = c.in_ok-play.ensures.count in omega (arith, e)) in
    on_ok c.tell.result
    (λ f. drilled tt image_left c.args.streams c.args.workers (Fail c.args.stream c.args.call) c.args.load.now c.in_ok-disks.disks.items c.play.new.disks.items count same (held_by c.args.out.now) (held_by c.play.new.out) (held_by c.tell.new.out)
    c.in_ok-play.ensures.told c.requires.empty c.in_ok-calls.calls (subst (λ (ds : List MemDisk). IsFound (images_by New ds) c.in_ok-calls.calls (λ text. held_by c.tell.new.out ≡ held_by c.play.new.out ++ text)) c.as_slice-2.ensures.value f)
    (c.in_ok-disks.ensures.new, c.in_ok-calls.ensures ∙ ap calls_of c.as_slice.ensures.value)
    c.in_ok-play.ensures.has_room)
    c.tell.ensures
