use Rattle.std.proofs.Common.{ℕ, ◌<◌, ◌≡◌, List, ◌++◌, length, take, get_or, ap, subst, ◌∙◌, arith}
use Rattle.std.proofs.lemmas.Option.{slice_get-get_or}
use Rattle.tau_disk.specs.Disk.{Rose}
use Rattle.tau_commands.specs.Finding.{FailsToPut, HasPut, Writes}
use Rattle.tau_commands.specs.Outside.{Wrote}
use Rattle.tau_commands.proofs.Putting.{put_cut, put_done, put_failed}
use Rattle.tau_commands.proofs.checkpoints.put.Goals as goal

pub returns-in-Err-Failed : goal.returns-in-Err-Failed
returns-in-Err-Failed g c =
    let low : c.args.ready.now.slot < length c.args.slots.now = omega (arith, c.requires.ready.slot, c.requires.there) in
    let d = get_or c.args.slots.now c.args.ready.now.slot c.index-slots-slot.result in
    let e = rw c.in-Err-Failed.field-0-is at c.in-Err-Failed.is in
    let writes : Writes g.D.Disk c.args.ready.now.slot c.args.ready.now.value d c.write_checkpoint.new.disk = record { moments = c.write_checkpoint.ensures.moments; counts = c.write_checkpoint.ensures.faults } in
    let fails : FailsToPut g.D.Disk d c.write_checkpoint.new.disk = record { rose = c.write_checkpoint.ensures.failed e; calls = c.write_checkpoint.ensures.made_err e } in
    put_failed g.D.Disk c.args.ready.now c.args.slots.now d c.write_checkpoint.new.disk low (slice_get-get_or c.args.slots.now c.args.ready.now.slot c.index-slots-slot.result low) writes
    (Wrote g.K.Sink.tells (g.K.Sink.held c.args.sink.now) (g.K.Sink.held c.refuse.new.sink)) (Rose (g.K.Sink.faults c.args.sink.now) (g.K.Sink.faults c.refuse.new.sink)) fails c.refuse.result c.refuse.ensures

pub returns-in-Ok-write_all : goal.returns-in-Ok-write_all
returns-in-Ok-write_all g c =
    let low : c.args.ready.now.slot < length c.args.slots.now = omega (arith, c.requires.ready.slot, c.requires.there) in
    let d = get_or c.args.slots.now c.args.ready.now.slot c.index-slots-slot.result in
    let writes : Writes g.D.Disk c.args.ready.now.slot c.args.ready.now.value d c.write_checkpoint.new.disk = record { moments = c.write_checkpoint.ensures.moments; counts = c.write_checkpoint.ensures.faults } in
    let put : HasPut g.D.Disk c.args.ready.now.slot c.args.ready.now.value d c.write_checkpoint.new.disk = record { holds = c.in-Ok.ensures.done; durable = c.in-Ok.ensures.durable; calls = c.in-Ok.ensures.made } in
    put_done g.D.Disk c.args.ready.now c.args.slots.now d c.write_checkpoint.new.disk low (slice_get-get_or c.args.slots.now c.args.ready.now.slot c.index-slots-slot.result low) writes
    (Wrote g.K.Sink.tells (g.K.Sink.held c.args.sink.now) (g.K.Sink.held c.write_all.new.sink)) (Rose (g.K.Sink.faults c.args.sink.now) (g.K.Sink.faults c.write_all.new.sink)) c.requires.ready put
    (λ t. c.in-Ok-write_all.ensures.ok t ∙ ap (λ (l : List ℕ). g.K.Sink.held c.args.sink.now ++ l) c.deref.ensures.value)

pub returns-in-Err : goal.returns-in-Err
returns-in-Err g c =
    let low : c.args.ready.now.slot < length c.args.slots.now = omega (arith, c.requires.ready.slot, c.requires.there) in
    let d = get_or c.args.slots.now c.args.ready.now.slot c.index-slots-slot.result in
    let writes : Writes g.D.Disk c.args.ready.now.slot c.args.ready.now.value d c.write_checkpoint.new.disk = record { moments = c.write_checkpoint.ensures.moments; counts = c.write_checkpoint.ensures.faults } in
    let put : HasPut g.D.Disk c.args.ready.now.slot c.args.ready.now.value d c.write_checkpoint.new.disk = record { holds = c.in-Ok.ensures.done; durable = c.in-Ok.ensures.durable; calls = c.in-Ok.ensures.made } in
    put_cut g.D.Disk c.args.ready.now c.args.slots.now d c.write_checkpoint.new.disk low (slice_get-get_or c.args.slots.now c.args.ready.now.slot c.index-slots-slot.result low) writes
    (Wrote g.K.Sink.tells (g.K.Sink.held c.args.sink.now) (g.K.Sink.held c.write_all.new.sink)) (Rose (g.K.Sink.faults c.args.sink.now) (g.K.Sink.faults c.write_all.new.sink)) c.requires.ready put
    (subst (λ (l : List ℕ). (k : ℕ) × (k < length l) × Wrote g.K.Sink.tells (g.K.Sink.held c.args.sink.now) (g.K.Sink.held c.write_all.new.sink) (take k l)) c.deref.ensures.value c.in-Err.ensures.err) c.in-Err.ensures.cause.failed
