use Rattle.std.proofs.Common.{ℕ, ◌≡◌, List, length, sym, ap, subst, ◌∙◌, arith}
use Rattle.tau_disk.specs.Stages.{AreLengths}
use Rattle.std.specs.Prelude.{Err}
use Rattle.tau_begin.specs.Reading.{AreAskedFor}
use Rattle.tau_begin.proofs.Reading.{lengths_still}
use Rattle.tau_commands.specs.declared.status.Status.{Status}
use Rattle.tau_commands.specs.Finding.{SettlesAll}
use Rattle.tau_commands.proofs.Settled.{none_found, settles_all, slot_unasked, stream_unasked}
use Rattle.tau_commands.proofs.checkpoints.settle_all.Goals as goal

pub returns-in_default : goal.returns-in_default
returns-in_default g c = none_found g.D.Disk c.args.streams c.args.front.now c.args.slots.now

pub returns-in_default-with_capacity : goal.returns-in_default-with_capacity
returns-in_default-with_capacity g c = none_found g.D.Disk c.args.streams c.args.front.now c.args.slots.now

pub returns-in-Err : goal.returns-in-Err
returns-in-Err g c =
    let two : length c.args.slots.now ≡ 2 = omega (arith, c.requires.slots) in
    subst (λ (s : Status). SettlesAll g.D.Disk c.args.streams c.args.front.now c.ask_each.new.disks c.args.slots.now c.args.slots.now (Err s)) (sym c.asked_status.ensures)
    (stream_unasked g.D.Disk c.args.streams c.args.front.now c.args.slots.now c.requires.there two c.ask_each.new.disks c.ask_each.result c.in-Err.refusal c.in-Err.is c.ask_each.ensures.failed c.ask_each.ensures.memory c.ask_each.ensures.long)

pub returns-in-Err-ask_each : goal.returns-in-Err-ask_each
returns-in-Err-ask_each g c =
    let two : length c.args.slots.now ≡ 2 = omega (arith, c.requires.slots) in
    let count : length c.ask_each.new.lengths.items ≡ c.args.streams = omega (arith, c.in-Ok-ask_each.ensures.count, c.ask_each.new.lengths.ok.0) in
    let are : AreAskedFor g.D.Disk c.ask_each.new.lengths.items c.args.streams c.args.front.now c.ask_each.new.disks = record { asked = c.in-Ok-ask_each.ensures.asked; lengths = c.in-Ok-ask_each.ensures.lengths; count = count } in
    subst (λ (s : Status). SettlesAll g.D.Disk c.args.streams c.args.front.now c.ask_each.new.disks c.args.slots.now c.ask_each-in-Ok-ask_each.new.disks (Err s)) (sym c.asked_slot_status.ensures)
    (slot_unasked g.D.Disk c.args.streams c.args.front.now c.args.slots.now c.requires.there two c.ask_each.new.lengths.items c.ask_each.new.disks are c.ask_each-in-Ok-ask_each.new.disks c.ask_each-in-Ok-ask_each.result c.in-Err-ask_each.refusal c.in-Err-ask_each.is
    c.ask_each-in-Ok-ask_each.ensures.failed c.ask_each-in-Ok-ask_each.ensures.memory c.ask_each-in-Ok-ask_each.ensures.long)

pub settle_asked-requires-clause-lengths : goal.settle_asked-requires-clause-lengths
settle_asked-requires-clause-lengths g c =
    let count : length c.ask_each.new.lengths.items ≡ c.args.streams = omega (arith, c.in-Ok-ask_each.ensures.count, c.ask_each.new.lengths.ok.0) in
    let are : AreAskedFor g.D.Disk c.ask_each.new.lengths.items c.args.streams c.args.front.now c.ask_each.new.disks = record { asked = c.in-Ok-ask_each.ensures.asked; lengths = c.in-Ok-ask_each.ensures.lengths; count = count } in
    subst (λ (xs : List ℕ). AreLengths g.D.Disk.tells g.D.Disk.seen c.ask_each.new.disks xs) (sym c.deref.ensures.value)
    (lengths_still g.D.Disk c.ask_each.new.lengths.items c.args.streams c.args.front.now c.ask_each.new.disks are c.requires.there)

pub settle_asked-requires-clause-sizes : goal.settle_asked-requires-clause-sizes
settle_asked-requires-clause-sizes g c =
    let count : length c.ask_each-in-Ok-ask_each.new.lengths.items ≡ 2 = omega (arith, c.in-Ok-ask_each-2.ensures.count, c.ask_each-in-Ok-ask_each.new.lengths.ok.0) in
    let are : AreAskedFor g.D.Disk c.ask_each-in-Ok-ask_each.new.lengths.items 2 c.args.slots.now c.ask_each-in-Ok-ask_each.new.disks = record { asked = c.in-Ok-ask_each-2.ensures.asked; lengths = c.in-Ok-ask_each-2.ensures.lengths; count = count } in
    subst (λ (xs : List ℕ). AreLengths g.D.Disk.tells g.D.Disk.seen c.ask_each-in-Ok-ask_each.new.disks xs) (sym c.deref-in-Ok-ask_each-2.ensures.value)
    (lengths_still g.D.Disk c.ask_each-in-Ok-ask_each.new.lengths.items 2 c.args.slots.now c.ask_each-in-Ok-ask_each.new.disks are (omega (arith, c.requires.slots)))

pub returns : goal.returns
returns g c =
    let two : length c.args.slots.now ≡ 2 = omega (arith, c.requires.slots) in
    let count : length c.ask_each.new.lengths.items ≡ c.args.streams = omega (arith, c.in-Ok-ask_each.ensures.count, c.ask_each.new.lengths.ok.0) in
    let are : AreAskedFor g.D.Disk c.ask_each.new.lengths.items c.args.streams c.args.front.now c.ask_each.new.disks = record { asked = c.in-Ok-ask_each.ensures.asked; lengths = c.in-Ok-ask_each.ensures.lengths; count = count } in
    let count2 : length c.ask_each-in-Ok-ask_each.new.lengths.items ≡ 2 = omega (arith, c.in-Ok-ask_each-2.ensures.count, c.ask_each-in-Ok-ask_each.new.lengths.ok.0) in
    let are2 : AreAskedFor g.D.Disk c.ask_each-in-Ok-ask_each.new.lengths.items 2 c.args.slots.now c.ask_each-in-Ok-ask_each.new.disks = record { asked = c.in-Ok-ask_each-2.ensures.asked; lengths = c.in-Ok-ask_each-2.ensures.lengths; count = count2 } in
    settles_all g.D.Disk c.args.streams c.args.front.now c.args.slots.now c.requires.there two c.deref.result.now c.ask_each.new.disks
    (subst (λ (xs : List ℕ). AreAskedFor g.D.Disk xs c.args.streams c.args.front.now c.ask_each.new.disks) (sym c.deref.ensures.value) are)
    c.deref-in-Ok-ask_each-2.result.now c.ask_each-in-Ok-ask_each.new.disks
    (subst (λ (xs : List ℕ). AreAskedFor g.D.Disk xs 2 c.args.slots.now c.ask_each-in-Ok-ask_each.new.disks) (sym c.deref-in-Ok-ask_each-2.ensures.value) are2)
    c.settle_asked.new.front c.settle_asked.new.slots c.settle_asked.result c.settle_asked.ensures

pub asked_slot_status-requires : goal.asked_slot_status-requires
asked_slot_status-requires g c slot e =
    let fails = c.ask_each-in-Ok-ask_each.ensures.failed slot (c.in-Err-ask_each.is ∙ ap (λ r. Err r) e) in
    omega (arith, fails.0)
