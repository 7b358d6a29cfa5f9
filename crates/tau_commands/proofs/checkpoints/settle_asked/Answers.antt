use Rattle.std.proofs.Common.{ℕ, ◌≡◌, sym, ap, subst, ◌∙◌, arith}
use Rattle.std.specs.Prelude.{Err, Result}
use Rattle.tau_commands.specs.declared.slots.Found.{Found}
use Rattle.tau_commands.specs.declared.status.Status.{Status}
use Rattle.tau_commands.specs.Finding.{SettlesAsked}
use Rattle.tau_commands.proofs.Settled.{slot_unsettled}
use Rattle.tau_commands.proofs.checkpoints.settle_asked.Goals as goal
use Rattle.tau_commands.proofs.checkpoints.settle_asked.Goals.{in-Err, in-Ok-settle_slots}

pub returns-after-settle_slots : goal.returns-after-settle_slots
returns-after-settle_slots g c =
    let bad = rw c.in-Err-Bad.field-0-is at c.in-Err-Bad.is in
    let read = rw c.in-Err-Bad.field-0-is at c.in-Err-Bad.ensures.read in
    let settled = c.settle_streams.ensures.settled_bad c.in-Err-Bad.fault bad in
    elim c.match-settle_slots.branch [
      | in-Err w ↦
          subst (λ (r : Result Found Status). SettlesAsked g.D.Disk c.args.streams c.args.front.now c.args.lengths.now c.settle_streams.new.disks c.args.slots.now c.args.sizes.now c.settle_slots.new.disks r) (sym (w.result-is ∙ ap (λ (s : Status). Err s) w.slot_status.ensures))
          (record {
            streams = c.settle_streams.ensures.synced;
            rest = c.settle_streams.ensures.rest;
            slots_at = c.settle_slots.ensures.synced;
            by = slot_unsettled g.D.Disk c.args.streams c.args.front.now c.args.lengths.now c.settle_streams.new.disks c.args.slots.now c.args.sizes.now c.settle_slots.new.disks settled w.in-Err.refusal
                (λ j e. c.settle_slots.ensures.failed j (w.in-Err.is ∙ ap (λ r. Err r) e));
          })
      | in-Ok-settle_slots w ↦
          subst (λ (r : Result Found Status). SettlesAsked g.D.Disk c.args.streams c.args.front.now c.args.lengths.now c.settle_streams.new.disks c.args.slots.now c.args.sizes.now c.settle_slots.new.disks r) (sym w.result-is)
          (record {
            streams = c.settle_streams.ensures.synced;
            rest = c.settle_streams.ensures.rest;
            slots_at = c.settle_slots.ensures.synced;
            by = ((settled, w.in-Ok-settle_slots.ensures.settled), read);
          })
    ]

pub returns-in-Err-settle_slots : goal.returns-in-Err-settle_slots
returns-in-Err-settle_slots g c =
    subst (λ (s : Status). SettlesAsked g.D.Disk c.args.streams c.args.front.now c.args.lengths.now c.settle_streams.new.disks c.args.slots.now c.args.sizes.now c.settle_slots-in-Ok.new.disks (Err s)) (sym c.slot_status-in-Err-settle_slots.ensures)
    (record {
      streams = c.settle_streams.ensures.synced;
      rest = c.settle_streams.ensures.rest;
      slots_at = c.settle_slots-in-Ok.ensures.synced;
      by = slot_unsettled g.D.Disk c.args.streams c.args.front.now c.args.lengths.now c.settle_streams.new.disks c.args.slots.now c.args.sizes.now c.settle_slots-in-Ok.new.disks c.in-Ok.ensures.settled c.in-Err-settle_slots.refusal
          (λ j e. c.settle_slots-in-Ok.ensures.failed j (c.in-Err-settle_slots.is ∙ ap (λ r. Err r) e));
    })

pub slot_status-requires : goal.slot_status-requires
slot_status-requires g c slot e =
    let stops = c.settle_slots.ensures.failed slot (c.in-Err.is ∙ ap (λ r. Err r) e) in
    omega (arith, stops.0, c.requires.sizes_many)

pub slot_status-requires-in-Err-settle_slots : goal.slot_status-requires-in-Err-settle_slots
slot_status-requires-in-Err-settle_slots g c slot e =
    let stops = c.settle_slots-in-Ok.ensures.failed slot (c.in-Err-settle_slots.is ∙ ap (λ r. Err r) e) in
    omega (arith, stops.0, c.requires.sizes_many)
