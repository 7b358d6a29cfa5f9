use Rattle.std.proofs.Common.{◌+◌, ap, ◌∙◌, arith}
use Rattle.tau_rule.specs.Steps.{Sat}
use Rattle.tau_desk.specs.Ends.{calls_each}
use Rattle.tau_desk.specs.Seats.{PlainHead}
use Rattle.tau_crew.proofs.WorkBack.{others_ready, seat_rests}
use Rattle.tau_crew.proofs.work_all.part.Goals as goal

pub returns-in-Ok-clause-seat : goal.returns-in-Ok-clause-seat
returns-in-Ok-clause-seat c =
    let q = c.in-Ok.ensures.split in (
      q.table ∙ c.requires.own,
      ap (λ (m : Sat). m.0.opened) q.split.new_is ∙ c.requires.opened,
      seat_rests c.args.first (c.args.first + (c.args.others + 1)) (calls_each c.args.desk.now.table.shared.key.value.load) c.args.head.now c.split_worker.new.head c.in-Ok.seat q c.requires.ready (omega arith),
    )

pub returns-in-Ok-clause-own : goal.returns-in-Ok-clause-own
returns-in-Ok-clause-own c = ap (λ (x : PlainHead). x.table_id) c.in-Ok.ensures.split.left ∙ c.requires.own

pub returns-in-Ok-clause-opened : goal.returns-in-Ok-clause-opened
returns-in-Ok-clause-opened c = ap (λ (m : Sat). m.0.opened) c.in-Ok.ensures.split.split.head_is ∙ c.requires.opened

pub returns-in-Ok-clause-ready : goal.returns-in-Ok-clause-ready
returns-in-Ok-clause-ready c = others_ready c.args.first (c.args.first + (c.args.others + 1)) (calls_each c.args.desk.now.table.shared.key.value.load) c.args.head.now c.split_worker.new.head c.in-Ok.seat c.in-Ok.ensures.split c.requires.ready
