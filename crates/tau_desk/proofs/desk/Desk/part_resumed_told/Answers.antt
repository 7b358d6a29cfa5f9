use Rattle.std.proofs.Common.{rules, sym, subst, ◌∙◌}
use Rattle.atomic_table.specs.Table.{Splits}
use Rattle.tau_rule.specs.Knows.{Knows}
use Rattle.tau_rule.specs.Rule.{Rule}
use Rattle.tau_rule.proofs.Resuming.{splits_resuming}
use Rattle.tau_desk.proofs.desk.Desk.part_resumed_told.Goals as goal

pub split_seat-requires : goal.split_seat-requires
split_seat-requires g c =
    let origin = c.args.self.now.table.shared.key.value in
    let seat = c.args.seat.now in
    let r = c.requires in
    let a = r.can in (
      r.own,
      search rules,
      subst (λ (z : Knows × Knows). Splits (Rule origin c.args.self.now.table.shared.key.style) seat.id seat.me.0 z.0 z.1) (λ i. (sym r.told.0 i, sym (r.told.1 ∙ a.told) i)) (splits_resuming origin seat.me.0 c.args.worker a.call a.front a.back a.can seat.id r.idle),
    )
