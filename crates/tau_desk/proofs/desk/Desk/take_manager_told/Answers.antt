use Rattle.std.proofs.Common.{rules, subst, sym}
use Rattle.atomic_table.specs.Table.{Joins}
use Rattle.tau_rule.proofs.Heads.{joins_at}
use Rattle.tau_rule.specs.Knows.{Knows, spent}
use Rattle.tau_rule.specs.Rule.{Rule}
use Rattle.tau_desk.proofs.desk.Desk.take_manager_told.Goals as goal

pub join_seat-requires : goal.join_seat-requires
join_seat-requires g c =
    let origin = c.args.self.now.table.shared.key.value in
    let r = c.requires in
    let seat = c.args.seat.now in
    let other = c.args.other in
    (r.own.0, r.own.1, r.idle.2, search rules, subst (λ (k : Knows). Joins (Rule origin c.args.self.now.table.shared.key.style) seat.id seat.me.0 other.id other.me.0 k spent) (sym r.told) (joins_at origin seat.id other.id seat.me.0 other.me.0 c.args.stream r.manager.1 r.idle.0 r.idle.1 r.opened r.wide.0 r.wide.1 r.unread r.manager.0 r.manager.2))
