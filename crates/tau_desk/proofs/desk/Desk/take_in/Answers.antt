use Rattle.std.proofs.Common.{rules}
use Rattle.tau_rule.proofs.Heads.{joins}
use Rattle.tau_desk.proofs.desk.Desk.take_in.Goals as goal

pub join_seat-requires : goal.join_seat-requires
join_seat-requires c =
    let origin = c.args.self.now.table.shared.key.value in
    let r = c.requires in
    let seat = c.args.seat.now in
    let other = c.args.other in
    (r.own.0, r.own.1, r.idle.2, search rules, joins origin seat.id other.id seat.me.0 other.me.0 r.idle.0 r.idle.1 r.opened r.wide.0 r.wide.1 r.unread)
