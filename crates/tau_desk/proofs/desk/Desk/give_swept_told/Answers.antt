use Rattle.std.proofs.Common.{refl, subst, sym}
use Rattle.tau_rule.specs.Knows.{Knows}
use Rattle.tau_rule.specs.Steps.{ComesHome}
use Rattle.tau_rule.specs.declared.part.Part.TheVariants as part
use Rattle.tau_desk.proofs.Sweeping.{gives_swept}
use Rattle.tau_desk.proofs.desk.Desk.give_swept_told.Goals as goal

pub come_home-requires-clause-home : goal.come_home-requires-clause-home
come_home-requires-clause-home g c =
    subst (λ (x : Knows). ComesHome c.args.self.now.table.shared.key.value c.args.self.now.table.shared.key.style c.args.seat.now.id c.args.seat.now.me.0 c.args.number (part.Shard c.args.shard) x) (sym c.requires.told)
    (gives_swept c.args.self.now.table.shared.key.value c.args.seat.now.id c.args.number c.args.seat.now.me (part.Shard c.args.shard) c.args.shard.value refl c.requires.event)
