use Rattle.std.proofs.Common.{refl, sym, ◌∙◌, subst}
use Rattle.tau_machine.specs.Events.{FirstFree}
use Rattle.tau_rule.specs.Knows.{Knows}
use Rattle.tau_rule.specs.Steps.{ComesHome}
use Rattle.tau_rule.specs.declared.part.Part.TheVariants as part
use Rattle.tau_rule.proofs.Gives.{gives_shard}
use Rattle.tau_desk.specs.Works.{joined_worker}
use Rattle.tau_desk.proofs.Reading.{told_joined_is}
use Rattle.tau_desk.proofs.desk.Desk.give_first_told.Goals as goal

pub come_home-requires-clause-home : goal.come_home-requires-clause-home
come_home-requires-clause-home g c =
    let w = c.requires.event.0 in
    let d = c.requires.event.1 in
    let origin = c.args.self.now.table.shared.key.value in
    let v : Knows = c.args.seat.now.me.0 in
    subst (λ (x : Knows). ComesHome origin c.args.self.now.table.shared.key.style c.args.seat.now.id v c.args.number (part.Shard c.args.shard) x)
    (sym (c.requires.told ∙ told_joined_is origin.load v c.args.txn.now c.args.kept.now w d.role d.worker d.roles d.share))
    (gives_shard origin c.args.seat.now.id c.args.number v d.taken (part.Shard c.args.shard) w d.role d.worker (joined_worker origin.load d.worker c.args.txn.now c.args.kept.now) d.before _ (FirstFree w) c.requires.opened d.held d.roles d.share d.was refl d.there (d.steps _) tt)
