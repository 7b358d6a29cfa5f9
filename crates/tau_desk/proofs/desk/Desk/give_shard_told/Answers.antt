use Rattle.std.proofs.Common.{refl, sym, ◌∙◌, subst}
use Rattle.tau_rule.specs.Knows.{Knows}
use Rattle.tau_rule.specs.Steps.{ComesHome, next_worker}
use Rattle.tau_rule.specs.declared.part.Part.TheVariants as part
use Rattle.tau_rule.proofs.Gives.{gives_shard, told_is}
use Rattle.tau_desk.proofs.desk.Desk.give_shard_told.Goals as goal

pub come_home-requires-clause-home : goal.come_home-requires-clause-home
come_home-requires-clause-home g c =
    let e = c.requires.event in
    let d = e.2 in
    let origin = c.args.self.now.table.shared.key.value in
    let v : Knows = c.args.seat.now.me.0 in
    subst (λ (x : Knows). ComesHome origin c.args.self.now.table.shared.key.style c.args.seat.now.id v c.args.number (part.Shard c.args.shard) x)
    (sym (c.requires.told ∙ told_is origin v c.args.txn.now e.1 d.role d.worker d.roles d.share))
    (gives_shard origin c.args.seat.now.id c.args.number v d.taken (part.Shard c.args.shard) e.1 d.role d.worker (next_worker origin.load d.worker c.args.txn.now) d.before _ e.0 c.requires.opened d.held d.roles d.share d.was refl d.there d.steps d.none)
