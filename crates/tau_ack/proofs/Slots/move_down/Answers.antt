use Rattle.std.proofs.Common.{◌<◌, ◌≡◌, arith, take, get_or, set, ap, ◌∙◌}
use Rattle.std.proofs.lemmas.Grind.{common_steps}
use Rattle.std.proofs.lemmas.List.{get_or-take}
use Rattle.std.proofs.Math.Seq.{take-set-lt}
use Rattle.tau_ack.specs.declared.Waiting.{Waiting}
use Rattle.tau_ack.proofs.Slots.move_down.Goals as goal

pub returns-clause-calls : goal.returns-clause-calls
returns-clause-calls c = λ d.
    let below : c.args.from < c.self.inside.count = grind (arith, common_steps) in
    let moved : c.index.result.now ≡ get_or (take c.self.inside.count c.self.inside.slots.items) c.args.from d =
    rw (get_or-take c.self.inside.count c.self.inside.slots.items c.args.from d below) (grind (arith, common_steps)) in
    rw (← c.self.view_is) (take-set-lt c.self.inside.count c.self.inside.slots.items c.args.to c.index.result.now (omega (arith, below)) ∙ ap (λ (w : Waiting). set (take c.self.inside.count c.self.inside.slots.items) c.args.to w) moved)
