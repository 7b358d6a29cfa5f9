-- The record is applied, and its stream passed.
use Rattle.std.proofs.Common.{refl}
use Rattle.tau_follow.proofs.Holding.{not_applied, found_then, above_then, applied_then}
use Rattle.tau_follow.proofs.Longer.{begins_itself}
use Rattle.std.proofs.Common.{ap, ◌∙◌, ◌∷◌, []}
use Rattle.std.specs.Global.{Vec}
use Rattle.tau_follow.specs.declared.spot.Spot.{Spot}
use Rattle.tau_follow.proofs.applier.Applier.apply_on.Goals as goal

pub returns-in-Err-clause-applied : goal.returns-in-Err-clause-applied
returns-in-Err-clause-applied c = λ s x. not_applied c.args.streams.now s c.args.self.now _ c.args.reached.now.items c.args.spot x c.in-Err.ensures.err_stages c.in-Err.ensures.err_order c.in-Err.ensures.firsts c.lose.ensures

pub returns-in-Ok-pass-clause-applied : goal.returns-in-Ok-pass-clause-applied
returns-in-Ok-pass-clause-applied c = λ s x. c.in-Ok-pass.ensures.applied s (applied_then c.args.streams.now s c.args.self.now c.apply.new.self c.args.reached.now.items c.args.spot x c.in-Ok.ensures.stages c.in-Ok.ensures.order c.in-Ok.ensures.firsts c.in-Ok.ensures.waits)

pub returns-in-Err-pass-clause-applied : goal.returns-in-Err-pass-clause-applied
returns-in-Err-pass-clause-applied c = λ s x. c.in-Err-pass.ensures.applied s (applied_then c.args.streams.now s c.args.self.now c.apply.new.self c.args.reached.now.items c.args.spot x c.in-Ok.ensures.stages c.in-Ok.ensures.order c.in-Ok.ensures.firsts c.in-Ok.ensures.waits)

pub returns-in-Ok-pass-clause-known : goal.returns-in-Ok-pass-clause-known
returns-in-Ok-pass-clause-known c = λ s x.
    (let a = c.args.self.now in
    let b = c.apply.new.self in
    let reached = c.args.reached.now.items in
    let streams = c.args.streams.now in
    c.in-Ok-pass.ensures.known s a.stages.items _ (applied_then streams s a b reached c.args.spot x c.in-Ok.ensures.stages c.in-Ok.ensures.order c.in-Ok.ensures.firsts c.in-Ok.ensures.waits) c.in-Ok.ensures.stages x.reached_is
    (found_then streams s a b reached c.args.spot x c.in-Ok.ensures.stages c.in-Ok.ensures.order c.in-Ok.ensures.firsts c.in-Ok.ensures.waits)
    (above_then streams s a b reached c.args.spot x c.in-Ok.ensures.stages c.in-Ok.ensures.order c.in-Ok.ensures.firsts c.in-Ok.ensures.waits))

pub returns-in-Ok-pass-clause-order : goal.returns-in-Ok-pass-clause-order
returns-in-Ok-pass-clause-order c = (c.args.spot ∷ [], ap (λ (v : Vec Spot). v.items) c.in-Ok-pass.ensures.order ∙ c.in-Ok.ensures.order)

pub returns-in-Err-pass-clause-order : goal.returns-in-Err-pass-clause-order
returns-in-Err-pass-clause-order c = (c.args.spot ∷ [], ap (λ (v : Vec Spot). v.items) c.in-Err-pass.ensures.order ∙ c.in-Ok.ensures.order)

pub returns-in-Err-clause-order : goal.returns-in-Err-clause-order
returns-in-Err-clause-order c = begins_itself _ _ c.in-Err.ensures.err_order
