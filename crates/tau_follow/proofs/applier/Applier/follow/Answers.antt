-- How far the streams are followed is known, and what waits; it is known then too.
use Rattle.std.proofs.Common.{ap, ◌∙◌, ◌++◌, inl, inr, refl}
use Rattle.std.specs.Global.{Vec}
use Rattle.tau_follow.specs.declared.spot.Spot.{Spot}
use Rattle.tau_follow.proofs.Holding.{as_applied, as_followed}
use Rattle.tau_follow.proofs.Longer.{begins_itself}
use Rattle.tau_follow.proofs.applier.Applier.follow.Goals as goal

pub returns-in_default-clause-applied : goal.returns-in_default-clause-applied
returns-in_default-clause-applied c = λ s d told. as_applied c.args.streams.now s c.reach.new.self _ refl refl refl refl (c.in_default.ensures.err s d)

pub returns-in_default-clause-told : goal.returns-in_default-clause-told
returns-in_default-clause-told c = λ s d told. inl refl

pub returns-in_default-clause-order : goal.returns-in_default-clause-order
returns-in_default-clause-order c = begins_itself _ _ (ap (λ (v : Vec Spot). v.items) c.reach.ensures.order)

pub returns-in-Ok-follow_known-clause-ok : goal.returns-in-Ok-follow_known-clause-ok
returns-in-Ok-follow_known-clause-ok c = λ s d told. (let w = c.in-Ok.ensures.known s d told in as_followed c.args.streams.now s c.follow_known.new.self _ refl refl refl refl (c.in-Ok-follow_known.ensures.ok s w.0 w.1))

pub returns-in-Ok-follow_known-clause-applied : goal.returns-in-Ok-follow_known-clause-applied
returns-in-Ok-follow_known-clause-applied c = λ s d told. (let w = c.in-Ok.ensures.known s d told in as_applied c.args.streams.now s c.follow_known.new.self _ refl refl refl refl (c.in-Ok-follow_known.ensures.applied s w.0 w.1))

pub returns-in-Ok-follow_known-clause-told : goal.returns-in-Ok-follow_known-clause-told
returns-in-Ok-follow_known-clause-told c = λ s d told. (let w = c.in-Ok.ensures.known s d told in let k = c.in-Ok-follow_known.ensures.known s w.0 w.1 in inr (inr (record { reached_is = k.0; above = k.1 })))

pub returns-in-Ok-follow_known-clause-order : goal.returns-in-Ok-follow_known-clause-order
returns-in-Ok-follow_known-clause-order c = (let w = c.in-Ok-follow_known.ensures.order in (w.0, w.1 ∙ ap (λ (v : Vec Spot). v.items ++ w.0) c.reach.ensures.order))

pub returns-in-Err-clause-applied : goal.returns-in-Err-clause-applied
returns-in-Err-clause-applied c = λ s d told. (let w = c.in-Ok.ensures.known s d told in as_applied c.args.streams.now s c.follow_known.new.self _ refl refl refl refl (c.in-Err.ensures.applied s w.0 w.1))

pub returns-in-Err-clause-told : goal.returns-in-Err-clause-told
returns-in-Err-clause-told c = λ s d told. inl refl

pub returns-in-Err-clause-order : goal.returns-in-Err-clause-order
returns-in-Err-clause-order c = (let w = c.in-Err.ensures.order in (w.0, w.1 ∙ ap (λ (v : Vec Spot). v.items ++ w.0) c.reach.ensures.order))
