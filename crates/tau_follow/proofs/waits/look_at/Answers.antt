-- It is not open, or ready, or waits.
use Rattle.std.proofs.Common.{ap, sym, refl, ◌∙◌}
use Rattle.tau_base.specs.Vectors.{covers}
use Rattle.tau_follow.specs.Applying.{dep_of}
use Rattle.tau_follow.proofs.Queued.{queued, not_open, ready_there, asked_is}
use Rattle.tau_follow.proofs.waits.look_at.Goals as goal

pub returns-then-not-is_open_at-clause-found : goal.returns-then-not-is_open_at-clause-found
returns-then-not-is_open_at-clause-found c = λ looked h none. not_open c.args.streams.now c.args.stages.now looked c.args.queues.now.items c.args.spot (c.is_open_at.ensures.no c.if-not-is_open_at.true) h

pub returns-in_default-first_above-clause-ready : goal.returns-in_default-first_above-clause-ready
returns-in_default-first_above-clause-ready c = λ yes.
    (let w = c.is_open_at.ensures.yes c.if-not-is_open_at.false in
    let e = c.in-Some.ensures in
    ready_there c.args.streams.now c.args.stages.now c.args.reached.now c.args.spot.stream c.args.spot.index e.0 e.1 w.0 w.1 e.2 e.3 w.2 w.3 w.4 (ap (covers c.args.reached.now) (sym (c.dep_of-dep.ensures ∙ ap dep_of e.4)) ∙ c.in_default-first_above.ensures.none refl))

pub returns-in-Ok-clause-found : goal.returns-in-Ok-clause-found
returns-in-Ok-clause-found c = λ looked h none.
    (let e = c.in-Some.ensures in
    queued c.args.streams.now c.args.stages.now looked c.args.queues.now.items c.queue_at.new.queues.items c.in-Some-first_above.k _ c.args.spot c.in-Ok.ensures.queued
    (λ qs q x y. asked_is c.args.streams.now c.args.spot.stream c.args.spot.index c.in-Some-first_above.k _ c.dep_of-dep.result.now e.0 qs e.1 q e.2 e.3 (c.dep_of-dep.ensures ∙ ap dep_of e.4) c.position.ensures x y) h)
