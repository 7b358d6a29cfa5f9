-- The one stream is passed, and it is known of all of them.
use Rattle.std.proofs.Common.{ℕ, refl, sym, ap, subst, ◌∙◌}
use Rattle.std.specs.Global.{Vec}
use Rattle.tau_follow.specs.Waits.{AreAllAbove}
use Rattle.tau_follow.proofs.Holding.{as_applied, found_of}
use Rattle.tau_follow.proofs.applier.Applier.reach_one.Goals as goal

pub returns-in-Ok-clause-known : goal.returns-in-Ok-clause-known
returns-in-Ok-clause-known c = λ s d w kept.
    (let d_now = as_applied c.args.streams.now s c.args.self.now _ refl refl refl refl d in
    let taken = c.replace-reached.ensures.value in (
      c.in-Ok.ensures.applied s d_now,
      c.in-Ok.ensures.known_on s w.old w.before w.records w.stood d_now w.streams_are w.stages_are (ap (λ (v : Vec ℕ). v.items) taken ∙ w.reached_is) (found_of c.args.streams.now s c.args.self.now d kept)
          (subst (λ (v : Vec ℕ). AreAllAbove v.items c.args.self.now.waits.queues.items) (sym taken) w.above),
    ))

pub returns-in-Err-clause-err : goal.returns-in-Err-clause-err
returns-in-Err-clause-err c = λ s d. c.in-Err.ensures.applied s (as_applied c.args.streams.now s c.args.self.now _ refl refl refl refl d)
