-- The number of the stream is the one that was found.
use Rattle.std.proofs.Common.{ℕ, List, sym, subst}
use Rattle.tau_follow.specs.Applying.{ArePassed}
use Rattle.tau_follow.proofs.Reaching.{reaches_renewed, reaches_renewed_on}
use Rattle.tau_follow.proofs.reach.renew_reach.Goals as goal

pub returns-clause-reached : goal.returns-clause-reached
returns-clause-reached c = λ before ss passed is was.
    (let a = c.in-Some.ensures.some (subst (λ (l : List ℕ). ArePassed c.args.stages.now l) (sym c.as_slice.ensures.value) passed) in
    reaches_renewed c.args.streams.now before c.args.stages.now c.args.reached.now.items c.args.j c.in-Some.reach.at a.0 ss a.1 is was a.2 a.3 a.4)

pub returns-clause-reached_on : goal.returns-clause-reached_on
returns-clause-reached_on c = λ old before ps ss passed read is was.
    (let a = c.in-Some.ensures.some (subst (λ (l : List ℕ). ArePassed c.args.stages.now l) (sym c.as_slice.ensures.value) passed) in
    reaches_renewed_on old c.args.streams.now before c.args.stages.now c.args.reached.now.items c.args.j c.in-Some.reach.at ps a.0 ss a.1 read is was a.2 a.3 a.4)
