-- One stream more.
use Rattle.std.proofs.Common.{ap, sym, subst, ◌∙◌, ℕ, List, ◌++◌, drop, ◌+◌}
use Rattle.tau_follow.specs.Applying.{ArePassed, reaches}
use Rattle.tau_follow.proofs.Reaching.{reaches_next, reaches_done, passed_set}
use Rattle.tau_follow.proofs.reach.reaches.Goals as goal

pub loop-j-preserved : goal.loop-j-preserved
loop-j-preserved c = λ known.
    (let w = c.loop-j.invariant known in
    let a = c.in-Some.ensures.some (subst (λ (l : List ℕ). ArePassed c.args.stages.now l) (sym c.as_slice.ensures.value) w.1) in (
      ap (λ (l : List ℕ). l ++ reaches (drop (c.loop-j.j + 1) c.args.streams.now) (drop (c.loop-j.j + 1) c.args.stages.now)) c.in_ok-push.ensures.items
          ∙ reaches_next c.args.streams.now c.args.stages.now c.loop-j.j a.0 a.1 c.in-Some.reach.at c.loop-j.list.items (reaches c.args.streams.now c.args.stages.now) a.2 a.3 a.4 w.0,
      passed_set c.args.stages.now c.loop-j.firsts.items c.loop-j.j c.in-Some.reach.first a.1 w.1 a.3 a.5,
    ))

pub returns-in_err-list-clause-passed : goal.returns-in_err-list-clause-passed
returns-in_err-list-clause-passed c = λ known. known

pub loop-j-init : goal.loop-j-init
loop-j-init c = λ known. (ap (λ (l : List ℕ). l ++ reaches c.args.streams.now c.args.stages.now) c.in_ok-list.ensures.items, known)

pub returns-in_default-clause-passed : goal.returns-in_default-clause-passed
returns-in_default-clause-passed c = λ known. (c.loop-j.invariant known).1

pub returns-in_err-push-clause-passed : goal.returns-in_err-push-clause-passed
returns-in_err-push-clause-passed c = λ known. (c.loop-j.invariant known).1

pub returns-then-j-len-clause-passed : goal.returns-then-j-len-clause-passed
returns-then-j-len-clause-passed c = λ known. (c.loop-j.invariant known).1

pub returns-clause-reached : goal.returns-clause-reached
returns-clause-reached c = λ known. reaches_done c.args.streams.now (drop c.loop-j.j c.args.stages.now) c.loop-j.j c.loop-j.list.items (reaches c.args.streams.now c.args.stages.now) c.loop-j-test.false (c.loop-j.invariant known).0

pub returns-clause-passed : goal.returns-clause-passed
returns-clause-passed c = λ known. (c.loop-j.invariant known).1
