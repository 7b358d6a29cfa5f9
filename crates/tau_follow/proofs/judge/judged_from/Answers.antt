-- One stream more, and what they are at the end.
use Rattle.std.proofs.Common.{ap, ◌∙◌, ◌++◌, ◌+◌, drop, List}
use Rattle.tau_follow_laws.proofs.GoesOn.{fronts_stand}
use Rattle.tau_follow.specs.declared.stage.Stage.{Stage}
use Rattle.tau_follow.specs.Judging.{judged_from}
use Rattle.tau_follow.proofs.Judging.{judged_all, judged_next, judged_end}
use Rattle.tau_follow.proofs.judge.judged_from.Goals as goal

pub loop-j-preserved : goal.loop-j-preserved
loop-j-preserved c =
    (let a = c.in_ok-one.ensures in
    ap (λ (l : List (List Stage)). l ++ judged_from c.args.known.now (drop (c.loop-j.j + 1) c.args.streams.now) (drop (c.loop-j.j + 1) c.args.stages.now)) c.in_ok-push.ensures.items
    ∙ judged_next c.args.known.now c.args.streams.now c.args.stages.now c.loop-j.j a.0 a.1 c.in_ok-one.one c.loop-j.judged.items (judged_from c.args.known.now c.args.streams.now c.args.stages.now) a.2 a.3 a.4 c.loop-j.invariant)

pub returns-clause-out : goal.returns-clause-out
returns-clause-out c = λ format fed out order fronts is in_time stages_are.
    judged_end c.args.known.now c.args.streams.now c.args.stages.now c.loop-j.j c.loop-j.judged.items (judged_from c.args.known.now c.args.streams.now c.args.stages.now) c.loop-j-test.false c.loop-j.invariant
    ∙ ap (judged_from c.args.known.now c.args.streams.now) stages_are ∙ judged_all c.args.streams.now (fronts_stand format fed c.args.streams.now fronts) out order c.args.known.now is in_time
