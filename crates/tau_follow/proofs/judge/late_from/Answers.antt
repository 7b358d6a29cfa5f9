-- One stream more, and what that says of the applied records.
use Rattle.std.proofs.Common.{◌+◌, drop, sym, ap, ◌∙◌}
use Rattle.tau_scan.specs.Reading.{or_else}
use Rattle.tau_follow.specs.Judging.{late_one, late_from}
use Rattle.tau_follow.proofs.Late.{late_is, late_next, late_end}
use Rattle.tau_follow.proofs.judge.late_from.Goals as goal

pub loop-j-preserved : goal.loop-j-preserved
loop-j-preserved c =
    let a = c.in-Ok-None.ensures in
    sym (ap (λ o. or_else (late_one c.loop-j.j o) (late_from c.args.known.now (c.loop-j.j + 1) (drop (c.loop-j.j + 1) c.args.streams.now) (drop (c.loop-j.j + 1) c.args.stages.now))) (sym a.4 ∙ c.in-Ok-None.field-0-is))
    ∙ late_next c.args.known.now c.args.streams.now c.args.stages.now c.loop-j.j a.0 a.1 (late_from c.args.known.now 0 c.args.streams.now c.args.stages.now) a.2 a.3 c.loop-j.invariant

pub returns-in-Ok-Some-clause-same : goal.returns-in-Ok-Some-clause-same
returns-in-Ok-Some-clause-same c =
    let a = c.in-Ok-Some.ensures in
    sym (ap (λ o. or_else (late_one c.loop-j.j o) (late_from c.args.known.now (c.loop-j.j + 1) (drop (c.loop-j.j + 1) c.args.streams.now) (drop (c.loop-j.j + 1) c.args.stages.now))) (c.in-Ok-Some.field-0-is))
    ∙ ap (λ o. or_else (late_one c.loop-j.j o) (late_from c.args.known.now (c.loop-j.j + 1) (drop (c.loop-j.j + 1) c.args.streams.now) (drop (c.loop-j.j + 1) c.args.stages.now))) a.4
    ∙ late_next c.args.known.now c.args.streams.now c.args.stages.now c.loop-j.j a.0 a.1 (late_from c.args.known.now 0 c.args.streams.now c.args.stages.now) a.2 a.3 c.loop-j.invariant

pub returns-in-Ok-Some-clause-late : goal.returns-in-Ok-Some-clause-late
returns-in-Ok-Some-clause-late c = λ out order is apart stages_are.
    returns-in-Ok-Some-clause-same c ∙ ap (late_from c.args.known.now 0 c.args.streams.now) stages_are ∙ late_is c.args.streams.now out order c.args.known.now is apart

pub returns-clause-late : goal.returns-clause-late
returns-clause-late c = λ out order is apart stages_are.
    late_end c.args.known.now c.args.streams.now c.args.stages.now c.loop-j.j (late_from c.args.known.now 0 c.args.streams.now c.args.stages.now) c.loop-j-test.false c.loop-j.invariant
    ∙ ap (late_from c.args.known.now 0 c.args.streams.now) stages_are ∙ late_is c.args.streams.now out order c.args.known.now is apart
