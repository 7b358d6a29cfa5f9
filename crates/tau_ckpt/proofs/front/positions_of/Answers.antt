use Rattle.std.proofs.Common.{take, arith, sym, ◌∙◌, length-take-le}
use Rattle.tau_ckpt.proofs.Fields.{one_more}
use Rattle.tau_ckpt.proofs.front.positions_of.Goals as goal

pub returns-in_default-clause-none : goal.returns-in_default-clause-none
returns-in_default-clause-none c = λ lv rest there.
    let i = c.loop-j.invariant in
    let long = length-take-le c.loop-j.j c.loop-j.lv (omega (arith, i.width, c.loop-j-test.true)) in
    let m = one_more (take c.loop-j.j c.loop-j.lv) lv c.loop-j.rest.now rest i.places there.places (omega (arith, long, c.loop-j-test.true, there.width)) (sym i.parts ∙ there.parts) in
    c.in_default.ensures.none m.0 m.1 m.2 m.3
