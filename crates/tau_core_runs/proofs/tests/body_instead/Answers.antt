use Rattle.std.proofs.Common.{◌<◌, ap, ◌∙◌, arith}
use Rattle.tau_core.specs.declared.state.Load.{Load}
use Rattle.tau_core_runs.proofs.tests.body_instead.Goals as goal

pub swap_body-requires : goal.swap_body-requires
swap_body-requires c =
    let g = c.requires.stood in
    let same = ap (λ (l : Load). l.streams) (c.take_body-bytes.ensures g.0 g.1 g.2).load in
    let two = c.requires.streams in
    record { there = omega arith }

pub returns-clause-load : goal.returns-clause-load
returns-clause-load c =
    let g = c.requires.stood in
    let q = c.take_body-bytes.ensures g.0 g.1 g.2 in
    (c.swap_body.ensures g.0 q.hidden q.stands).load ∙ q.load

pub returns-clause-stood : goal.returns-clause-stood
returns-clause-stood c =
    let g = c.requires.stood in
    let q = c.take_body-bytes.ensures g.0 g.1 g.2 in
    let r = c.swap_body.ensures g.0 q.hidden q.stands in
    (g.0, r.hidden, r.stands)
