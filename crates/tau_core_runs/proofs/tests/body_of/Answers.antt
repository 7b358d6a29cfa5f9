use Rattle.tau_core_runs.proofs.tests.body_of.Goals as goal

pub returns-clause-load : goal.returns-clause-load
returns-clause-load c = let g = c.requires.stood in (c.take_body.ensures g.0 g.1 g.2).load

pub returns-clause-stood : goal.returns-clause-stood
returns-clause-stood c = let g = c.requires.stood in let q = c.take_body.ensures g.0 g.1 g.2 in (g.0, q.hidden, q.stands)
