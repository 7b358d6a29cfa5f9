-- The first open record tells how far the stream is followed.
use Rattle.std.proofs.Common.{sym, ◌∙◌, arith}
use Rattle.tau_follow.proofs.Reaching.{reach_found, reach_none, passed_both, none_less}
use Rattle.tau_follow_laws.specs.Following.{read_to}
use Rattle.tau_follow.proofs.reach.reach_of.Goals as goal

pub returns-then-found-records-clause-at : goal.returns-then-found-records-clause-at
returns-then-found-records-clause-at c = λ known.
    reach_found (read_to c.args.records.now) c.first_open-found.result c.args.records.now c.args.stages.now c.index-records-found.result c.requires
    (passed_both c.args.stages.now c.args.first c.min.result c.first_open-found.result c.min.ensures known c.first_open-found.ensures.passed) c.first_open-found.ensures.found c.if-found-records.true

pub returns-clause-at : goal.returns-clause-at
returns-clause-at c = λ known.
    c.read_to.ensures ∙ sym (reach_none (read_to c.args.records.now) c.args.records.now c.args.stages.now (none_less c.args.stages.now c.first_open-found.result
    (passed_both c.args.stages.now c.args.first c.min.result c.first_open-found.result c.min.ensures known c.first_open-found.ensures.passed) (omega (arith, c.requires, c.if-found-records.false))))
