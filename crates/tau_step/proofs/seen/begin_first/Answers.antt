use Rattle.std.proofs.Common.{sym, subst, ◌∙◌}
use Rattle.tau_base.proofs.Logic.{some_is}
use Rattle.tau_base.specs.declared.value.Call.{Call}
use Rattle.tau_occ.specs.Peeker.{IsPeeking}
use Rattle.tau_step.proofs.seen.begin_first.Goals as goal

pub begin-requires : goal.begin-requires
begin-requires c = c.requires.takes c.call_at-call.result c.call_at-call.ensures

pub returns-clause-peeks : goal.returns-clause-peeks
returns-clause-peeks c = λ empty d e. subst (λ (x : Call). IsPeeking c.args.load.now.declarations.procs x c.begin.new.self) (some_is c.call_at-call.result d (sym c.call_at-call.ensures ∙ e)) c.begin.ensures.peeks
