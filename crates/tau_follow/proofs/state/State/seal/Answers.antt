-- The log is recovered, or comes back.
use Rattle.std.proofs.Common.{ap, ◌∙◌, Err}
use Rattle.tau_scan.specs.declared.fault.LogRefusal.{LogRefusal}
use Rattle.tau_follow.specs.Sealing.{cut_short, stuck}
use Rattle.tau_follow.proofs.Fed.{refusal_is}
use Rattle.tau_follow.proofs.Redoing.{at_again}
use Rattle.tau_follow.proofs.state.State.seal.Goals as goal

pub returns-in-Err-clause-bad : goal.returns-in-Err-clause-bad
returns-in-Err-clause-bad c = λ f n fed s fault a e. cut_short (c.in-Err.ensures.bad f n fed s fault a (ap (λ (z : LogRefusal). Err z) (refusal_is c.in-Err.e fault e)))

pub returns-in-Ok-recovered-clause-ok : goal.returns-in-Ok-recovered-clause-ok
returns-in-Ok-recovered-clause-ok c = λ f n fed s a. record { reads = c.in-Ok.ensures.ok f n fed s a; count_is = c.in-Ok-recovered.ensures.count; redone = c.in-Ok-recovered.ensures.rows; by_turns = c.in-Ok-recovered.ensures.turns }

pub returns-in-Err-recovered-clause-bad : goal.returns-in-Err-recovered-clause-bad
returns-in-Err-recovered-clause-bad c = λ f n fed s fault a e.
    (let w = c.in-Err-recovered.ensures.bad fault (ap (λ (z : LogRefusal). Err z) (refusal_is c.in-Err-recovered.e fault e)) in stuck c.in-Ok.log w.0 w.1 (c.in-Ok.ensures.ok f n fed s a) w.2 w.3)

pub returns-in-Err-recovered-clause-err : goal.returns-in-Err-recovered-clause-err
returns-in-Err-recovered-clause-err c = λ f n fed s a.
    (let w = c.in-Ok.ensures.rest in at_again f n fed s c.args.self.now _ a (c.into_vec.ensures ∙ c.in-Ok.ensures.streams) w.readers w.applier w.known w.declarations w.store w.done w.tables)
