-- Each want is answered as the meaning of the call says.
use Rattle.std.proofs.Common.{◌∷◌, sym, ap, ◌∙◌}
use Rattle.tau_proc.specs.Progress.{Progress, ahead, buffered}
use Rattle.tau_model.specs.Store.{database}
use Rattle.tau_model.proofs.Wants.{read_given, finished_meaning}
use Rattle.tau_follow.proofs.redo.finish.Goals as goal

pub wants-preserved-in-Read : goal.wants-preserved-in-Read
wants-preserved-in-Read c = read_given c.args.procs.now c.args.call.now (database c.args.store.now) c.wants.machine c.wants.invariant c.in-Read.key c.value.result c.give.new.self
    (sym c.next.ensures.want ∙ c.in-Read.is) c.value.ensures
    (λ vs. c.give.ensures.stands vs ∙ ap (λ (m : Progress). ahead m (c.value.result ∷ vs)) c.next.ensures.same) (c.give.ensures.granted ∙ ap (λ (m : Progress). m.granted) c.next.ensures.same)

pub returns-in-Finished : goal.returns-in-Finished
returns-in-Finished c =
    let end = finished_meaning c.args.procs.now c.args.call.now (database c.args.store.now) c.wants.machine c.wants.invariant c.in-Finished.field-0 (sym c.next.ensures.want ∙ c.in-Finished.is) in
    ap (λ (m : Progress). buffered m) c.next.ensures.same ∙ end.1
