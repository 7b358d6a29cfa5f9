-- Each want is answered as the meaning of the call says.
use Rattle.std.proofs.Common.{◌≡◌, ◌∷◌, refl, sym, ap, ◌∙◌}
use Rattle.tau_proc.specs.Meaning.{meaning}
use Rattle.tau_proc.specs.Progress.{Progress, ahead, buffered}
use Rattle.tau_model.specs.Store.{database}
use Rattle.tau_model.proofs.Wants.{read_given, finished_meaning}
use Rattle.tau_model.proofs.store.SerialStore.execute.Goals as goal
use Rattle.tau_base.proofs.Logic.{on_err}

pub wants-preserved-in-Read : goal.wants-preserved-in-Read
wants-preserved-in-Read c = record {
  same = c.wants.invariant.same;
  under = read_given c.args.procs.now c.args.call.now (database c.args.self.now) c.wants.self.machine c.wants.invariant.under c.in-Read.key c.value.result c.give.new.self
      (sym c.next.ensures.want ∙ c.in-Read.is) (c.value.ensures ∙ ap (λ db. db c.in-Read.key) c.wants.invariant.same)
      (λ vs. c.give.ensures.stands vs ∙ ap (λ (m : Progress). ahead m (c.value.result ∷ vs)) c.next.ensures.same) (c.give.ensures.granted ∙ ap (λ (m : Progress). m.granted) c.next.ensures.same);
}

pub returns-in_err-write-in-Finished-clause-err : goal.returns-in_err-write-in-Finished-clause-err
returns-in_err-write-in-Finished-clause-err c = on_err c.from_residual.result (c.in_err-write-in-Finished.ensures.err ∙ c.wants.invariant.same)

pub returns-in-Finished-clause-reply : goal.returns-in-Finished-clause-reply
returns-in-Finished-clause-reply c =
    (finished_meaning c.args.procs.now c.args.call.now (database c.args.self.now) c.wants.self.machine c.wants.invariant.under c.in-Finished.reply (sym c.next.ensures.want ∙ c.in-Finished.is)).0

pub returns-in-Finished-clause-writes : goal.returns-in-Finished-clause-writes
returns-in-Finished-clause-writes c =
    let end = finished_meaning c.args.procs.now c.args.call.now (database c.args.self.now) c.wants.self.machine c.wants.invariant.under c.in-Finished.reply (sym c.next.ensures.want ∙ c.in-Finished.is) in
    let writes : c.writes.result.now ≡ (meaning c.args.procs.now c.args.call.now (database c.args.self.now)).writes =
    c.writes.ensures.same ∙ ap (λ (m : Progress). buffered m) c.next.ensures.same ∙ end.1 in
    c.in_ok-write-in-Finished.ensures.ok ∙ rw (writes, c.wants.invariant.same) refl
