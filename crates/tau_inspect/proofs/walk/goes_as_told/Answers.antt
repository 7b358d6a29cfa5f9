-- Each want is answered as the meaning of the call says.
use Rattle.std.proofs.Common.{◌++◌, ◌∷◌, ◌+◌, [], refl, sym, ap, ◌∙◌}
use Rattle.std.specs.Prelude.{Some}
use Rattle.tau_proc.specs.Effect.{Effect}
use Rattle.tau_proc.specs.Progress.{Progress, ahead, buffered}
use Rattle.tau_model.specs.Store.{database}
use Rattle.tau_inspect.proofs.HasReads.{none_read, one_read, one_granted, all_done}
use Rattle.tau_inspect.proofs.walk.goes_as_told.Goals as goal

pub wants-init : goal.wants-init
wants-init c = ([], none_read c.args.procs.now c.args.call.now (database c.args.store.now) [] c.restart.new.self refl (record { stands = c.restart.ensures.stands; granted = c.restart.ensures.granted }))

pub wants-preserved-in-Read : goal.wants-preserved-in-Read
wants-preserved-in-Read c =
    let (read, has) = c.wants.invariant in
    let key = c.in-Read.key in let v = c.read_noted.new.value in (
      read ++ (key, v) ∷ [],
      one_read c.args.procs.now c.args.call.now (database c.args.store.now) read c.wants.machine has key v c.give_lent.new.self
          (sym c.next.ensures.want ∙ c.in-Read.is) c.read_noted.ensures
          (λ vs. c.give_lent.ensures.stands vs ∙ ap (λ (m : Progress). ahead m (v ∷ vs)) c.next.ensures.same) (c.give_lent.ensures.granted ∙ ap (λ (m : Progress). m.granted) c.next.ensures.same),
    )

pub wants-preserved : goal.wants-preserved
wants-preserved c =
    let (read, has) = c.wants.invariant in (
      read,
      one_granted c.args.procs.now c.args.call.now (database c.args.store.now) read c.wants.machine has c.granted.new.self
          (λ vs. c.granted.ensures.stands vs ∙ ap (λ (m : Progress). ahead m vs) c.next.ensures.same) (c.granted.ensures.granted ∙ ap (λ (m : Progress). m.granted + 1) c.next.ensures.same),
    )

pub returns-in-Finished : goal.returns-in-Finished
returns-in-Finished c =
    let (read, has) = c.wants.invariant in
    let e = all_done c.args.procs.now c.args.call.now (database c.args.store.now) read c.wants.machine has c.in-Finished.reply (buffered c.wants.machine) (sym c.next.ensures.want ∙ c.in-Finished.is) refl in
    record {
      writes = ap (λ (m : Progress). buffered m) c.next.ensures.same ∙ ap (λ (e : Effect). e.writes) e;
      replied = λ t. c.has_replied.ensures.0 t ∙ ap (λ (e : Effect). Some e.reply) e;
    }
