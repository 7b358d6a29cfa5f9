-- Each want is answered by the value that the database has.
use Rattle.std.proofs.Common.{◌++◌, ◌∷◌, [], refl, sym, ap, subst, ◌∙◌}
use Rattle.tau_proc.specs.Progress.{Progress, IsRead, ahead, buffered}
use Rattle.tau_model.specs.Store.{database}
use Rattle.tau_replay.proofs.Tries.{trying_begins, trying_read, trying_ends, agrees_push}
use Rattle.tau_replay.proofs.redo.run.Goals as goal

pub wants-init : goal.wants-init
wants-init c = ([], trying_begins c.args.procs.now c.args.call.now c.restart.new.self c.restart.ensures, tt)

pub wants-preserved : goal.wants-preserved
wants-preserved c =
    let (reads, trying, agrees) = c.wants.invariant in
    let key = c.in-Read.key in
    let v = database c.args.store.now key in (
      reads ++ (key, v) ∷ [],
      trying_read c.args.procs.now c.args.call.now reads c.wants.machine key v c.give.new.machine trying (sym c.next.ensures.want ∙ c.in-Read.is)
          (λ vs. c.give.ensures.stands vs ∙ ap (λ (m : Progress). ahead m (v ∷ vs)) c.next.ensures.same) (c.give.ensures.granted ∙ ap (λ (m : Progress). m.granted) c.next.ensures.same),
      agrees_push reads (key, v) (database c.args.store.now) agrees refl,
    )

pub returns-in-Write : goal.returns-in-Write
returns-in-Write c =
    let (reads, trying, agrees) = c.wants.invariant in
    ap (λ (m : Progress). buffered m) c.next.ensures.same
    ∙ sym (trying_ends c.args.procs.now c.args.call.now reads c.wants.machine trying (λ r. subst IsRead (sym c.next.ensures.want ∙ c.in-Write.is) r) (database c.args.store.now) agrees)

pub returns-in-Finished : goal.returns-in-Finished
returns-in-Finished c =
    let (reads, trying, agrees) = c.wants.invariant in
    ap (λ (m : Progress). buffered m) c.next.ensures.same
    ∙ sym (trying_ends c.args.procs.now c.args.call.now reads c.wants.machine trying (λ r. subst IsRead (sym c.next.ensures.want ∙ c.in-Finished.is) r) (database c.args.store.now) agrees)
