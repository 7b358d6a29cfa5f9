use Rattle.std.proofs.Common.{◌∙◌, List, length, sym, ap, subst, ℕ}
use Rattle.std.specs.List.{All}
use Rattle.tau_core.specs.declared.state.Load.{Load}
use Rattle.tau_run.specs.Fates.{IsNumberOf}
use Rattle.tau_crew.specs.declared.told.Told.{Told}
use Rattle.tau_crew.proofs.EndDone.{done_keeps}
use Rattle.tau_crew.proofs.EndTells.{ends_ran, told_numbers}
use Rattle.tau_crew.proofs.ending.end_well.Goals as goal

pub close_run-core-requires : goal.close_run-core-requires
close_run-core-requires g c = let (bases, ws, m) = c.requires.managers in record { back = (bases, ws, c.args.jobs.items, c.args.clerk, c.gather_back-acks.ensures.writers, c.gather_back-acks.ensures.back bases ws m) }

pub tell_end-requires-clause-calls : goal.tell_end-requires-clause-calls
tell_end-requires-clause-calls g c =
    let (bases, ws, m) = c.requires.managers in
    let done = c.close_run-core.ensures bases ws c.args.jobs.items c.args.clerk c.gather_back-acks.ensures.writers (c.gather_back-acks.ensures.back bases ws m) in
    c.len-calls.ensures ∙ ap (λ (l : Load). length l.calls) (c.args.desk.same_load ∙ sym done.run.load)

pub tell_end-requires-clause-told : goal.tell_end-requires-clause-told
tell_end-requires-clause-told g c =
    let (bases, ws, m) = c.requires.managers in
    let done = c.close_run-core.ensures bases ws c.args.jobs.items c.args.clerk c.gather_back-acks.ensures.writers (c.gather_back-acks.ensures.back bases ws m) in
    subst (λ (t : Told). All (λ (a : ℕ × List ℕ). IsNumberOf c.len-calls.result a.0) t.acks) (sym c.gather_back-acks.ensures.told)
    (told_numbers _ bases ws c.gather_back-acks.new.writers.items c.args.clerk c.close_run-core.result done.run (c.requires.clerk.clerk.none c.requires.memory) c.len-calls.result (c.len-calls.ensures ∙ ap (λ (l : Load). length l.calls) c.args.desk.same_load))

pub returns-clause-ran : goal.returns-clause-ran
returns-clause-ran g c = λ bases ws held faults short b q.
    ends_ran _ bases ws c.gather_back-acks.new.writers.items c.gather_back-acks.new.head c.args.jobs.items c.args.clerk c.close_run-core.result _ held _ _ b.managers.long
    (c.close_run-core.ensures bases ws c.args.jobs.items c.args.clerk c.gather_back-acks.ensures.writers (c.gather_back-acks.ensures.back bases ws b.managers))
    (done_keeps _ c.args.head c.gather_back-acks.new.head c.args.jobs.items c.args.clerk c.gather_back-acks.ensures.keeps q)
    (b.clerk.clerk.none c.requires.memory) b.clerk.clerk.written b.heard b.sink c.gather_back-acks.result c.gather_back-acks.ensures.told c.lowest_failed.result c.lowest_failed.ensures
    c.tell_end.result c.tell_end.ensures.acks c.tell_end.ensures.fates c.tell_end.ensures.order c.tell_end.ensures.tables c.tell_end.ensures.disk c.tell_end.ensures.sink
