use Rattle.std.proofs.Common.{ℕ, ◌≡◌, ◌∙◌, inl, inr, List, length, refl, sym, ap, subst}
use Rattle.std.specs.Prelude.{is_ok}
use Rattle.std.specs.List.{All}
use Rattle.std.proofs.lemmas.Result.{err_from_is_err_and}
use Rattle.tau_base.specs.declared.value.Call.{Call}
use Rattle.tau_run.specs.RunFacts.{turns_of}
use Rattle.tau_run.specs.Fates.{IsNumberOf}
use Rattle.tau_step.specs.RunEffects.{Moves}
use Rattle.tau_occ.specs.Peeker.{PlainPeeker}
use Rattle.tau_step.specs.Optimists.{AreFit, Peeks, peeks_of}
use Rattle.tau_step.specs.Rounding.{none_peeked, ran_all}
use Rattle.tau_step.proofs.StyleFits.{blank_fit, blank_none}
use Rattle.tau_step.proofs.Ending.{calls_same, told_numbers, gave_by_end, cut_off, count_same}
use Rattle.tau_step.proofs.top.run_and_tell.Goals as goal

pub all-requires : goal.all-requires
all-requires g c = record {
  on = c.requires.on;
  fit = subst (λ (qs : List PlainPeeker). AreFit c.args.style c.args.load.now c.args.run.now.core qs) (sym c.in_ok-peekers.ensures) (blank_fit c.args.style c.args.load.now c.args.run.now.core c.args.run.now.workers c.requires.procs c.requires.calls c.requires.on.workers c.requires.opened);
}

pub end_of-requires-clause-calls : goal.end_of-requires-clause-calls
end_of-requires-clause-calls g c =
    let x = subst (λ b. Moves (ran_all c.args.style none_peeked (peeks_of c.all.new.peekers.items) (turns_of c.args.load.now)) b c.args.run.now c.all.new.self c.args.writers.now.items c.all.new.writers.items g.K.Sink.tells (g.K.Sink.held c.args.sink.now) (g.K.Sink.held c.all.new.sink) (g.K.Sink.faults c.args.sink.now) (g.K.Sink.faults c.all.new.sink))
    (ap is_ok c.in_ok-all.was) (subst (λ (f : Peeks). Moves (ran_all c.args.style f (peeks_of c.all.new.peekers.items) (turns_of c.args.load.now)) (is_ok c.all.result) c.args.run.now c.all.new.self c.args.writers.now.items c.all.new.writers.items g.K.Sink.tells (g.K.Sink.held c.args.sink.now) (g.K.Sink.held c.all.new.sink) (g.K.Sink.faults c.args.sink.now) (g.K.Sink.faults c.all.new.sink)) (ap peeks_of c.in_ok-peekers.ensures ∙ blank_none c.args.style c.args.run.now.workers) c.all.ensures.moves) in
    c.len.ensures ∙ ap (length {A = Call}) c.requires.calls ∙ sym (calls_same g.met.D.Disk.seen_now c.args.style (peeks_of c.all.new.peekers.items) c.args.load.now c.requires.begun.0 c.args.run.now c.all.new.self c.args.writers.now.items c.all.new.writers.items g.K.Sink.tells (g.K.Sink.held c.args.sink.now) (g.K.Sink.held c.all.new.sink) (g.K.Sink.faults c.args.sink.now) (g.K.Sink.faults c.all.new.sink)
    c.requires.opened c.requires.begun.1 c.requires.acks c.requires.works x)

pub end_of-requires-clause-told : goal.end_of-requires-clause-told
end_of-requires-clause-told g c =
    let x = subst (λ b. Moves (ran_all c.args.style none_peeked (peeks_of c.all.new.peekers.items) (turns_of c.args.load.now)) b c.args.run.now c.all.new.self c.args.writers.now.items c.all.new.writers.items g.K.Sink.tells (g.K.Sink.held c.args.sink.now) (g.K.Sink.held c.all.new.sink) (g.K.Sink.faults c.args.sink.now) (g.K.Sink.faults c.all.new.sink))
    (ap is_ok c.in_ok-all.was) (subst (λ (f : Peeks). Moves (ran_all c.args.style f (peeks_of c.all.new.peekers.items) (turns_of c.args.load.now)) (is_ok c.all.result) c.args.run.now c.all.new.self c.args.writers.now.items c.all.new.writers.items g.K.Sink.tells (g.K.Sink.held c.args.sink.now) (g.K.Sink.held c.all.new.sink) (g.K.Sink.faults c.args.sink.now) (g.K.Sink.faults c.all.new.sink)) (ap peeks_of c.in_ok-peekers.ensures ∙ blank_none c.args.style c.args.run.now.workers) c.all.ensures.moves) in
    let same : c.len.result ≡ length c.all.new.self.core.load.calls = c.len.ensures ∙ ap (length {A = Call}) c.requires.calls ∙ sym (calls_same g.met.D.Disk.seen_now c.args.style (peeks_of c.all.new.peekers.items) c.args.load.now c.requires.begun.0 c.args.run.now c.all.new.self c.args.writers.now.items c.all.new.writers.items g.K.Sink.tells (g.K.Sink.held c.args.sink.now) (g.K.Sink.held c.all.new.sink) (g.K.Sink.faults c.args.sink.now) (g.K.Sink.faults c.all.new.sink)
    c.requires.opened c.requires.begun.1 c.requires.acks c.requires.works x) in
    subst (λ (n : ℕ). All (λ (a : ℕ × List ℕ). IsNumberOf n a.0) c.all.new.self.clerk.acks) (sym same) (told_numbers g.met.D.Disk.seen_now c.args.style (peeks_of c.all.new.peekers.items) c.args.load.now c.requires.begun.0 c.args.run.now c.all.new.self c.args.writers.now.items c.all.new.writers.items g.K.Sink.tells (g.K.Sink.held c.args.sink.now) (g.K.Sink.held c.all.new.sink) (g.K.Sink.faults c.args.sink.now) (g.K.Sink.faults c.all.new.sink)
    c.requires.opened c.requires.begun.1 c.requires.acks c.requires.works x)

pub returns-clause-ran : goal.returns-clause-ran
returns-clause-ran g c = λ bases begun.
    let x = subst (λ b. Moves (ran_all c.args.style none_peeked (peeks_of c.all.new.peekers.items) (turns_of c.args.load.now)) b c.args.run.now c.all.new.self c.args.writers.now.items c.all.new.writers.items g.K.Sink.tells (g.K.Sink.held c.args.sink.now) (g.K.Sink.held c.all.new.sink) (g.K.Sink.faults c.args.sink.now) (g.K.Sink.faults c.all.new.sink))
    (ap is_ok c.in_ok-all.was) (subst (λ (f : Peeks). Moves (ran_all c.args.style f (peeks_of c.all.new.peekers.items) (turns_of c.args.load.now)) (is_ok c.all.result) c.args.run.now c.all.new.self c.args.writers.now.items c.all.new.writers.items g.K.Sink.tells (g.K.Sink.held c.args.sink.now) (g.K.Sink.held c.all.new.sink) (g.K.Sink.faults c.args.sink.now) (g.K.Sink.faults c.all.new.sink)) (ap peeks_of c.in_ok-peekers.ensures ∙ blank_none c.args.style c.args.run.now.workers) c.all.ensures.moves) in
    gave_by_end g.met.D.Disk.seen_now c.args.style (peeks_of c.all.new.peekers.items) c.args.load.now bases c.args.run.now c.all.new.self c.args.writers.now.items c.all.new.writers.items g.K.Sink.tells (g.K.Sink.held c.args.sink.now) (g.K.Sink.held c.all.new.sink) (g.K.Sink.faults c.args.sink.now) (g.K.Sink.faults c.all.new.sink)
    c.requires.opened begun c.requires.acks c.requires.works x
    c.end_of.result c.end_of.ensures.acks c.end_of.ensures.fates c.end_of.ensures.order c.end_of.ensures.tables c.end_of.ensures.disk c.end_of.ensures.sink

pub returns-clause-count : goal.returns-clause-count
returns-clause-count g c =
    count_same g.met.D.Disk.seen_now c.args.style (peeks_of c.all.new.peekers.items) c.args.load.now c.requires.begun.0 c.args.run.now c.all.new.self c.args.writers.now.items c.all.new.writers.items g.K.Sink.tells (g.K.Sink.held c.args.sink.now) (g.K.Sink.held c.all.new.sink) (g.K.Sink.faults c.args.sink.now) (g.K.Sink.faults c.all.new.sink)
    c.requires.opened c.requires.begun.1 c.requires.acks c.requires.works (is_ok c.all.result) (subst (λ (f : Peeks). Moves (ran_all c.args.style f (peeks_of c.all.new.peekers.items) (turns_of c.args.load.now)) (is_ok c.all.result) c.args.run.now c.all.new.self c.args.writers.now.items c.all.new.writers.items g.K.Sink.tells (g.K.Sink.held c.args.sink.now) (g.K.Sink.held c.all.new.sink) (g.K.Sink.faults c.args.sink.now) (g.K.Sink.faults c.all.new.sink)) (ap peeks_of c.in_ok-peekers.ensures ∙ blank_none c.args.style c.args.run.now.workers) c.all.ensures.moves)

pub returns-in_err-all-clause-ran : goal.returns-in_err-all-clause-ran
returns-in_err-all-clause-ran g c = λ bases begun.
    let x = subst (λ b. Moves (ran_all c.args.style none_peeked (peeks_of c.all.new.peekers.items) (turns_of c.args.load.now)) b c.args.run.now c.all.new.self c.args.writers.now.items c.all.new.writers.items g.K.Sink.tells (g.K.Sink.held c.args.sink.now) (g.K.Sink.held c.all.new.sink) (g.K.Sink.faults c.args.sink.now) (g.K.Sink.faults c.all.new.sink))
    (ap is_ok c.in_err-all.was) (subst (λ (f : Peeks). Moves (ran_all c.args.style f (peeks_of c.all.new.peekers.items) (turns_of c.args.load.now)) (is_ok c.all.result) c.args.run.now c.all.new.self c.args.writers.now.items c.all.new.writers.items g.K.Sink.tells (g.K.Sink.held c.args.sink.now) (g.K.Sink.held c.all.new.sink) (g.K.Sink.faults c.args.sink.now) (g.K.Sink.faults c.all.new.sink)) (ap peeks_of c.in_ok-peekers.ensures ∙ blank_none c.args.style c.args.run.now.workers) c.all.ensures.moves) in
    rw (err_from_is_err_and c.from_residual-in_err-all.result c.from_residual-in_err-all.ensures.1).1 (inl (cut_off g.met.D.Disk.seen_now c.args.style (peeks_of c.all.new.peekers.items) c.args.load.now bases c.args.run.now c.all.new.self c.args.writers.now.items c.all.new.writers.items g.K.Sink.tells (g.K.Sink.held c.args.sink.now) (g.K.Sink.held c.all.new.sink) (g.K.Sink.faults c.args.sink.now) (g.K.Sink.faults c.all.new.sink)
    c.requires.opened begun c.requires.acks c.requires.works x))

pub returns-in_err-all-clause-count : goal.returns-in_err-all-clause-count
returns-in_err-all-clause-count g c =
    count_same g.met.D.Disk.seen_now c.args.style (peeks_of c.all.new.peekers.items) c.args.load.now c.requires.begun.0 c.args.run.now c.all.new.self c.args.writers.now.items c.all.new.writers.items g.K.Sink.tells (g.K.Sink.held c.args.sink.now) (g.K.Sink.held c.all.new.sink) (g.K.Sink.faults c.args.sink.now) (g.K.Sink.faults c.all.new.sink)
    c.requires.opened c.requires.begun.1 c.requires.acks c.requires.works (is_ok c.all.result) (subst (λ (f : Peeks). Moves (ran_all c.args.style f (peeks_of c.all.new.peekers.items) (turns_of c.args.load.now)) (is_ok c.all.result) c.args.run.now c.all.new.self c.args.writers.now.items c.all.new.writers.items g.K.Sink.tells (g.K.Sink.held c.args.sink.now) (g.K.Sink.held c.all.new.sink) (g.K.Sink.faults c.args.sink.now) (g.K.Sink.faults c.all.new.sink)) (ap peeks_of c.in_ok-peekers.ensures ∙ blank_none c.args.style c.args.run.now.workers) c.all.ensures.moves)

pub returns-in_err-peekers-clause-ran : goal.returns-in_err-peekers-clause-ran
returns-in_err-peekers-clause-ran g c = λ bases begun. rw (err_from_is_err_and c.from_residual.result c.from_residual.ensures.1).1 (inr (refl, refl))
