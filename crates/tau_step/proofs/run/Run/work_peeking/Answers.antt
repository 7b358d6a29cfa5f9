use Rattle.std.proofs.Common.{ℕ, refl, ap, ◌∙◌, arith}
use Rattle.std.specs.Prelude.{slice_set}
use Rattle.tau_core.specs.Opens.{nothing}
use Rattle.tau_step.proofs.Fitting.{lowest_raised}
use Rattle.tau_step.proofs.ManagerRuns.{got_of}
use Rattle.tau_step.proofs.StyleRuns.{optimist_fit, optimist_works}
use Rattle.tau_step.proofs.run.Run.work_peeking.Goals as goal

pub index_mut-requires : goal.index_mut-requires
index_mut-requires c = omega (arith, c.from-at.ensures, c.requires.there, c.requires.fit.count)

pub optimistic_turn-requires-clause-stop : goal.optimistic_turn-requires-clause-stop
optimistic_turn-requires-clause-stop c = λ h. c.is_some-stopped.ensures ∙ lowest_raised c.args.self.now.core nothing h c.args.self.now.failed c.requires.lowest

pub optimistic_turn-requires-clause-procs : goal.optimistic_turn-requires-clause-procs
optimistic_turn-requires-clause-procs c = c.requires.fit.procs

pub optimistic_turn-requires-clause-calls : goal.optimistic_turn-requires-clause-calls
optimistic_turn-requires-clause-calls c = c.requires.fit.calls

pub optimistic_turn-requires-clause-fits : goal.optimistic_turn-requires-clause-fits
optimistic_turn-requires-clause-fits c = c.requires.fit.each c.args.worker c.index_mut.result.now (got_of c.args.peekers.now.items c.from-at.result c.args.worker c.index_mut.result.now c.from-at.ensures (omega (arith, c.from-at.ensures, c.requires.there, c.requires.fit.count)) c.index_mut.ensures.value)

pub returns-clause-works : goal.returns-clause-works
returns-clause-works c = optimist_works c.args.worker c.args.self.now _ c.args.peekers.now.items _ c.index_mut.result.now c.optimistic_turn.new.peeker (got_of c.args.peekers.now.items c.from-at.result c.args.worker c.index_mut.result.now c.from-at.ensures (omega (arith, c.from-at.ensures, c.requires.there, c.requires.fit.count)) c.index_mut.ensures.value) (ap (λ (i : ℕ). slice_set c.args.peekers.now.items i c.optimistic_turn.new.peeker) c.from-at.ensures) c.requires.stood refl refl refl refl refl
    c.optimistic_turn.result c.optimistic_turn.ensures.turned

pub returns-clause-fit : goal.returns-clause-fit
returns-clause-fit c = optimist_fit c.args.worker c.args.self.now (record (c.args.self.now) { core = c.optimistic_turn.new.core }) c.args.peekers.now.items _ c.index_mut.result.now c.optimistic_turn.new.peeker (got_of c.args.peekers.now.items c.from-at.result c.args.worker c.index_mut.result.now c.from-at.ensures (omega (arith, c.from-at.ensures, c.requires.there, c.requires.fit.count)) c.index_mut.ensures.value) (ap (λ (i : ℕ). slice_set c.args.peekers.now.items i c.optimistic_turn.new.peeker) c.from-at.ensures) c.requires.stood
    c.args.load.now c.optimistic_turn.result c.optimistic_turn.ensures.turned c.optimistic_turn.ensures.fits c.requires.fit
