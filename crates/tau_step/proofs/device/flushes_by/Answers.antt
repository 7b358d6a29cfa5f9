use Rattle.std.proofs.Common.{[], ap, subst}
use Rattle.std.specs.Prelude.{is_ok}
use Rattle.tau_run.specs.RunFacts.{turns_of}
use Rattle.tau_step.specs.RunEffects.{Moves}
use Rattle.tau_occ.specs.declared.style.Style.TheVariants.{Locking}
use Rattle.tau_step.specs.Optimists.{Peeks, peeks_of}
use Rattle.tau_step.specs.Rounding.{none_peeked, ran_all}
use Rattle.tau_step.proofs.Ordered.{of_ok}
use Rattle.tau_step.proofs.StyleRuns.{peeks_none}
use Rattle.tau_step.proofs.device.flushes_by.Goals as goal

pub all-requires : goal.all-requires
all-requires c = record { on = c.requires.on; fit = c.new-peekers.ensures.items }

pub returns : goal.returns
returns c =
    let x = subst (λ b. Moves (ran_all Locking none_peeked (peeks_of c.all.new.peekers.items) (turns_of c.args.load.now)) b c.args.run.now c.all.new.self c.args.writers.now.items c.all.new.writers.items ⊥ [] [] 0 0) (ap is_ok c.in_ok-all.was)
    (subst (λ (f : Peeks). Moves (ran_all Locking f (peeks_of c.all.new.peekers.items) (turns_of c.args.load.now)) (is_ok c.all.result) c.args.run.now c.all.new.self c.args.writers.now.items c.all.new.writers.items ⊥ [] [] 0 0) (peeks_none c.new-peekers.result.items c.new-peekers.ensures.items) c.all.ensures.moves) in
    of_ok c.flushes_in.result (λ flushes of_run. (c.all.new.self, peeks_of c.all.new.peekers.items, x, of_run)) c.flushes_in.ensures
