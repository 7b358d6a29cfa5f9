use Rattle.std.proofs.Common.{ℕ, ◌≡◌, List, ap, sym, subst, ◌∙◌}
use Rattle.std.specs.Prelude.{Option, None, Some, IfOk, Err}
use Rattle.std.specs.Option.{option_copied}
use Rattle.tau_ckpt.specs.declared.checkpoint.Checkpoint.{Checkpoint}
use Rattle.tau_ckpt.specs.Chosen.{IsRestored, chosen, left_to_redo}
use Rattle.tau_replay.specs.Redone.{IsTangledOver}
use Rattle.tau_scan.specs.declared.fault.ReplayRefusal.TheVariants.{Tangled}
use Rattle.tau_commands.specs.Checkpoints.{HaveNoOrder}
use Rattle.tau_commands.proofs.restoration.redo.Goals as goal

pub returns-in-None-clause-ok : goal.returns-in-None-clause-ok
returns-in-None-clause-ok g c =
    let is : None ≡ chosen c.args.found.now.log c.args.found.now.slots = sym (ap (λ x. option_copied x) c.in-None.is) ∙ c.chosen.ensures in
    subst (λ (b : Option Checkpoint). IfOk c.replay_threads.result (λ tables. IsRestored c.args.found.now.log b tables)) is c.replay_threads.ensures.ok

pub returns-in-None-clause-tangled : goal.returns-in-None-clause-tangled
returns-in-None-clause-tangled g c j at e =
    let is : None ≡ chosen c.args.found.now.log c.args.found.now.slots = sym (ap (λ x. option_copied x) c.in-None.is) ∙ c.chosen.ensures in
    subst (λ (b : Option Checkpoint). IsTangledOver (left_to_redo c.args.found.now.log b) j at × HaveNoOrder (left_to_redo c.args.found.now.log b)) is (c.replay_threads.ensures.tangled j at e)

pub returns-in-Some-clause-ok : goal.returns-in-Some-clause-ok
returns-in-Some-clause-ok g c =
    let is : Some c.in-Some.checkpoint.now ≡ chosen c.args.found.now.log c.args.found.now.slots = sym (ap (λ x. option_copied x) c.in-Some.is) ∙ c.chosen.ensures in
    subst (λ (b : Option Checkpoint). IfOk c.redo_after.result (λ tables. IsRestored c.args.found.now.log b tables)) is c.redo_after.ensures.ok

pub returns-in-Some-clause-tangled : goal.returns-in-Some-clause-tangled
returns-in-Some-clause-tangled g c j at e =
    let is : Some c.in-Some.checkpoint.now ≡ chosen c.args.found.now.log c.args.found.now.slots = sym (ap (λ x. option_copied x) c.in-Some.is) ∙ c.chosen.ensures in
    subst (λ (b : Option Checkpoint). IsTangledOver (left_to_redo c.args.found.now.log b) j at × HaveNoOrder (left_to_redo c.args.found.now.log b)) is (c.redo_after.ensures.tangled j at e)
