use Rattle.std.proofs.Common.{ℕ, ◌≡◌, List, refl, subst, ap, ◌∙◌}
use Rattle.std.specs.Prelude.{Err}
use Rattle.tau_scan.specs.declared.fault.LogCause.TheVariants as cause
use Rattle.tau_scan.specs.declared.fault.LogFault.{LogFault}
use Rattle.tau_scan.specs.Sound.{IsOrderOver}
use Rattle.tau_scan.specs.Taken.{Kept, taken}
use Rattle.tau_replay.specs.Redone.{IsTangledAt}
use Rattle.tau_begin.proofs.open.redone.Goals as goal

pub returns-in-Err-Tangled-clause-bad : goal.returns-in-Err-Tangled-clause-bad
returns-in-Err-Tangled-clause-bad c fault e =
    let here : LogFault = record { stream = c.in-Err-Tangled.stream; cause = cause.Tangled c.in-Err-Tangled.at } in
    let is : here ≡ fault = cc e in
    let told = c.replay_turns.ensures.tangled c.in-Err-Tangled.stream c.in-Err-Tangled.at (c.in-Err-Tangled.is ∙ ap (λ x. Err x) c.in-Err-Tangled.field-0-is) in
    subst (λ (f : LogFault). ((at : ℕ) × (f.cause ≡ cause.Tangled at) × IsTangledAt c.args.log.now f.stream at) × ((order : List Kept) → IsOrderOver (taken c.args.log.now) order → ⊥)) is
    ((c.in-Err-Tangled.at, refl, told.0), told.1)
