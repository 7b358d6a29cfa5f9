use Rattle.std.proofs.Common.{◌≡◌, true, false, refl, sym, ap, ◌∙◌}
use Rattle.std.specs.Prelude.{is_some}
use Rattle.tau_machine.specs.State.{hand_of}
use Rattle.tau_core.specs.View.{core_of}
use Rattle.tau_step.proofs.Deciding.{acts_held, rests_empty}
use Rattle.tau_step.proofs.seen.is_resting.Goals as goal

pub returns-in-Resting : goal.returns-in-Resting
returns-in-Resting c =
    let (K, h, g) = c.requires.stood in
    (λ e. rests_empty c.args.core.now.load.procs (hand_of (core_of c.args.core.now h) c.args.worker) (sym (c.next_of.ensures K h g) ∙ c.in-Resting.is), λ e. refl)

pub returns-in_default : goal.returns-in_default
returns-in_default c =
    let (K, h, g) = c.requires.stood in (
      λ e. absurd (let bad : false ≡ true = e in cc),
      λ none. absurd (let held = acts_held c.args.core.now.load.procs (hand_of (core_of c.args.core.now h) c.args.worker) c.next_of.result (sym (c.next_of.ensures K h g)) (λ e. c.in_default.not-Resting (sym e)) in let bad : false ≡ true = sym (ap is_some none) ∙ held in cc),
    )
