-- The records that were applied are opened, and the new ones drop.
use Rattle.std.proofs.Common.{ℕ, inl, refl, ap, ◌∙◌, List, set, take}
use Rattle.std.specs.Prelude.{slice_get, slice_index}
use Rattle.tau_follow.specs.declared.stage.Stage.{Stage}
use Rattle.tau_follow.specs.Applying.{AreZero}
use Rattle.tau_follow.specs.declared.waits.Waits.{Waits}
use Rattle.tau_follow.proofs.Fed.{none_passed}
use Rattle.tau_follow.proofs.Holding.{step_kept}
use Rattle.tau_follow.proofs.Passing.{zero_there}
use Rattle.tau_follow.proofs.applier.Applier.undo.Goals as goal

pub returns-clause-stages : goal.returns-clause-stages
returns-clause-stages c = λ streams s ss d e there.
    (let zeros : AreZero c.fill.new.self.items = λ j. ap (λ (l : List ℕ). slice_index l j) (c.fill.ensures.items (λ y h. h)) ∙ zero_there _ j in
    let opened = c.reopen.ensures.opened streams s zeros c.lose.ensures (step_kept streams s c.args.self.now _ c.args.self.now.stages.items d refl (λ p. none_passed _ _ zeros) refl refl (λ k. inl c.lose.ensures)) e in
    c.drop_from.ensures ss (ap (λ (l : List (List Stage)). slice_get l c.args.stream) opened ∙ there) ∙ ap (λ (l : List (List Stage)). set l c.args.stream (take c.args.many ss)) opened)

pub returns-clause-lost : goal.returns-clause-lost
returns-clause-lost c = ap (λ (w : Waits). w.lost) c.reopen.ensures.waits ∙ c.lose.ensures
