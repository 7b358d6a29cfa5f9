use Rattle.std.proofs.Common.{ap, ◌∙◌}
use Rattle.tau_epoch.specs.Epochs.{largest}
use Rattle.tau_epoch.proofs.Marks.{largest_is}
use Rattle.tau_epoch.proofs.Epochs.last.Goals as goal

pub returns-in-Some-clause-some : goal.returns-in-Some-clause-some
returns-in-Some-clause-some c =
    largest_is c.in-Some.number.now c.in-Some.field-0-1.now c.self.inside.known.entries c.in-Some.ensures.value c.in-Some.ensures.all_up_to ∙ ap largest c.self.view_is
