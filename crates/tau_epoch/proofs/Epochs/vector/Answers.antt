use Rattle.std.proofs.Common.{ap, ◌∙◌}
use Rattle.tau_epoch.specs.Known.{vector_of}
use Rattle.tau_epoch.proofs.Marks.{lookup_vector}
use Rattle.tau_epoch.proofs.Epochs.vector.Goals as goal

pub returns : goal.returns
returns c = c.get.ensures.value ∙ lookup_vector c.args.number c.self.inside.known.entries ∙ ap (vector_of c.args.number) c.self.view_is
