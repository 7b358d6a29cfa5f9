use Rattle.std.proofs.Common.{ap, ◌∙◌}
use Rattle.std.specs.Prelude.{◌%◌, slice_index}
use Rattle.tau_core.specs.State.{Plain}
use Rattle.tau_core.proofs.top.Core.start_next.Goals as goal

pub returns : goal.returns
returns c = c.get.ensures.same ∙ ap (slice_index c.self.inside.state.ends) c.stream_of-stream.ensures.same ∙ ap (λ (p : Plain). slice_index p.ends (c.args.worker % p.load.streams)) c.self.view_is
