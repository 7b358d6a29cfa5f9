use Rattle.std.proofs.Common.{sym, ap, ◌∙◌}
use Rattle.std.specs.Prelude.{slice_get}
use Rattle.tau_core.specs.State.{Plain}
use Rattle.tau_core.proofs.apart.state_of.Goals as goal

pub let_go-requires : goal.let_go-requires
let_go-requires c = record { rests = λ w s e. c.requires.rests w s (ap (λ (p : Plain). slice_get p.seats w) (sym c.parts.view_is) ∙ e) }
