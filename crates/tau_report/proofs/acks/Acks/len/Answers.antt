use Rattle.std.proofs.Common.{◌∙◌, List, ℕ, length, sym, ap}
use Rattle.tau_report.proofs.KeptAcks.{acks_long}
use Rattle.tau_report.proofs.acks.Acks.len.Goals as goal

pub returns : goal.returns
returns c = c.len.ensures ∙ c.self.inside.heads.ok.0 ∙ sym (acks_long c.self.inside.heads.items c.self.inside.parts.items) ∙ ap (λ (l : List (ℕ × List ℕ)). length l) c.self.view_is
