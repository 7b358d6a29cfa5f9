use Rattle.std.proofs.Common.{ℕ, [], ◌∷◌, ap}
use Rattle.tau_block.proofs.magic.magic_of.Goals as goal

pub returns : goal.returns
returns c = ap (λ (d : ℕ). 84 ∷ 65 ∷ 85 ∷ 82 ∷ 85 ∷ 83 ∷ 45 ∷ 76 ∷ 79 ∷ 71 ∷ 45 ∷ d ∷ []) c.digit_of.ensures
