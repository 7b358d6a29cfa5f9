-- Nothing is read.
use Rattle.std.proofs.Common.{arith, ◌∙◌, ap, refl, List, ◌++◌, ◌∷◌, [], ℕ}
use Rattle.tau_follow.proofs.Going.{new_read}
use Rattle.tau_follow.proofs.reader.Reader.new.Goals as goal

pub returns : goal.returns
returns c = λ f. (record { wants = omega arith; going = new_read f c.args.n _ c.new.ensures.items refl (c.in_ok-push.ensures.items ∙ ap (λ (l : List (List ℕ)). l ++ c.zero.result ∷ []) c.new-vectors.ensures.items ∙ ap (λ (v : List ℕ). v ∷ []) c.zero.ensures) refl c.none_declared.ensures })
