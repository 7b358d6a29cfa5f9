use Rattle.std.proofs.Common.{map, arith, List, ℕ, sym}
use Rattle.std.specs.Borrow.{Bor}
use Rattle.std.proofs.lemmas.List.{length-map}
use Rattle.tau_words.proofs.Lengths.{no_restore}
use Rattle.tau_words.proofs.read.restore_of.Goals as goal

pub returns-in_default : goal.returns-in_default
returns-in_default c = sym (no_restore (map (λ (s : Bor (List ℕ)). s.now) c.args.words.now) (λ e. omega (arith, e, c.in_default.len_below, length-map c.args.words.now (λ (s : Bor (List ℕ)). s.now))))
