use Rattle.std.proofs.Common.{◌≡◌, ◌++◌, ◌∷◌, take}
use Rattle.std.specs.List.{flat_map}
use Rattle.tau_text.specs.Canonical.{value_word}
use Rattle.tau_text.proofs.words.next_values.Given as goal

abbrev pub invariant-loop-value : goal.invariant-loop-value
invariant-loop-value l = l.out.items ≡ l.initial.out.items ++ flat_map (λ v. 32 ∷ value_word v) (take l.value-index l.values)
