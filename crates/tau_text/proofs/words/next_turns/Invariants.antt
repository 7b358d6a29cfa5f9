use Rattle.std.proofs.Common.{◌≡◌, ◌++◌, ◌∷◌, take}
use Rattle.std.specs.List.{flat_map}
use Rattle.tau_text.specs.Canonical.{turn_word}
use Rattle.tau_text.proofs.words.next_turns.Given as goal

abbrev pub invariant-loop-turn : goal.invariant-loop-turn
invariant-loop-turn l = l.out.items ≡ l.initial.out.items ++ flat_map (λ t. 32 ∷ turn_word t) (take l.turn-index l.turns)
