-- The line is its words from the last to the first, each before what was written before it.
use Rattle.std.proofs.Common.{◌≡◌, ℕ, List, [], ◌∷◌, ◌++◌, length, drop, codes, arith, rules, append_assoc}
use Rattle.std.proofs.lemmas.List.{drop-set, drop_all}
use Rattle.std.specs.Prelude.{slice_set}
use Rattle.tau_report.specs.Lines.{line}
use Rattle.tau_report.proofs.taken_line.write_line.Goals as goal

in_parts : (a b c : List ℕ) → codes "taken" ++ 32 ∷ (a ++ 32 ∷ (b ++ 32 ∷ (c ++ 10 ∷ []))) ≡ line (codes "taken" ∷ a ∷ b ∷ c ∷ [])
in_parts a b c = simp append_assoc

ended : (place : List ℕ) → length place ≡ 69 → drop 68 (slice_set place 68 10) ≡ 10 ∷ []
ended place long = rw (drop-set place 68 10 (omega (arith, long)), drop_all 69 place (omega (arith, long)))

pub returns-clause-written : goal.returns-clause-written
returns-clause-written c =
    rw (c.word_before.ensures.written, c.number_before-end-3.ensures.written, c.number_before-end-2.ensures.written, c.number_before-end.ensures.written, ended c.args.place.now (search rules)) (in_parts _ _ _)
