use Rattle.std.proofs.Common.{◌≡◌, length, sym, ◌∙◌, arith}
use Rattle.std.proofs.lemmas.Grind.{common_steps}
use Rattle.tau_text.proofs.Cuts.{words_done}
use Rattle.tau_text.proofs.lines.next_word.Goals as goal

pub returns-then-is_empty-clause-given : goal.returns-then-is_empty-clause-given
returns-then-is_empty-clause-given c =
    let l = c.behind_spaces-line.result.now in
    let z : length l ≡ 0 = grind (arith, common_steps) in
    sym c.behind_spaces-line.ensures.same ∙ words_done l z
