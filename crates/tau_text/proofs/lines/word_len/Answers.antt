use Rattle.std.proofs.Common.{◌≢◌, get_or, arith}
use Rattle.std.proofs.lemmas.Grind.{common_steps}
use Rattle.tau_text.proofs.Cuts.{word_plain}
use Rattle.tau_text.proofs.lines.word_len.Goals as goal

pub returns-clause-cut : goal.returns-clause-cut
returns-clause-cut c =
    let ne : get_or c.args.line.now 0 0 ≢ 34 = grind (arith, common_steps) in
    word_plain c.args.line.now c.place_of.result (omega arith) c.requires.begins ne c.place_of.ensures.first
