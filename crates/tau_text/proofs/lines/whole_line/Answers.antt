use Rattle.std.proofs.Common.{◌<◌, ◌+◌, length, refl, arith}
use Rattle.std.proofs.lemmas.List.{take_rest}
use Rattle.tau_text.proofs.Cuts.{place, lines_cut, lines_whole, lines_nil}
use Rattle.tau_text.proofs.lines.whole_line.Goals as goal

pub returns-then-n-text-clause-cut : goal.returns-then-n-text-clause-cut
returns-then-n-text-clause-cut c = rw (lines_whole c.args.text.now (omega arith) (omega arith), lines_nil) refl

pub returns-clause-cut : goal.returns-clause-cut
returns-clause-cut c =
    let t = c.args.text.now in
    let lt : place 10 t < length t = omega arith in
    rw (take_rest t (c.place_of-n.result + 1), c.place_of-n.ensures.first) (lines_cut t lt)
