use Rattle.std.proofs.Common.{◌≡◌, ◌+◌, [], get_or, length, drop, refl, arith}
use Rattle.std.proofs.lemmas.List.{take_rest, take_all, drop_all}
use Rattle.tau_text.proofs.Cuts.{place, word_quoted, word_open, words_done}
use Rattle.tau_text.proofs.lines.text_len.Goals as goal

pub returns-then-n-line-clause-cut : goal.returns-then-n-line-clause-cut
returns-then-n-line-clause-cut c =
    let t = c.args.line.now in
    let q : get_or t 0 0 ≡ 34 = c.requires.begins in
    let p : c.place_of-n.result ≡ place 34 (drop 1 t) = rw (← take_rest t 1) c.place_of-n.ensures.first in
    rw (take_all (length t) t (omega arith), drop_all (length t) t (omega arith), words_done [] refl) (word_open t q (omega (arith, p)))

pub returns-clause-cut : goal.returns-clause-cut
returns-clause-cut c =
    let t = c.args.line.now in
    let q : get_or t 0 0 ≡ 34 = c.requires.begins in
    let p : c.place_of-n.result ≡ place 34 (drop 1 t) = rw (← take_rest t 1) c.place_of-n.ensures.first in
    let r : c.place_of.result ≡ place 32 (drop (c.place_of-n.result + 2) t) = rw (← take_rest t (c.place_of-n.result + 2)) c.place_of.ensures.first in
    word_quoted t c.place_of-n.result c.place_of.result q p (omega arith) r
