use Rattle.std.proofs.Common.{◌≡◌, ◌+◌, ◌-◌, length, refl, arith}
use Rattle.std.proofs.lemmas.List.{take_rest, take_all}
use Rattle.tau_text.proofs.Cuts.{place, line_cut, line_body, lines_whole, lines_nil, body_all, line_utf8, last_utf8}
use Rattle.tau_text.proofs.lines.first_line.Goals as goal

pub returns-then-n-text-clause-cut : goal.returns-then-n-text-clause-cut
returns-then-n-text-clause-cut c =
    let t = c.args.text.now in
    let e : length t - 0 ≡ length t = omega arith in
    rw (lines_whole t (omega arith) (omega arith), lines_nil, e, take_all (length t) t (omega arith)) refl

pub returns-then-n-text-clause-body : goal.returns-then-n-text-clause-body
returns-then-n-text-clause-body c =
    let t = c.args.text.now in
    let e : length t - 0 ≡ length t = omega arith in
    let p : place 10 t ≡ length t = omega arith in
    rw (e, take_all (length t) t (omega arith)) (body_all t p)

pub returns-clause-cut : goal.returns-clause-cut
returns-clause-cut c =
    let t = c.args.text.now in
    rw (take_rest t (c.place_of-n.result + 1)) (line_cut t c.place_of-n.result c.place_of-n.ensures.first (omega arith))

pub returns-clause-body : goal.returns-clause-body
returns-clause-body c =
    let t = c.args.text.now in
    rw (take_rest t (c.place_of-n.result + 1)) (line_body t c.place_of-n.result c.place_of-n.ensures.first (omega arith))

pub returns-then-n-text-clause-utf8 : goal.returns-then-n-text-clause-utf8
returns-then-n-text-clause-utf8 c = last_utf8 c.args.text.now

pub returns-clause-utf8 : goal.returns-clause-utf8
returns-clause-utf8 c =
    let t = c.args.text.now in
    rw (take_rest t (c.place_of-n.result + 1)) (line_utf8 t c.place_of-n.result c.place_of-n.ensures.first (omega arith))
