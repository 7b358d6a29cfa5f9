use Rattle.std.proofs.Common.{◌≡◌, ◌+◌, ◌-◌, ◌*◌, ◌<◌, true, drop, get_or, option_and_then, sym, ap, ◌∙◌, arith}
use Rattle.std.proofs.lemmas.Grind.{common_steps}
use Rattle.tau_text.specs.Spelled.{is_digit, at_most}
use Rattle.tau_text.proofs.Numbers.{digits_step, digits_grow}
use Rattle.tau_text.proofs.spelled.many_digits.Goals as goal

pub returns-then-more-from-clause-value : goal.returns-then-more-from-clause-value
returns-then-more-from-clause-value c =
    let w = c.args.word.now in
    let i = c.loop-b.b-index in
    let v = c.loop-b.value in
    let d : is_digit (get_or w i 0) ≡ true = grind (arith, common_steps) in
    let s = digits_step v i w (omega arith) d in
    let lt : c.args.top < v * 10 + (get_or w i 0 - 48) = grind (arith, common_steps) in
    let g = digits_grow c.args.top (v * 10 + (get_or w i 0 - 48)) (drop (i + 1) w) lt in
    sym (ap (option_and_then (at_most c.args.top)) (sym c.loop-b.invariant.so_far ∙ s) ∙ g)
