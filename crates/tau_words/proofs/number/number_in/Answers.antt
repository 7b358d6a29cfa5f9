use Rattle.std.proofs.Common.{◌≡◌, true, sym, ◌∙◌, arith}
use Rattle.tau_words.proofs.Numbers.{number_above}
use Rattle.tau_words.proofs.number.number_in.Goals as goal

pub returns-in-Err-clause-exact : goal.returns-in-Err-clause-exact
returns-in-Err-clause-exact c =
    let yes : c.is_number.result ≡ true = grind (arith, c.if-not-is_number.false) in
    let same = rw c.as_bytes.ensures.value at c.is_number.ensures in
    sym (number_above c.args.low c.args.high c.args.word.now (sym same ∙ yes) (omega arith) c.in-Err.ensures.value.0)
