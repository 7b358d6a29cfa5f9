-- One digit, or several of which the first is not 0.
use Rattle.std.proofs.Common.{◌≡◌, ◌==◌, false, get_or, arith}
use Rattle.std.proofs.lemmas.Grind.{common_steps}
use Rattle.tau_text.proofs.OnePass.{numbered_one, numbered_more}
use Rattle.tau_text.proofs.quick.spelled.Goals as goal

pub returns-then-count-eq1 : goal.returns-then-count-eq1
returns-then-count-eq1 c =
    let text = c.args.text.now in
    let one : c.args.count ≡ 1 = omega (arith, c.if-count-eq1.true) in
    let at : get_or text c.args.count 0 ≡ c.args.end = grind (arith, common_steps) in
    numbered_one text c.args.count c.args.value c.args.end one c.requires.within c.requires.few c.requires.read at

pub returns : goal.returns
returns c =
    let text = c.args.text.now in
    let first : (get_or text 0 0 == 48) ≡ false = grind (arith, common_steps) in
    let at : get_or text c.args.count 0 ≡ c.args.end = grind (arith, common_steps) in
    numbered_more text c.args.count c.args.value c.args.end (omega (arith, c.if-count-eq0.false)) c.requires.within first c.requires.few c.requires.read at
