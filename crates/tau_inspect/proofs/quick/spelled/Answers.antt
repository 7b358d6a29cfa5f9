-- One digit, or several of which the first is not 0.
use Rattle.std.proofs.Common.{ℕ, ◌≡◌, ◌==◌, ◌-◌, ◌++◌, length, take, drop, false, get_or, subst, arith}
use Rattle.std.specs.Fmt.{decimal}
use Rattle.std.proofs.lemmas.Grind.{common_steps}
use Rattle.tau_inspect.proofs.OnePass.{spelled_one, spelled_more}
use Rattle.tau_inspect.proofs.quick.spelled.Goals as goal

pub returns-then-count-eq1 : goal.returns-then-count-eq1
returns-then-count-eq1 c =
    let text = c.args.text.now in
    let one : c.args.count ≡ 1 = omega (arith, c.if-count-eq1.true) in
    (c.requires.few, subst (λ (n : ℕ). text ≡ decimal c.args.value ++ take (length text - n) (drop n text)) one (spelled_one text c.args.count c.args.value c.requires.within one c.requires.few c.requires.read))

pub returns : goal.returns
returns c =
    let text = c.args.text.now in
    let first : (get_or text 0 0 == 48) ≡ false = grind (arith, common_steps) in
    (c.requires.few, spelled_more text c.args.count c.args.value c.requires.within (omega (arith, c.if-count-eq0.false)) first c.requires.few c.requires.read)
