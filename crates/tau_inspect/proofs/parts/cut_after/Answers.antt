-- The byte stands here, or not among one more, or nowhere.
use Rattle.std.proofs.Common.{◌≡◌, ◌==◌, ◌+◌, List, ℕ, false, get_or, sym, ap, ◌∙◌, arith}
use Rattle.std.proofs.lemmas.Grind.{common_steps}
use Rattle.std.proofs.lemmas.List.{take_all}
use Rattle.tau_inspect.specs.Parts.{lacks}
use Rattle.tau_inspect.proofs.Cutting.{cut_here, lacks_more}
use Rattle.tau_inspect.proofs.parts.cut_after.Goals as goal

pub returns-then-text-i : goal.returns-then-text-i
returns-then-text-i c = cut_here c.args.byte c.loop-i.i c.args.text.now (omega arith) c.loop-i.invariant.none (grind (arith, common_steps))

pub loop-i-preserved : goal.loop-i-preserved
loop-i-preserved c =
    let other : (get_or c.args.text.now c.loop-i.i 0 == c.args.byte) ≡ false = grind (arith, common_steps) in
    record { within = omega arith; none = lacks_more c.args.byte c.loop-i.i (c.loop-i.i + 1) c.args.text.now (omega arith) (omega arith) c.loop-i.invariant.none other }

pub returns : goal.returns
returns c = ap (λ (l : List ℕ). lacks c.args.byte l) (sym (take_all c.loop-i.i c.args.text.now (omega arith))) ∙ c.loop-i.invariant.none
