-- What stands before the comma is no position.
use Rattle.std.proofs.Common.{ℕ, ◌+◌, take, drop, sym, ◌∙◌, arith, decimal}
use Rattle.tau_inspect.proofs.Cutting.{decimal_lacks, cut_one}
use Rattle.tau_inspect.proofs.parts.next_part.Goals as goal

pub returns-in-Ok-None : goal.returns-in-Ok-None
returns-in-Ok-None c =
    let text = c.args.text.now in let i : ℕ = c.in-Some.i in
    let cut = c.in-Some.ensures in
    let none = rw c.in-Ok-None.field-0-is at c.in-Ok-None.ensures in
    λ p more small e.
    let w = cut_one 44 (decimal p) (take i text) more (drop (i + 1) text) (decimal_lacks 44 p (omega arith) (omega (arith, small))) cut.first (sym e ∙ cut.split) in
    none p small w.0
