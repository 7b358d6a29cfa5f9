-- The first name that stands there is the declared one.
use Rattle.std.proofs.Common.{ℕ, List, ◌≡◌, ◌++◌, ◌∷◌, sym, ap, ◌∙◌, arith}
use Rattle.std.proofs.lemmas.Grind.{common_steps}
use Rattle.tau_text.proofs.OnePass.{not_here, name_here}
use Rattle.tau_text.proofs.quick.table.Goals as goal

pub returns-in-Some : goal.returns-in-Some
returns-in-Some c =
    let name : List ℕ = c.index-tables-i.result in
    let same : c.as_bytes.result.now ≡ name = grind (arith, common_steps) in
    name_here c.loop-i.i name c.args.tables.now c.args.text.now c.in-Some.rest.now (omega arith) c.index-tables-i.is c.requires.names c.loop-i.invariant (c.in-Some.ensures ∙ ap (λ (w : List ℕ). w ++ 32 ∷ c.in-Some.rest.now) same)

pub loop-i-preserved : goal.loop-i-preserved
loop-i-preserved c =
    let name : List ℕ = c.index-tables-i.result in
    let same : c.as_bytes.result.now ≡ name = grind (arith, common_steps) in
    not_here c.loop-i.i name c.args.tables.now c.args.text.now (omega arith) c.index-tables-i.is (λ rest e. c.in_default.ensures rest (e ∙ ap (λ (w : List ℕ). w ++ 32 ∷ rest) (sym same))) c.loop-i.invariant
