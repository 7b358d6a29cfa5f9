use Rattle.std.proofs.Common.{◌++◌, ◌∷◌, [], ℕ, List, drop, get_or, ap, sym, ◌∙◌}
use Rattle.std.specs.Prelude.{Some, None, codes}
use Rattle.std.proofs.lemmas.Bool.{ne_eqb}
use Rattle.std.proofs.lemmas.Bool.Decides.{Decides-eqb}
use Rattle.std.proofs.lemmas.List.{take_rest}
use Rattle.std.proofs.lemmas.Slice.Eq.{strip_prefix_is}
use Rattle.tau_commands.proofs.Cutting.{other_line, line_whole, line_ended, line_longer, begins_line}
use Rattle.tau_commands.proofs.cut.after_report.Goals as goal

pub returns-in_default : goal.returns-in_default
returns-in_default c =
    let t = c.args.text.now in
    other_line t (λ rest e. strip_prefix_is Decides-eqb t c.as_slice.result.now None c.in_default.ensures.cases rest (e ∙ ap (λ (w : List ℕ). w ++ rest) (sym c.as_slice.ensures)))

pub returns-then-after-eq0 : goal.returns-then-after-eq0
returns-then-after-eq0 c =
    let t = c.args.text.now in
    let front = strip_prefix_is Decides-eqb t c.as_slice.result.now (Some c.in-Some.after) c.in-Some.ensures.cases ∙ ap (λ (w : List ℕ). w ++ c.in-Some.after.now) c.as_slice.ensures in
    line_whole t c.in-Some.after.now front c.if-after-eq0.true

pub returns-then-after-ne10 : goal.returns-then-after-ne10
returns-then-after-ne10 c =
    let t = c.args.text.now in
    let more = c.in-Some.after.now in
    let front = strip_prefix_is Decides-eqb t c.as_slice.result.now (Some c.in-Some.after) c.in-Some.ensures.cases ∙ ap (λ (w : List ℕ). w ++ more) c.as_slice.ensures in
    line_longer t (get_or more 0 0) (drop 1 more) (front ∙ ap (λ (l : List ℕ). codes "report" ++ l) (begins_line more c.if-after-eq0.false)) (ne_eqb (get_or more 0 0) 10 c.if-after-ne10.true)

pub returns : goal.returns
returns c =
    let t = c.args.text.now in
    let more = c.in-Some.after.now in
    let front = strip_prefix_is Decides-eqb t c.as_slice.result.now (Some c.in-Some.after) c.in-Some.ensures.cases ∙ ap (λ (w : List ℕ). w ++ more) c.as_slice.ensures in
    let first = begins_line more c.if-after-eq0.false ∙ ap (λ (b : ℕ). b ∷ drop 1 more) c.if-after-ne10.false in
    line_ended t (drop 1 more) (front ∙ ap (λ (l : List ℕ). codes "report" ++ l) first) ∙ ap (λ (l : List ℕ). Some ([], l)) (sym (take_rest more 1))
