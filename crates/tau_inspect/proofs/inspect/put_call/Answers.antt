-- The words of the line, one after the other.
use Rattle.std.proofs.Common.{List, ◌++◌, ◌∷◌, [], ℕ, ap, ◌∙◌, decimal}
use Rattle.tau_report.specs.Lines.{vector_text}
use Rattle.tau_inspect.specs.Inspection.{judged_words, lowest_uncovered}
use Rattle.tau_inspect.specs.Spaced.{spaced}
use Rattle.tau_inspect.proofs.Inspected.{call_put}
use Rattle.tau_inspect.proofs.inspect.put_call.Goals as goal

pub returns : goal.returns
returns c =
    let p = c.args.placed.now in let judge = c.args.judge.now in let dep = c.args.dep.now in
    let n = decimal c.args.number in let v = vector_text dep in let js = judged_words (lowest_uncovered judge dep) in
    call_put c.args.out.now.items c.args.word.now (decimal c.args.stream) (decimal p.start) (decimal p.past) n v js c.push.new.self.items
    (c.in_ok-push.ensures.items ∙ ap (λ (l : List ℕ). l ++ 10 ∷ []) (c.in_ok-put_judged.ensures ∙ ap (λ (l : List ℕ). l ++ spaced js) (c.in_ok-next_positions.ensures ∙ ap (λ (l : List ℕ). l ++ 32 ∷ v) (c.in_ok-next_number.ensures ∙ ap (λ (l : List ℕ). l ++ 32 ∷ n) c.in_ok-put_place.ensures))))
