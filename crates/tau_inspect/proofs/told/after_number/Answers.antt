-- The number, then a space.
use Rattle.std.proofs.Common.{ℕ, List, [], ◌∷◌, ◌++◌, ◌≡◌, sym, ap, ◌∙◌, decimal, Bor}
use Rattle.std.proofs.lemmas.List.{append_cancel_left}
use Rattle.tau_inspect.proofs.ReadLines.{match_then}
use Rattle.tau_inspect.proofs.told.after_number.Goals as goal

pub returns-in-Some : goal.returns-in-Some
returns-in-Some c =
    let d = decimal c.args.number in
    let is : c.args.text.now ≡ d ++ c.in-Some.rest.now = c.in-Some.ensures ∙ ap (λ (l : List ℕ). l ++ c.in-Some.rest.now) (c.as_bytes.ensures.value ∙ c.format.ensures.text) in
    match_then ((r : List ℕ) → c.in-Some.rest.now ≡ (32 ∷ []) ++ r → ⊥) ((r : List ℕ) → c.args.text.now ≡ d ++ 32 ∷ r → ⊥) (λ (r : Bor (List ℕ)). c.in-Some.rest.now ≡ (32 ∷ []) ++ r.now) (λ (r : Bor (List ℕ)). c.args.text.now ≡ d ++ 32 ∷ r.now) c.after-in-Some.result
    (λ none r e. none r (append_cancel_left d c.in-Some.rest.now (32 ∷ r) (sym is ∙ e))) (λ r e. is ∙ ap (λ (l : List ℕ). d ++ l) e) c.after-in-Some.ensures
