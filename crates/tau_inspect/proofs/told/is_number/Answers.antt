-- It does not begin with the number.
use Rattle.std.proofs.Common.{[], ◌≡◌, refl, sym, ◌∙◌, false, decimal}
use Rattle.std.proofs.lemmas.Bool.{both_ways}
use Rattle.std.proofs.lemmas.List.{append-nil}
use Rattle.tau_inspect.proofs.told.is_number.Goals as goal

pub returns-in-None : goal.returns-in-None
returns-in-None c =
    let bytes : c.as_bytes.result.now ≡ decimal c.args.number = c.as_bytes.ensures.value ∙ c.format.ensures.text in
    ((λ t. absurd (both_ways false refl t)), (λ e. absurd (c.in-None.ensures [] (e ∙ sym bytes ∙ sym (append-nil c.as_bytes.result.now)))))
