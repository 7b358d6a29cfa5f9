-- The key that stands there is compared.
use Rattle.std.proofs.Common.{Some, sym, ap, ◌∙◌}
use Rattle.tau_base.specs.declared.value.Key.{Key}
use Rattle.tau_model.proofs.Contents.{is_key_is}
use Rattle.tau_model.proofs.rows.Rows.is_at.Goals as goal

pub returns-in-Some : goal.returns-in-Some
returns-in-Some c = λ e.
    (c.in-Some.field-0-1.now, sym c.in-Some.ensures.entry ∙ ap (λ (k : Key). Some (k, c.in-Some.field-0-1.now)) (is_key_is c.in-Some.found.now c.args.key (sym c.eq.ensures ∙ e)))
