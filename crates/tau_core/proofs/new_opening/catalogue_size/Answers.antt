use Rattle.std.proofs.Common.{◌≡◌, [], length, ap, ◌∙◌, arith}
use Rattle.tau_text.specs.Canonical.{declarations_text}
use Rattle.tau_core.specs.Opens.{catalogue_size}
use Rattle.tau_core.proofs.new_opening.catalogue_size.Goals as goal

pub returns-clause-same : goal.returns-clause-same
returns-clause-same c =
    let size : length c.in_ok-record.record.items ≡ catalogue_size (declarations_text c.args.declarations.now) =
    ap length (c.in_ok-record.ensures 1 []).text ∙ ap catalogue_size (c.as_slice.ensures.value ∙ c.in_ok-text.ensures) in
    omega (arith, c.len.ensures, size)

pub returns-clause-small : goal.returns-clause-small
returns-clause-small c =
    let size : length c.in_ok-record.record.items ≡ catalogue_size (declarations_text c.args.declarations.now) =
    ap length (c.in_ok-record.ensures 1 []).text ∙ ap catalogue_size (c.as_slice.ensures.value ∙ c.in_ok-text.ensures) in
    omega (arith, c.len.ensures, size, c.requires)
