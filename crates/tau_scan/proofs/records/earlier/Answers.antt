-- The records before the bad one are those of the bytes before it.
use Rattle.std.proofs.Common.{◌≡◌, List, take, None, Some, refl, sym, ◌∙◌, ap}
use Rattle.tau_record.specs.declared.entry.Placed.{Placed}
use Rattle.tau_record.proofs.ContentLaws.{content_again}
use Rattle.tau_scan.specs.Reading.{undeclared}
use Rattle.tau_scan.proofs.records.earlier.Goals as goal

pub returns-in-Ok-None : goal.returns-in-Ok-None
returns-in-Ok-None c =
    let e = content_again c.args.format c.args.n (take c.args.fault.at c.args.content.now) c.in-Ok.before.items c.requires.high c.in-Ok.ensures.found in
    let u : undeclared c.in-Ok.before.items ≡ None = ap (λ (ps : List Placed). undeclared ps) (sym c.deref.ensures.value) ∙ sym c.in-Ok-None.ensures ∙ c.in-Ok-None.field-0-is in
    rw (e, u) refl

pub returns-in-Ok-Some : goal.returns-in-Ok-Some
returns-in-Ok-Some c =
    let e = content_again c.args.format c.args.n (take c.args.fault.at c.args.content.now) c.in-Ok.before.items c.requires.high c.in-Ok.ensures.found in
    let u : undeclared c.in-Ok.before.items ≡ Some c.in-Ok-Some.earlier = ap (λ (ps : List Placed). undeclared ps) (sym c.deref.ensures.value) ∙ sym c.in-Ok-Some.ensures ∙ c.in-Ok-Some.field-0-is in
    rw (e, u) refl
