-- A number that is known stays with its vector.
use Rattle.std.proofs.Common.{◌∙◌, sym, ap}
use Rattle.std.specs.Prelude.{Err}
use Rattle.tau_epoch.specs.declared.EpochRefusal.{EpochRefusal}
use Rattle.tau_epoch.proofs.Marks.{with_known}
use Rattle.tau_scan.proofs.judge.know_vector.Goals as goal

pub returns-in-Err-Differs : goal.returns-in-Err-Differs
returns-in-Err-Differs c =
    let there = (c.in-Err-Differs.ensures.differs c.in-Err-Differs.field-0-0).0 (ap (λ (e : EpochRefusal). Err e) c.in-Err-Differs.field-0-is) in
    c.in-Err-Differs.ensures.unchanged ∙ sym (with_known _ c.in-Err-Differs.field-0-0 c.args.known.now there.0)
