-- What the bytes give, judged.
use Rattle.std.proofs.Common.{ap, Err}
use Rattle.tau_record.specs.declared.fault.RecordRefusal.{RecordRefusal}
use Rattle.tau_record.proofs.ContentLaws.{content_again}
use Rattle.tau_scan.specs.Reading.{records_of}
use Rattle.tau_scan.proofs.Bad.{first_bad}
use Rattle.tau_scan.proofs.records.records_in.Goals as goal

pub returns-in-Ok-clause-same : goal.returns-in-Ok-clause-same
unfolding records_of
returns-in-Ok-clause-same c =
    let e = content_again c.args.format c.args.n c.args.content.now c.in-Ok.records.items c.requires.high c.in-Ok.ensures.found in
    rw e c.declared_ones.ensures.judged

pub returns-in-Err-Bad-clause-same : goal.returns-in-Err-Bad-clause-same
unfolding records_of
returns-in-Err-Bad-clause-same c =
    let bad = c.in-Err-Bad.ensures.bad c.in-Err-Bad.fault (ap (λ (r : RecordRefusal). Err r) c.in-Err-Bad.field-0-is) in
    let e = first_bad c.args.format c.args.n c.args.content.now c.in-Err-Bad.fault c.requires.high bad in
    rw e c.earlier.ensures
