use Rattle.tau_record.proofs.ItemLaws.{no_text, some_text}
use Rattle.tau_record.proofs.item.short_of.Goals as goal

pub returns-in-Err : goal.returns-in-Err
returns-in-Err c = no_text c.args.bytes.now c.in-Err.ensures.cases.0

pub returns-in-Ok : goal.returns-in-Ok
returns-in-Ok c = some_text c.of.result c.args.bytes.now c.in-Ok.ensures.cases.1 (c.of.ensures.fits.1 (rw c.in-Ok.ensures.cases.0 c.requires)) (rw c.in-Ok.ensures.cases.0 at c.of.ensures.same)
