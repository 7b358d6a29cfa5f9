-- What stands there is no row.
use Rattle.std.proofs.Common.{sym, ◌+◌, ◌∙◌}
use Rattle.tau_inspect.proofs.ReadLines.{behind_whole, keyed_absent, keyed_cut}
use Rattle.tau_inspect.proofs.told.read_keyed.Goals as goal

pub returns-in-Ok-None : goal.returns-in-Ok-None
returns-in-Ok-None c = λ a fits e.
    let none = rw c.in-Ok-None.field-0-is at c.in-Ok-None.ensures in
    none a.0 fits.0 (keyed_cut c.args.text.now a fits e c.in-Some.i c.in-Some.ensures).0

pub returns-in-Ok-None-read_value : goal.returns-in-Ok-None-read_value
returns-in-Ok-None-read_value c = λ a fits e.
    let none = rw c.in-Ok-None-read_value.field-0-is at c.in-Ok-None-read_value.ensures in
    none a.1 fits.2 ((keyed_cut c.args.text.now a fits e c.in-Some.i c.in-Some.ensures).1 ∙ sym (behind_whole (c.in-Some.i + 1) c.args.text.now))

pub returns-else-is_present : goal.returns-else-is_present
returns-else-is_present c = λ a fits e.
    let read = rw c.in-Ok-Some-read_value.field-0-is at c.in-Ok-Some-read_value.ensures in
    keyed_absent c.args.text.now a fits c.in-Some.i c.in-Ok-Some-read_value.value (sym c.if-is_present.ensures) (read.1 ∙ behind_whole (c.in-Some.i + 1) c.args.text.now)
    (keyed_cut c.args.text.now a fits e c.in-Some.i c.in-Some.ensures).1
