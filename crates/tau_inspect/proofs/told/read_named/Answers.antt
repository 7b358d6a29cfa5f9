-- What stands behind the word is a row, or none.
use Rattle.std.proofs.Common.{ℤ, w64, subst, sym, ◌+◌, ◌∙◌}
use Rattle.std.specs.Prelude.{length, ◌≡◌, ◌++◌, codes}
use Rattle.std.proofs.lemmas.Int.{to_z-of_z}
use Rattle.tau_inspect.proofs.Spellings.{i64_fits}
use Rattle.tau_inspect.proofs.ReadLines.{behind_whole, row_cut, row_told, row_unknown}
use Rattle.tau_inspect.specs.Bodies.{row_body}
use Rattle.tau_inspect.specs.ReportFor.{IsRow}
use Rattle.tau_inspect.proofs.told.read_named.Goals as goal

pub returns-in-Err-Cause : goal.returns-in-Err-Cause
returns-in-Err-Cause c = λ a fits e.
    let bad = rw c.in-Err-Cause.field-0-is at c.in-Err-Cause.ensures.given in
    row_unknown c.args.tables.now c.requires.names c.args.rest.now a fits e c.in-Some.i c.in-Err-Cause.field-0-0 c.in-Some.ensures bad

pub returns-in-Ok-None : goal.returns-in-Ok-None
returns-in-Ok-None c = λ a fits e.
    let none = rw c.in-Ok-None.field-0-is at c.in-Ok-None.ensures in
    none (a.0.row, a.1) (fits.whole, fits.present, fits.spelled) ((row_cut c.args.tables.now c.requires.names c.args.rest.now a fits e c.in-Some.i c.in-Some.ensures).1 ∙ sym (behind_whole (c.in-Some.i + 1) c.args.rest.now))

pub returns-in-Ok-Some : goal.returns-in-Ok-Some
returns-in-Ok-Some c =
    let read = rw c.in-Ok-Some.field-0-is at c.in-Ok-Some.ensures in
    subst (λ (z : ℤ). IsRow (length c.args.tables.now) (record { table = c.in-Ok.table; row = z }, c.in-Ok-Some.value) × (row_body c.args.tables.now (record { table = c.in-Ok.table; row = z }, c.in-Ok-Some.value) ≡ codes "row " ++ c.args.rest.now))
    (sym (to_z-of_z w64 c.in-Ok-Some.row (i64_fits c.in-Ok-Some.row read.0.0)))
    (row_told c.args.tables.now c.args.rest.now c.in-Some.i c.in-Ok.table c.in-Ok-Some.row c.in-Ok-Some.value c.in-Some.ensures c.in-Ok.ensures.given read.0 (read.1 ∙ behind_whole (c.in-Some.i + 1) c.args.rest.now))
