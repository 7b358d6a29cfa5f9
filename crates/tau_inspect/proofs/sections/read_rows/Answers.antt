-- One more row, above the last.
use Rattle.std.proofs.Common.{List, refl, sym, subst}
use Rattle.tau_base.specs.declared.value.Key.{Key}
use Rattle.tau_base.specs.declared.value.Value.{Value}
use Rattle.tau_inspect.specs.Sections.{AreRows, IsAbove}
use Rattle.tau_inspect.proofs.Leaving.{rows_below, rows_lack, rows_stop}
use Rattle.tau_inspect.proofs.ReadSections.{row_more, no_rows}
use Rattle.tau_inspect.proofs.sections.read_rows.Goals as goal

pub lines-init : goal.lines-init
lines-init c = subst (λ (l : List (Key × Value)). AreRows c.args.tables.now c.args.text.now l c.args.text.now) (sym c.requires.none) (no_rows c.args.tables.now c.args.text.now)

pub returns-in-None-clause-stops : goal.returns-in-None-clause-stops
returns-in-None-clause-stops c = rows_lack c.args.tables.now c.requires.names c.args.text.now c.lines.rows.items c.lines.rest.now c.lines.invariant c.in-None.ensures

pub returns-in-None-2-clause-stops : goal.returns-in-None-2-clause-stops
returns-in-None-2-clause-stops c =
    rows_stop c.args.tables.now c.requires.names c.args.text.now c.lines.rows.items c.lines.rest.now c.lines.invariant c.in-Some.line.now c.in-Some.following.now c.in-Some.ensures (rw c.in-None-2.is at c.in_ok-read_row-in-Some.ensures)

pub returns-then-not-is_above-clause-stops : goal.returns-then-not-is_above-clause-stops
returns-then-not-is_above-clause-stops c =
    let read = rw c.in-Some-2.is at c.in_ok-read_row-in-Some.ensures in
    let low = rw c.as_slice.ensures.value at c.if-not-is_above.ensures.below refl in
    rows_below c.args.tables.now c.requires.names c.args.text.now c.lines.rows.items c.lines.rest.now c.lines.invariant c.in-Some.line.now c.in-Some.following.now c.in-Some.ensures c.in-Some-2.row read.0 read.1 low

pub lines-preserved : goal.lines-preserved
lines-preserved c =
    let rows : List (Key × Value) = c.lines.rows.items in
    let row = c.in-Some-2.row in
    let read = rw c.in-Some-2.is at c.in_ok-read_row-in-Some.ensures in
    let above : IsAbove rows row.0 = subst (λ (l : List (Key × Value)). IsAbove l row.0) c.as_slice.ensures.value (c.if-not-is_above.ensures.above refl) in
    subst (λ (l : List (Key × Value)). AreRows c.args.tables.now c.args.text.now l c.in-Some.following.now) (sym c.in_ok-push-in-Some-2.ensures.items)
    (row_more c.args.tables.now c.args.text.now rows c.lines.rest.now c.in-Some.line.now c.in-Some.following.now row c.lines.invariant c.in-Some.ensures read.0 read.1 above)
