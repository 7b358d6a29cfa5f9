-- The report that was read, or the first bad line.
use Rattle.std.proofs.Common.{ℕ, ◌≡◌, ◌==◌, List, [], ◌++◌, length, sym, ap, subst, ◌∙◌, arith, rules}
use Rattle.std.proofs.lemmas.Bool.{both_ways}
use Rattle.std.proofs.lemmas.List.{append-nil}
use Rattle.tau_base.specs.declared.value.Key.{Key}
use Rattle.tau_base.specs.declared.value.Value.{Value}
use Rattle.tau_report.specs.Lines.{ack_line, row_line, end_line}
use Rattle.tau_inspect.specs.Sections.{AcksFit, AreAcks, AreRows, RowsFit, Stops}
use Rattle.tau_inspect.proofs.FirstBad.{told_refused, no_end_refused, more_refused}
use Rattle.tau_inspect.proofs.ReadSections.{empty_is, report_told}
use Rattle.tau_inspect.proofs.sections.read_report.Goals as goal

pub returns-then-len-calls : goal.returns-then-len-calls
returns-then-len-calls c =
    let acked = subst (λ (n : ℕ). AreAcks c.args.calls n c.args.text.now c.read_acks.new.acks c.in_ok-rest.rest.now) c.from.ensures c.in_ok-rest.ensures.told in
    let stops = subst (λ (n : ℕ). Stops ack_line (AcksFit c.args.calls n) 97 c.read_acks.new.acks c.in_ok-rest.rest.now) c.from.ensures c.in_ok-rest.ensures.stops in
    told_refused c.args.declarations.now.tables c.args.streams c.args.calls c.args.text.now c.in_ok-rest.rest.now c.in_ok-rest-2.rest.now c.read_acks.new.acks c.read_fates.new.fates acked stops c.in_ok-rest-2.ensures.told c.in_ok-rest-2.ensures.stops
    (omega (arith, c.if-len-calls.true, c.len.ensures)) c.bad_after.result c.bad_after.ensures

pub returns-in-None : goal.returns-in-None
returns-in-None c =
    let acked = subst (λ (n : ℕ). AreAcks c.args.calls n c.args.text.now c.read_acks.new.acks c.in_ok-rest.rest.now) c.from.ensures c.in_ok-rest.ensures.told in
    let stops = subst (λ (n : ℕ). Stops ack_line (AcksFit c.args.calls n) 97 c.read_acks.new.acks c.in_ok-rest.rest.now) c.from.ensures c.in_ok-rest.ensures.stops in
    let all : length c.read_fates.new.fates ≡ c.args.calls = omega (arith, c.if-len-calls.false, c.len.ensures, c.in_ok-rest-2.ensures.few) in
    let rowed = subst (λ (ts : List (List ℕ)). AreRows ts c.in_ok-rest-3.rest.now c.read_rows.new.rows.items c.in_ok-rest-4.rest.now) c.as_slice.ensures c.in_ok-rest-4.ensures.told in
    let row_stops = subst (λ (ts : List (List ℕ)). Stops (row_line ts) (RowsFit (length ts)) 114 c.read_rows.new.rows.items c.in_ok-rest-4.rest.now) c.as_slice.ensures c.in_ok-rest-4.ensures.stops in
    let none = rw c.in-None.is at c.in_ok-after_end.ensures in
    no_end_refused c.args.declarations.now.tables c.args.streams c.args.calls c.args.text.now c.in_ok-rest.rest.now c.in_ok-rest-2.rest.now c.read_acks.new.acks c.read_fates.new.fates acked stops c.in_ok-rest-2.ensures.told c.in_ok-rest-2.ensures.stops
    c.in_ok-rest-3.rest.now c.in_ok-rest-4.rest.now c.read_orders.new.order c.read_rows.new.rows.items all c.in_ok-rest-3.ensures.told c.in_ok-rest-3.ensures.stops rowed row_stops none (search rules) c.bad_after-in-None.result c.bad_after-in-None.ensures

pub returns-then-not-is_empty : goal.returns-then-not-is_empty
returns-then-not-is_empty c =
    let acked = subst (λ (n : ℕ). AreAcks c.args.calls n c.args.text.now c.read_acks.new.acks c.in_ok-rest.rest.now) c.from.ensures c.in_ok-rest.ensures.told in
    let stops = subst (λ (n : ℕ). Stops ack_line (AcksFit c.args.calls n) 97 c.read_acks.new.acks c.in_ok-rest.rest.now) c.from.ensures c.in_ok-rest.ensures.stops in
    let all : length c.read_fates.new.fates ≡ c.args.calls = omega (arith, c.if-len-calls.false, c.len.ensures, c.in_ok-rest-2.ensures.few) in
    let rowed = subst (λ (ts : List (List ℕ)). AreRows ts c.in_ok-rest-3.rest.now c.read_rows.new.rows.items c.in_ok-rest-4.rest.now) c.as_slice.ensures c.in_ok-rest-4.ensures.told in
    let row_stops = subst (λ (ts : List (List ℕ)). Stops (row_line ts) (RowsFit (length ts)) 114 c.read_rows.new.rows.items c.in_ok-rest-4.rest.now) c.as_slice.ensures c.in_ok-rest-4.ensures.stops in
    let end = rw c.in-Some.is at c.in_ok-after_end.ensures in
    let some : c.in-Some.more.now ≡ [] → ⊥ = λ e. both_ways c.is_empty.result c.if-not-is_empty.true (c.is_empty.ensures ∙ ap (λ (l : List ℕ). length l == 0) e) in
    more_refused c.args.declarations.now.tables c.args.streams c.args.calls c.args.text.now c.in_ok-rest.rest.now c.in_ok-rest-2.rest.now c.read_acks.new.acks c.read_fates.new.fates acked stops c.in_ok-rest-2.ensures.told c.in_ok-rest-2.ensures.stops
    c.in_ok-rest-3.rest.now c.in_ok-rest-4.rest.now c.read_orders.new.order c.read_rows.new.rows.items all c.in_ok-rest-3.ensures.told c.in_ok-rest-3.ensures.stops rowed row_stops end.0 end.1 c.in-Some.more.now (search rules) end.2 some
    c.bad_after-then-not-is_empty.result c.bad_after-then-not-is_empty.ensures

pub returns : goal.returns
returns c =
    let acked = subst (λ (n : ℕ). AreAcks c.args.calls n c.args.text.now c.read_acks.new.acks c.in_ok-rest.rest.now) c.from.ensures c.in_ok-rest.ensures.told in
    let all : length c.read_fates.new.fates ≡ c.args.calls = omega (arith, c.if-len-calls.false, c.len.ensures, c.in_ok-rest-2.ensures.few) in
    let rowed = subst (λ (ts : List (List ℕ)). AreRows ts c.in_ok-rest-3.rest.now c.read_rows.new.rows.items c.in_ok-rest-4.rest.now) c.as_slice.ensures c.in_ok-rest-4.ensures.told in
    let rows = subst (λ (l : List (Key × Value)). AreRows c.args.declarations.now.tables c.in_ok-rest-3.rest.now l c.in_ok-rest-4.rest.now) (sym c.of.ensures) rowed in
    let end = rw c.in-Some.is at c.in_ok-after_end.ensures in
    let none : c.in-Some.more.now ≡ [] = empty_is c.in-Some.more.now c.is_empty.result c.is_empty.ensures c.if-not-is_empty.false in
    report_told c.args.declarations.now.tables c.args.streams c.args.calls c.args.text.now (record { acks = c.read_acks.new.acks; fates = c.read_fates.new.fates; order = c.read_orders.new.order; tables = c.of.result })
    c.in_ok-rest.rest.now c.in_ok-rest-2.rest.now c.in_ok-rest-3.rest.now c.in_ok-rest-4.rest.now acked all c.in_ok-rest-2.ensures.told c.in_ok-rest-3.ensures.told rows
    (end.0, end.1, end.2 ∙ ap (λ (l : List ℕ). end_line end.0 ++ l) none ∙ append-nil (end_line end.0))
