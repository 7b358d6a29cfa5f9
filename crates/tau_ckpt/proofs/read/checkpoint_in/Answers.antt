use Rattle.std.proofs.Common.{◌≡◌, ◌∙◌, [], List, ℕ, length, sym, ap, subst, arith, true}
use Rattle.std.specs.Prelude.{◌==◌}
use Rattle.std.proofs.lemmas.Bool.{eqb-true}
use Rattle.std.specs.List.{list_all}
use Rattle.tau_base.proofs.Lists.{empty_of_length}
use Rattle.tau_base.proofs.Logic.{not_both}
use Rattle.tau_model.specs.Tables.{is_present}
use Rattle.tau_record.specs.Rows.{IsRead}
use Rattle.tau_base.specs.declared.value.Key.{Key}
use Rattle.tau_base.specs.declared.value.Value.{Value}
use Rattle.tau_ckpt.specs.Slot.{IsBody}
use Rattle.tau_ckpt.proofs.Parts.{begins_of, body_made, left_none, none_then, number_same, present_too, rows_here, some_then}
use Rattle.tau_ckpt.proofs.read.checkpoint_in.Goals as goal

pub returns-in_default-clause-none : goal.returns-in_default-clause-none
returns-in_default-clause-none c = λ d is. c.in_default.ensures.none _ _ (begins_of c.args.streams c.args.body.now d is)

pub returns-then-head-lt1-clause-none : goal.returns-then-head-lt1-clause-none
returns-then-head-lt1-clause-none c = λ d is.
    omega (arith, number_same c.args.streams c.args.body.now c.in-Some.head c.in-Some.rest.now c.in-Some.ensures.some d is, is.fits.low, c.if-head-lt1.true)

pub returns-then-head-gt-MAX_NUMBER-clause-none : goal.returns-then-head-gt-MAX_NUMBER-clause-none
returns-then-head-gt-MAX_NUMBER-clause-none c = λ d is.
    omega (arith, number_same c.args.streams c.args.body.now c.in-Some.head c.in-Some.rest.now c.in-Some.ensures.some d is, is.fits.high, c.if-head-gt-MAX_NUMBER.true)

pub returns-in_default-2-clause-none : goal.returns-in_default-2-clause-none
returns-in_default-2-clause-none c = λ d is.
    none_then _ _ c.in_default-2.is c.in_ok-rows.ensures.none d.rows [] (rows_here c.args.streams c.args.body.now c.in-Some.head c.in-Some.rest.now c.in-Some.ensures.some d is)

pub returns-then-not-is_empty-clause-none : goal.returns-then-not-is_empty-clause-none
returns-then-not-is_empty-clause-none c = λ d is.
    let read : IsRead c.in-Some.head.count c.in-Some.rest.now c.in-Some-2.rows.items c.in-Some-2.left.now = some_then _ _ _ c.in-Some-2.is c.in_ok-rows.ensures.rows in
    let none = left_none c.args.streams c.args.body.now c.in-Some.head c.in-Some.rest.now c.in-Some.ensures.some d is c.in-Some-2.rows.items c.in-Some-2.left.now read in
    not_both c.is_empty.result c.if-not-is_empty.true (c.is_empty.ensures ∙ ap (λ (l : List ℕ). length l == 0) none)

pub returns-then-not-are_present-clause-none : goal.returns-then-not-are_present-clause-none
returns-then-not-are_present-clause-none c = λ d is.
    let read : IsRead c.in-Some.head.count c.in-Some.rest.now c.in-Some-2.rows.items c.in-Some-2.left.now = some_then _ _ _ c.in-Some-2.is c.in_ok-rows.ensures.rows in
    let all = present_too c.args.streams c.args.body.now c.in-Some.head c.in-Some.rest.now c.in-Some.ensures.some d is c.in-Some-2.rows.items c.in-Some-2.left.now read in
    not_both c.are_present.result c.if-not-are_present.true (c.are_present.ensures ∙ ap (list_all is_present) c.deref.ensures.value ∙ all)

pub returns-clause-some : goal.returns-clause-some
returns-clause-some c =
    let read : IsRead c.in-Some.head.count c.in-Some.rest.now c.in-Some-2.rows.items c.in-Some-2.left.now = some_then _ _ _ c.in-Some-2.is c.in_ok-rows.ensures.rows in
    let present : list_all is_present c.in-Some-2.rows.items ≡ true = sym (c.are_present.ensures ∙ ap (list_all is_present) c.deref.ensures.value) ∙ c.if-not-are_present.false in
    let none : c.in-Some-2.left.now ≡ [] = empty_of_length c.in-Some-2.left.now (eqb-true (length c.in-Some-2.left.now) 0 (sym c.is_empty.ensures ∙ c.if-not-is_empty.false)) in
    let body = body_made c.args.streams c.args.body.now c.in-Some.head c.in-Some.rest.now c.in-Some.ensures.some c.in-Some-2.rows.items c.in-Some-2.left.now read none present
    (omega (arith, c.if-head-lt1.false)) c.if-head-gt-MAX_NUMBER.false c.requires.low c.requires.high c.requires.short in
    subst (λ (rows : List (Key × Value)). IsBody c.args.streams c.args.body.now (record { number = c.in-Some.head.number; epoch = c.in-Some.head.epoch; lv = c.in-Some.head.lv; rows = rows })) (sym c.of.ensures) body
