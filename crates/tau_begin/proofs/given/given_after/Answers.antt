use Rattle.std.proofs.Common.{◌≡◌, ◌++◌, [], ◌∙◌, List, ℕ, ap, sym, length, arith, length-append}
use Rattle.tau_stream.specs.Stream.{catalogue_record}
use Rattle.tau_begin.proofs.Giving.{given_empty}
use Rattle.tau_begin.proofs.given.given_after.Goals as goal

pub returns-clause-is : goal.returns-clause-is
returns-clause-is c =
    let none : length c.args.content.now ≡ 0 = omega (arith, c.if-content-gt0.false) in
    c.in_ok-extend_from_slice.ensures.items
    ∙ ap (λ (xs : List ℕ). xs ++ c.deref.result.now) (c.in_ok-body.ensures 1 []).text
    ∙ ap (λ (xs : List ℕ). catalogue_record c.args.text.now ++ xs) (c.deref.ensures.value ∙ c.in_ok-marks.ensures.is)
    ∙ sym (given_empty c.args.text.now c.args.content.now c.args.elv.now c.args.epoch none)

pub returns-clause-body : goal.returns-clause-body
returns-clause-body c fresh =
    let whole : length c.extend_from_slice.new.self.items ≡ length (catalogue_record c.args.text.now ++ c.deref.result.now) =
    ap (λ (xs : List ℕ). length xs) (c.in_ok-extend_from_slice.ensures.items ∙ ap (λ (xs : List ℕ). xs ++ c.deref.result.now) (c.in_ok-body.ensures 1 []).text) in
    let parts = length-append (catalogue_record c.args.text.now) c.deref.result.now in
    let marks : length c.deref.result.now ≡ length c.in_ok-marks.marks.items = ap (λ (xs : List ℕ). length xs) c.deref.ensures.value in
    let long = c.in_ok-marks.ensures.long in
    let short = c.requires in
    (record { some = omega (arith, whole, parts); most = omega (arith, whole, parts, marks, long, short) }, omega (arith, whole, parts))
