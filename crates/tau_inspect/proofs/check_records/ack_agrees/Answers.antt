-- The acknowledgement of the record's call, where there is one.
use Rattle.std.proofs.Common.{ℕ, false, refl, ◌≡◌, List, length, map, sym, ap, ◌∙◌, arith, rules}
use Rattle.std.specs.Prelude.{Some, slice_get}
use Rattle.std.proofs.lemmas.Option.{slice_get_within}
use Rattle.std.proofs.lemmas.List.{length-map}
use Rattle.tau_inspect.specs.ByNumber.{is_in}
use Rattle.tau_inspect.specs.Audit.{Case}
use Rattle.tau_inspect.proofs.Recorded.{no_ack, ack_iff}
use Rattle.tau_inspect.specs.Cases.{in_case}
use Rattle.tau_inspect.proofs.check_records.ack_agrees.Goals as goal

pub returns-in-None : goal.returns-in-None
returns-in-None c =
    let k : Case = (in_case c.args.case.now) in
    let numbers : List ℕ = map (λ (a : ℕ × List ℕ). a.0) c.args.case.now.report.now.acks in
    let none : is_in c.args.one.now.number numbers ≡ false = ap (λ (n : ℕ). is_in n numbers) (sym c.number.ensures) ∙ c.in-None.ensures.none (length c.args.case.now.load.now.calls) numbers c.requires.placed (omega (arith, c.requires.small, c.number.ensures)) in
    (λ t. no_ack k c.requires.unique c.args.one.now none, λ h. refl)

pub ack_at-requires : goal.ack_at-requires
ack_at-requires c =
    let numbers : List ℕ = map (λ (a : ℕ × List ℕ). a.0) c.args.case.now.report.now.acks in
    let at = c.in-Some.ensures.some (length c.args.case.now.load.now.calls) numbers c.requires.placed in
    omega (arith, slice_get_within numbers c.in-Some.index c.number.result at, length-map c.args.case.now.report.now.acks (λ (a : ℕ × List ℕ). a.0), ap length c.requires.acks)

pub returns-in-Some : goal.returns-in-Some
returns-in-Some c =
    let k : Case = (in_case c.args.case.now) in
    let numbers : List ℕ = map (λ (a : ℕ × List ℕ). a.0) c.args.case.now.report.now.acks in
    let at : slice_get numbers c.in-Some.index ≡ Some c.args.one.now.number = c.in-Some.ensures.some (length c.args.case.now.load.now.calls) numbers c.requires.placed ∙ ap (λ (n : ℕ). Some n) c.number.ensures in
    ack_iff k c.requires.unique c.args.one.now c.in-Some.index c.ack_at.result.now at (ap (λ (l : List (ℕ × List ℕ)). slice_get l c.in-Some.index) (sym c.requires.acks) ∙ c.ack_at.ensures) c.has_vector.result (search rules)
