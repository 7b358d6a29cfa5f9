-- The record of a call that writes, or the acknowledgement of one that only reads.
use Rattle.std.proofs.Common.{ℕ, true, false, ◌≡◌, Bool, List, length, map, sym, ap, subst, ◌∙◌, arith}
use Rattle.std.specs.Prelude.{Some, slice_get}
use Rattle.std.proofs.lemmas.Option.{slice_get_within}
use Rattle.std.proofs.lemmas.List.{length-map}
use Rattle.tau_model.specs.History.{updating}
use Rattle.tau_inspect.specs.Audit.{has_ack, vector_in}
use Rattle.tau_inspect.specs.Cases.{in_case}
use Rattle.tau_inspect.specs.Walks.{IsFor, Reads, Step}
use Rattle.tau_inspect.proofs.Acts.{in_get}
use Rattle.tau_inspect.proofs.Checked.{any_mapped}
use Rattle.tau_inspect.proofs.Due.{named_ack, vector_there}
use Rattle.tau_inspect.proofs.Steps.{some_writes, no_writes}
use Rattle.tau_inspect.proofs.walk.pass_call.Goals as goal

pub returns-then-writes-gt0 : goal.returns-then-writes-gt0
returns-then-writes-gt0 c =
    let up : updating c.args.writes.now ≡ true = some_writes c.args.writes.now (omega (arith, c.if-writes-gt0.true)) in
    λ t. subst (λ (b : Bool). Step c.args.all.now c.args.acks.now c.args.case.now.log.now.elv (IsFor (in_case c.args.case.now) c.args.number c.args.writes.now) b c.args.number c.args.walk.now c.pass_writer.new.walk) (sym up) (c.pass_writer.ensures t)

pub ack_at-requires : goal.ack_at-requires
ack_at-requires c =
    let numbers : List ℕ = map (λ (a : ℕ × List ℕ). a.0) c.args.case.now.report.now.acks in
    let at = c.in-Some.ensures.some (length c.args.case.now.load.now.calls) numbers c.requires.acks_placed in
    omega (arith, slice_get_within numbers c.in-Some.index c.args.number at, length-map c.args.case.now.report.now.acks (λ (a : ℕ × List ℕ). a.0), ap length c.requires.acks)

pub returns-in-Some : goal.returns-in-Some
returns-in-Some c =
    let acks = c.args.case.now.report.now.acks in let number = c.args.number in let i = c.in-Some.index in
    let numbers : List ℕ = map (λ (a : ℕ × List ℕ). a.0) acks in
    let at : slice_get numbers i ≡ Some number = c.in-Some.ensures.some (length c.args.case.now.load.now.calls) numbers c.requires.acks_placed in
    let one : ℕ × List ℕ = c.ack_at.result.now in
    let got : slice_get acks i ≡ Some one = ap (λ (l : List (ℕ × List ℕ)). slice_get l i) (sym c.requires.acks) ∙ c.ack_at.ensures in
    let vector : vector_in number acks ≡ one.1 = vector_there acks i number one c.requires.acked_once got (named_ack acks i number one at got) in
    let there : has_ack number acks ≡ true = any_mapped number acks ∙ in_get number numbers i at in
    let up : updating c.args.writes.now ≡ false = no_writes c.args.writes.now (omega (arith, c.if-writes-gt0.false)) in
    λ t. subst (λ (b : Bool). Step c.args.all.now c.args.acks.now c.args.case.now.log.now.elv (IsFor (in_case c.args.case.now) number c.args.writes.now) b number c.args.walk.now c.pass_reader.new.walk) (sym up)
    (subst (λ (as' : List (ℕ × List ℕ)). Reads (vector_in number as') number c.args.walk.now c.pass_reader.new.walk × (has_ack number as' ≡ true)) (sym c.requires.acks)
    (subst (λ (v : List ℕ). Reads v number c.args.walk.now c.pass_reader.new.walk) (c.lv.ensures ∙ sym vector) (c.pass_reader.ensures t), there))
