-- One call more.
use Rattle.std.proofs.Common.{ℕ, arith, ◌≡◌, ◌-◌, ◌++◌, ◌∷◌, [], List, length, take, map, get_or, sym, ap, subst, ◌∙◌}
use Rattle.std.specs.Prelude.{All, if◌then◌else◌}
use Rattle.std.proofs.lemmas.List.Elements.{All-get_or}
use Rattle.std.proofs.lemmas.List.{take_more, map-append}
use Rattle.tau_model.specs.declared.committed.Committed.{Committed}
use Rattle.tau_model.specs.History.{Act, Numbered, updates}
use Rattle.tau_scan.specs.Taken.{Kept}
use Rattle.tau_inspect.specs.Audit.{Case, acts, has_ack, has_record, records, committed_by, committed_of, nowhere, place_in, vector_in}
use Rattle.tau_inspect.specs.ByNumber.{HasPlaces}
use Rattle.tau_inspect.specs.Executed.{numbered}
use Rattle.tau_inspect.specs.Records.{IsLv, IsPlaced}
use Rattle.tau_inspect.specs.ReportFor.{IsCall}
use Rattle.tau_inspect.proofs.Acts.{get_member}
use Rattle.tau_inspect.proofs.Fitting.{acks_placed, all_placed}
use Rattle.tau_inspect.proofs.Survivals.{read_there}
use Rattle.tau_inspect.proofs.Checked.{here_at}
use Rattle.tau_inspect.proofs.Numbering.{places_again}
use Rattle.tau_inspect.specs.Cases.{in_case}
use Rattle.tau_inspect.proofs.check_order.listed.Goals as goal

pub put_call-requires-clause-acks_placed : goal.put_call-requires-clause-acks_placed
put_call-requires-clause-acks_placed c =
    subst (λ (as' : List (ℕ × List ℕ)). HasPlaces (length c.args.ack_places.now - 1) (map (λ (a : ℕ × List ℕ). a.0) as') c.args.ack_places.now) (sym c.requires.acks)
    (places_again (length c.args.case.now.load.now.calls) (map (λ (a : ℕ × List ℕ). a.0) c.args.case.now.report.now.acks) c.args.ack_places.now c.requires.acks_placed)

pub put_call-requires-clause-records_placed : goal.put_call-requires-clause-records_placed
put_call-requires-clause-records_placed c =
    subst (λ (rs : List Kept). HasPlaces (length c.args.places.now - 1) (map (λ (r : Kept). r.number) rs) c.args.places.now) (sym c.requires.all)
    (places_again (length c.args.case.now.load.now.calls) (map (λ (r : Kept). r.number) (records (in_case c.args.case.now))) c.args.places.now c.requires.records_placed)

pub put_call-requires-clause-acks_fit : goal.put_call-requires-clause-acks_fit
put_call-requires-clause-acks_fit c =
    subst (λ (as' : List (ℕ × List ℕ)). All (λ (a : ℕ × List ℕ). IsLv a.1) as') (sym c.requires.acks)
    (acks_placed (in_case c.args.case.now) c.requires.is (omega (arith, c.width-width.ensures.low, c.width-width.ensures.same)) (omega (arith, c.width-width.ensures.high, c.width-width.ensures.same)))

pub put_call-requires-clause-records_fit : goal.put_call-requires-clause-records_fit
put_call-requires-clause-records_fit c =
    subst (All IsPlaced) (sym c.requires.all) (all_placed (in_case c.args.case.now) c.requires.is (omega (arith, c.width-width.ensures.low, c.width-width.ensures.same)) (omega (arith, c.width-width.ensures.high, c.width-width.ensures.same)))

pub put_call-requires-clause-within : goal.put_call-requires-clause-within
put_call-requires-clause-within c =
    let order : List ℕ = c.args.case.now.report.now.order in let i : ℕ = c.loop-i.i in
    let call = All-get_or (IsCall (length c.args.case.now.load.now.calls)) order i 0 (omega (arith, c.len-i-end.ensures, c.loop-i-test.true, c.requires.many)) c.requires.is.report.order in
    let turn : get_or c.deref.result.now i 0 ≡ get_or order i 0 = ap (λ (l : List ℕ). get_or l i 0) c.deref.ensures in
    (omega (arith, turn, call.1, c.requires.acks_placed.long), omega (arith, turn, call.1, c.requires.records_placed.long))

pub put_call-requires-clause-told : goal.put_call-requires-clause-told
put_call-requires-clause-told c =
    let k : Case = (in_case c.args.case.now) in let i : ℕ = c.loop-i.i in let e = c.at-did.result in
    let order : List ℕ = c.args.case.now.report.now.order in
    let y : Act Numbered = record { call = numbered c.args.case.now.load.now.calls (get_or order i 0); effect = e } in
    let at = read_there k c.args.done.now c.requires.done c.requires.many i e (omega (arith, c.len-i-end.ensures, c.loop-i-test.true)) c.at-did.ensures.is in
    ap (λ (l : List ℕ). if updates e then has_record (get_or l i 0) c.args.all.now else has_ack (get_or l i 0) c.args.acks.now) c.deref.ensures
    ∙ ap (λ (rs : List Kept). if updates e then has_record (get_or order i 0) rs else has_ack (get_or order i 0) c.args.acks.now) c.requires.all
    ∙ ap (λ (as' : List (ℕ × List ℕ)). if updates e then has_record (get_or order i 0) (records k) else has_ack (get_or order i 0) as') c.requires.acks
    ∙ c.requires.whole y (get_member y (acts k) i at)

pub loop-i-preserved : goal.loop-i-preserved
loop-i-preserved c =
    let k : Case = (in_case c.args.case.now) in let i : ℕ = c.loop-i.i in let e = c.at-did.result in
    let y : Act Numbered = record { call = numbered c.args.case.now.load.now.calls (get_or c.args.case.now.report.now.order i 0); effect = e } in
    let at = read_there k c.args.done.now c.requires.done c.requires.many i e (omega (arith, c.len-i-end.ensures, c.loop-i-test.true)) c.at-did.ensures.is in
    let here = here_at (acts k) i y at in
    let f : Act Numbered → Committed = committed_of k in
    let put : ℕ → List Kept → List (ℕ × List ℕ) → List Committed = λ n rs as'. c.loop-i.list.items ++ committed_by n (updates e) (if updates e then place_in n rs else nowhere (vector_in n as')) ∷ [] in
    c.in_ok-put_call.ensures
    ∙ ap (λ (l : List ℕ). put (get_or l i 0) c.args.all.now c.args.acks.now) c.deref.ensures
    ∙ ap (λ (rs : List Kept). put (get_or c.args.case.now.report.now.order i 0) rs c.args.acks.now) c.requires.all
    ∙ ap (λ (as' : List (ℕ × List ℕ)). put (get_or c.args.case.now.report.now.order i 0) (records k) as') c.requires.acks
    ∙ ap (λ (l : List Committed). l ++ f y ∷ []) c.loop-i.invariant
    ∙ ap (λ (x : Act Numbered). map f (take i (acts k)) ++ f x ∷ []) here.1
    ∙ sym (map-append f (take i (acts k)) (get_or (acts k) i y ∷ [])) ∙ ap (map f) (sym (take_more (acts k) i y here.0))
