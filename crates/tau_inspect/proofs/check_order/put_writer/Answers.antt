-- The record of the number.
use Rattle.std.proofs.Common.{ℕ, true, ◌-◌, ◌≡◌, ◌++◌, ◌∷◌, [], List, length, map, sym, ap, subst, ◌∙◌, arith}
use Rattle.std.proofs.lemmas.Option.{slice_get_within}
use Rattle.std.proofs.lemmas.List.{length-map}
use Rattle.tau_model.specs.declared.committed.Committed.{Committed}
use Rattle.tau_model.specs.Logged.{Place}
use Rattle.tau_scan.specs.Taken.{Kept}
use Rattle.tau_inspect.specs.Audit.{committed_by, place_in}
use Rattle.tau_inspect.specs.Records.{IsLv, IsPlaced}
use Rattle.tau_inspect.proofs.Due.{place_there, named_record, on_ok, writer_put}
use Rattle.tau_inspect.proofs.Numbering.{has_place}
use Rattle.tau_inspect.proofs.Recorded.{of_all, recorded}
use Rattle.tau_inspect.proofs.check_order.put_writer.Goals as goal

pub known_index-requires-clause-there : goal.known_index-requires-clause-there
known_index-requires-clause-there c =
    has_place (length c.args.places.now - 1) c.args.number (map (λ (r : Kept). r.number) c.args.all.now) c.args.places.now c.requires.placed (omega (arith, c.requires.within)) (sym (recorded c.args.number c.args.all.now) ∙ c.requires.there)

pub record_at-one-requires : goal.record_at-one-requires
record_at-one-requires c =
    let numbers : List ℕ = map (λ (r : Kept). r.number) c.args.all.now in
    omega (arith, slice_get_within numbers c.known_index.result c.args.number (c.known_index.ensures (length c.args.places.now - 1) numbers c.requires.placed), length-map c.args.all.now (λ (r : Kept). r.number))

pub vector_of-lv-requires : goal.vector_of-lv-requires
vector_of-lv-requires c = subst IsLv (sym c.dep.ensures.same) (of_all IsPlaced c.args.all.now c.known_index.result c.record_at-one.result.now c.requires.fits c.record_at-one.ensures).vector

pub spot_of-requires : goal.spot_of-requires
spot_of-requires c = (of_all IsPlaced c.args.all.now c.known_index.result c.record_at-one.result.now c.requires.fits c.record_at-one.ensures).stream

pub returns : goal.returns
returns c =
    let numbers : List ℕ = map (λ (r : Kept). r.number) c.args.all.now in
    let at = c.known_index.ensures (length c.args.places.now - 1) numbers c.requires.placed in
    let one : Kept = c.record_at-one.result.now in
    let named = named_record c.args.all.now c.known_index.result c.args.number one at c.record_at-one.ensures in
    let place : place_in c.args.number c.args.all.now ≡ one.place = place_there c.args.all.now c.known_index.result c.args.number one c.requires.unique c.record_at-one.ensures named in
    on_ok c.push.result c.push.ensures.ok (λ is.
    is ∙ ap (λ (x : Committed). c.args.list.now.items ++ x ∷ []) (writer_put c.args.number one.place _ c.spot_of.result (c.vector_of-lv.ensures ∙ c.dep.ensures.same) c.spot_of.ensures)
    ∙ ap (λ (p : Place). c.args.list.now.items ++ committed_by c.args.number true p ∷ []) (sym place))
