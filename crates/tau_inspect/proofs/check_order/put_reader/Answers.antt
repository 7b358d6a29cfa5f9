-- The acknowledgement of the number.
use Rattle.std.proofs.Common.{ℕ, ◌-◌, ◌≡◌, ◌++◌, ◌∷◌, [], List, length, map, sym, ap, subst, ◌∙◌, arith}
use Rattle.std.proofs.lemmas.Option.{slice_get_within}
use Rattle.std.proofs.lemmas.List.{length-map}
use Rattle.tau_model.specs.declared.committed.Committed.{Committed}
use Rattle.tau_inspect.specs.Audit.{vector_in}
use Rattle.tau_inspect.specs.Records.{IsLv}
use Rattle.tau_inspect.proofs.Checked.{any_mapped}
use Rattle.tau_inspect.proofs.Due.{vector_there, named_ack, on_ok, reader_put}
use Rattle.tau_inspect.proofs.Numbering.{has_place}
use Rattle.tau_inspect.proofs.Recorded.{of_all}
use Rattle.tau_inspect.proofs.check_order.put_reader.Goals as goal

pub known_index-requires-clause-there : goal.known_index-requires-clause-there
known_index-requires-clause-there c =
    has_place (length c.args.places.now - 1) c.args.number (map (λ (a : ℕ × List ℕ). a.0) c.args.acks.now) c.args.places.now c.requires.placed (omega (arith, c.requires.within)) (sym (any_mapped c.args.number c.args.acks.now) ∙ c.requires.there)

pub ack_at-requires : goal.ack_at-requires
ack_at-requires c =
    let numbers : List ℕ = map (λ (a : ℕ × List ℕ). a.0) c.args.acks.now in
    omega (arith, slice_get_within numbers c.known_index.result c.args.number (c.known_index.ensures (length c.args.places.now - 1) numbers c.requires.placed), length-map c.args.acks.now (λ (a : ℕ × List ℕ). a.0))

pub vector_of-lv-requires : goal.vector_of-lv-requires
vector_of-lv-requires c = subst IsLv (sym c.lv.ensures) (of_all (λ (a : ℕ × List ℕ). IsLv a.1) c.args.acks.now c.known_index.result c.ack_at.result.now c.requires.fits c.ack_at.ensures)

pub returns : goal.returns
returns c =
    let numbers : List ℕ = map (λ (a : ℕ × List ℕ). a.0) c.args.acks.now in
    let at = c.known_index.ensures (length c.args.places.now - 1) numbers c.requires.placed in
    let one : ℕ × List ℕ = c.ack_at.result.now in
    let named = named_ack c.args.acks.now c.known_index.result c.args.number one at c.ack_at.ensures in
    let vector : vector_in c.args.number c.args.acks.now ≡ one.1 = vector_there c.args.acks.now c.known_index.result c.args.number one c.requires.unique c.ack_at.ensures named in
    on_ok c.push.result c.push.ensures.ok (λ is.
    is ∙ ap (λ (x : Committed). c.args.list.now.items ++ x ∷ []) (reader_put c.args.number _ (vector_in c.args.number c.args.acks.now) (c.vector_of-lv.ensures ∙ c.lv.ensures ∙ sym vector)))
