-- The vector of the row is read where it stands.
use Rattle.std.proofs.Common.{ℕ, List, ◌∙◌, ap, sym, subst, slice_index}
use Rattle.tau_pool.specs.Item.{Item}
use Rattle.tau_pool.specs.Flat.{vector_of, IsRow}
use Rattle.tau_pool.proofs.Flat.{stands}
use Rattle.tau_pool.proofs.items.Items.position.Goals as goal

pub vector-requires : goal.vector-requires
vector-requires c =
    let ps = c.self.inside.positions.items in
    let s = stands c.args.self.now ps c.self.inside.rows.items c.args.place c.index.result.now c.self.view_is c.self.invariant c.requires c.index.ensures in
    subst (λ (xs : List ℕ). IsRow xs c.index.result.now) (sym c.deref.ensures.value) s.row

pub returns : goal.returns
returns c x there =
    let ps = c.self.inside.positions.items in
    let s = stands c.args.self.now ps c.self.inside.rows.items c.args.place c.index.result.now c.self.view_is c.self.invariant c.requires c.index.ensures in
    c.position.ensures ∙ ap (λ (xs : List ℕ). slice_index xs c.args.k) c.vector.ensures ∙ (λ i. slice_index (vector_of (c.deref.ensures.value i) c.index.result.now) c.args.k) ∙ ap (λ (q : Item). slice_index q.dep c.args.k) (s.is x there)
