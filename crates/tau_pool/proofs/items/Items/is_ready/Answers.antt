-- The row is there, with its vector.
use Rattle.std.proofs.Common.{ℕ, List, ◌<◌, ◌∙◌, length, ap, sym, subst, arith}
use Rattle.std.specs.Prelude.{Some}
use Rattle.std.proofs.lemmas.Option.{slice_get_past}
use Rattle.tau_pool.specs.Passing.{is_ready_one}
use Rattle.tau_pool.specs.Flat.{item_at, IsRow}
use Rattle.tau_pool.proofs.Flat.{stands}
use Rattle.tau_pool.proofs.items.Items.is_ready.Goals as goal

pub returns-then-place-len : goal.returns-then-place-len
returns-then-place-len c = ap (is_ready_one c.args.rlv.now) (sym (slice_get_past c.args.self.now c.args.place (omega (arith, c.len.ensures))))

pub is_row_ready-requires : goal.is_row_ready-requires
is_row_ready-requires c =
    let lt : c.args.place < length c.args.self.now = omega (arith, c.len.ensures) in
    let ps = c.self.inside.positions.items in
    let s = stands c.args.self.now ps c.self.inside.rows.items c.args.place c.index.result.now c.self.view_is c.self.invariant lt c.index.ensures in
    subst (λ (xs : List ℕ). IsRow xs c.index.result.now) (sym c.deref.ensures.value) s.row

pub returns : goal.returns
returns c =
    let lt : c.args.place < length c.args.self.now = omega (arith, c.len.ensures) in
    let ps = c.self.inside.positions.items in
    let s = stands c.args.self.now ps c.self.inside.rows.items c.args.place c.index.result.now c.self.view_is c.self.invariant lt c.index.ensures in
    c.is_row_ready.ensures ∙ (λ i. is_ready_one c.args.rlv.now (Some (item_at (c.deref.ensures.value i) c.index.result.now))) ∙ ap (is_ready_one c.args.rlv.now) (sym s.there)
