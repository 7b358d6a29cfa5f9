-- One record stands elsewhere.
use Rattle.std.proofs.Common.{◌∙◌}
use Rattle.std.proofs.Math.ListN.{set}
use Rattle.std.proofs.lemmas.List.Elements.{All-set}
use Rattle.tau_pool.specs.Flat.{IsRow}
use Rattle.tau_pool.specs.Pooled.{staged}
use Rattle.tau_pool.proofs.Flat.{stands, items_set}
use Rattle.tau_pool.proofs.items.Items.set_stage.Goals as goal

pub invariant_of-self : goal.invariant_of-self
invariant_of-self c =
    let ps = c.self.inside.positions.items in
    let rs = c.self.inside.rows.items in
    let r = c.index_mut-row.result.now in
    let s = stands c.args.self.now ps rs c.args.place r c.self.view_is c.self.invariant c.requires c.index_mut-row.ensures.value in
    All-set (IsRow ps) rs c.args.place (record r { stage = c.args.stage }) (record { within = s.row.within }) c.self.invariant

pub returns : goal.returns
returns c x there =
    let ps = c.self.inside.positions.items in
    let rs = c.self.inside.rows.items in
    let r = c.index_mut-row.result.now in
    let s = stands c.args.self.now ps rs c.args.place r c.self.view_is c.self.invariant c.requires c.index_mut-row.ensures.value in
    let is = s.is x there in
    items_set ps rs c.args.place (record r { stage = c.args.stage }) ∙ (λ i. set (c.self.view_is i) c.args.place (staged c.args.stage (is i)))
