-- What the row says.
use Rattle.std.proofs.Common.{◌∙◌, ap}
use Rattle.tau_pool.specs.Item.{Item}
use Rattle.tau_pool.specs.Items.{is_left}
use Rattle.tau_pool.proofs.Flat.{stands}
use Rattle.tau_pool.proofs.items.Items.is_left.Goals as goal

pub returns : goal.returns
returns c x there =
    let ps = c.self.inside.positions.items in
    let s = stands c.args.self.now ps c.self.inside.rows.items c.args.place c.index.result.now c.self.view_is c.self.invariant c.requires c.index.ensures in
    c.is_left.ensures ∙ ap (λ (q : Item). is_left q.stage) (s.is x there)
