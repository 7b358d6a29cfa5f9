-- What the row says.
use Rattle.std.proofs.Common.{ap}
use Rattle.tau_pool.specs.Item.{Item}
use Rattle.tau_pool.proofs.Flat.{stands}
use Rattle.tau_pool.proofs.items.Items.stream.Goals as goal

pub returns : goal.returns
returns c x there =
    let ps = c.self.inside.positions.items in
    let s = stands c.args.self.now ps c.self.inside.rows.items c.args.place c.index.result.now c.self.view_is c.self.invariant c.requires c.index.ensures in
    ap (λ (q : Item). q.stream) (s.is x there)
