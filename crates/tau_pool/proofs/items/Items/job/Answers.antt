-- What the row says, and that the list is no longer than a list can be.
use Rattle.std.proofs.Common.{◌≡◌, ◌∙◌, List, length, ap, sym, arith}
use Rattle.std.proofs.lemmas.List.{length-map}
use Rattle.tau_pool.specs.Item.{Item}
use Rattle.tau_pool.specs.Flat.{item_at}
use Rattle.tau_pool.specs.Pooled.{job_of}
use Rattle.tau_pool.proofs.Flat.{stands}
use Rattle.tau_pool.proofs.items.Items.job.Goals as goal

pub returns-clause-same : goal.returns-clause-same
returns-clause-same c x there =
    let ps = c.self.inside.positions.items in
    let s = stands c.args.self.now ps c.self.inside.rows.items c.args.place c.index-row.result.now c.self.view_is c.self.invariant c.requires c.index-row.ensures in
    ap (job_of c.args.place) (s.is x there)

pub returns-clause-few : goal.returns-clause-few
returns-clause-few c =
    let v = c.self.inside.rows in
    let long : length c.args.self.now ≡ length v.items = ap (λ (xs : List Item). length xs) (sym c.self.view_is) ∙ length-map v.items (item_at c.self.inside.positions.items) in
    omega (arith, long, v.ok)
