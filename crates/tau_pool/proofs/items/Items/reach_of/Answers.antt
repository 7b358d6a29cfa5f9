-- The record is of the stream, or of another.
use Rattle.std.proofs.Common.{◌<◌, ◌∙◌, length, ap, sym, arith}
use Rattle.tau_pool.specs.First.{reach_one}
use Rattle.tau_pool.specs.Flat.{item_at}
use Rattle.tau_pool.proofs.Flat.{stands}
use Rattle.tau_pool.proofs.Firsts.{reach_other}
use Rattle.tau_pool.proofs.items.Items.reach_of.Goals as goal

pub returns-then-row-j-clause-small : goal.returns-then-row-j-clause-small
returns-then-row-j-clause-small c =
    let lt : c.args.place < length c.args.self.now = omega (arith, c.len.ensures) in
    let ps = c.self.inside.positions.items in
    let s = stands c.args.self.now ps c.self.inside.rows.items c.args.place c.index-row.result.now c.self.view_is c.self.invariant lt c.index-row.ensures in
    c.requires c.args.place (item_at ps c.index-row.result.now) s.there c.if-row-j.true

pub returns-else-row-j-clause-same : goal.returns-else-row-j-clause-same
returns-else-row-j-clause-same c =
    let lt : c.args.place < length c.args.self.now = omega (arith, c.len.ensures) in
    let ps = c.self.inside.positions.items in
    let s = stands c.args.self.now ps c.self.inside.rows.items c.args.place c.index-row.result.now c.self.view_is c.self.invariant lt c.index-row.ensures in
    sym (ap (reach_one c.args.j c.args.end) s.there ∙ reach_other c.args.j c.args.end (item_at ps c.index-row.result.now) c.if-row-j.false)
