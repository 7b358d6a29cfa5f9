-- One record more.
use Rattle.std.proofs.Common.{ℕ, suc, ◌≡◌, ◌+◌, ◌∙◌, true, false, drop, ap, sym, arith}
use Rattle.tau_pool.specs.First.{first_from}
use Rattle.tau_pool.specs.Passing.{is_passed}
use Rattle.tau_pool.specs.Flat.{item_at}
use Rattle.tau_pool.proofs.Firsts.{step_first, stop_first}
use Rattle.tau_pool.proofs.Flat.{stands}
use Rattle.tau_pool.proofs.items.Items.is_passed.Goals as goal
use Rattle.tau_base.proofs.Lists.{drop_at}

pub returns-clause-on : goal.returns-clause-on
returns-clause-on c e =
    let ps = c.self.inside.positions.items in
    let s = stands c.args.self.now ps c.self.inside.rows.items c.args.place c.index.result.now c.self.view_is c.self.invariant c.requires c.index.ensures in
    let x = item_at ps c.index.result.now in
    let xs = c.args.self.now in
    let is : is_passed c.args.j x ≡ true = sym c.is_passed.ensures ∙ e in
    let next : suc c.args.place ≡ c.args.place + 1 = omega arith in
    ap (first_from c.args.j c.args.place) (drop_at xs c.args.place x s.there) ∙ step_first c.args.j c.args.place x (drop (suc c.args.place) xs) is
    ∙ ap (λ (n : ℕ). first_from c.args.j n (drop n xs)) next

pub returns-clause-off : goal.returns-clause-off
returns-clause-off c e =
    let ps = c.self.inside.positions.items in
    let s = stands c.args.self.now ps c.self.inside.rows.items c.args.place c.index.result.now c.self.view_is c.self.invariant c.requires c.index.ensures in
    let x = item_at ps c.index.result.now in
    let xs = c.args.self.now in
    let is : is_passed c.args.j x ≡ false = sym c.is_passed.ensures ∙ e in
    ap (first_from c.args.j c.args.place) (drop_at xs c.args.place x s.there) ∙ stop_first c.args.j c.args.place x (drop (suc c.args.place) xs) is
