-- A record more, whose positions come after those of the others.
use Rattle.std.proofs.Common.{◌≡◌, ◌∙◌, ◌++◌, ◌∷◌, [], length, map, refl, rules}
use Rattle.tau_pool.specs.declared.items.Row.{Row}
use Rattle.tau_pool.specs.declared.item.Stage.TheVariants.{Waiting}
use Rattle.tau_pool.specs.Flat.{item_at}
use Rattle.tau_pool.proofs.Flat.{items_put}
use Rattle.tau_pool.proofs.items.Items.put.Goals as goal

pub returns : goal.returns
returns c =
    let at : c.len.result ≡ length c.self.inside.positions.items = search rules in
    let r : Row = record { start = c.args.start; at = c.len.result; index = c.args.index; stream = c.args.stream; width = length c.args.dep.now; stage = Waiting } in
    let rs : c.push_reserved.new.self.items ≡ c.self.inside.rows.items ++ r ∷ [] = c.push_reserved.ensures.items ∙ (λ i. c.reserve.ensures.items i ++ r ∷ []) in
    (λ i. map (item_at (c.in_ok-put_vector.ensures.ok i)) (rs i))
    ∙ items_put c.self.inside.positions.items c.args.dep.now c.self.inside.rows.items r c.self.invariant at refl
    ∙ (λ i. c.self.view_is i ++ record { stream = c.args.stream; index = c.args.index; start = c.args.start; dep = c.args.dep.now; stage = Waiting } ∷ [])
