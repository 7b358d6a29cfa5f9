use Rattle.std.proofs.Common.{◌≡◌, ◌∙◌, ◌++◌, ◌-◌, ◌∷◌, [], length, map, rules}
use Rattle.tau_base.specs.KeptLvList.{vector_at}
use Rattle.tau_base.proofs.Flat.{vectors_put}
use Rattle.tau_base.proofs.lv_list.LvList.push_reserved.Goals as goal

pub returns : goal.returns
returns c =
    let at : c.len.result ≡ length c.self.inside.positions.items = search rules in
    let wide : c.width.result ≡ length c.as_slice.result.now = search rules in
    let items : map (vector_at c.extend_from_slice.new.self.items) c.push_reserved.new.self.items ≡ c.args.self.now.items ++ c.args.vector.now ∷ [] =
    (λ i. map (vector_at (c.in-Ok.ensures.items i)) (c.push_reserved.ensures.items i))
    ∙ vectors_put c.self.inside.positions.items c.as_slice.result.now c.self.inside.marks.items (record { at = c.len.result; width = c.width.result }) c.self.invariant.marks at wide
    ∙ (λ i. (c.self.view_is i).items ++ c.as_slice.ensures.same i ∷ []) in
    λ i. record { items = items i; room = (c.self.view_is i).room - 1 }
