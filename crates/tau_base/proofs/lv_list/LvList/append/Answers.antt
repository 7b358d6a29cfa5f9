use Rattle.std.proofs.Common.{◌≡◌, ◌<◌, ◌≤◌, ◌+◌, ◌^◌, ◌∙◌, ◌++◌, ◌-◌, ℕ, List, length, map, sym, ap, subst, arith, rules, slice_index, length-append, vec_len}
use Rattle.std.specs.List.{All}
use Rattle.std.proofs.lemmas.List.{length-map}
use Rattle.tau_base.specs.declared.lv_list.Mark.{Mark}
use Rattle.tau_base.specs.KeptLvList.{vector_at, mark_behind, IsMark}
use Rattle.tau_base.proofs.Flat.{vectors_joined, marks_joined, small_joined}
use Rattle.tau_base.proofs.lv_list.LvList.append.Goals as goal

pub invariant_of-self : goal.invariant_of-self
invariant_of-self c =
    let from : c.len-from.result ≡ length c.self.inside.positions.items = search rules in
    let mine = c.self.invariant in
    let others = c.other.invariant in
    let ps = c.self.inside.positions.items in
    let qs = c.other.inside.positions.items in
    let ms = c.self.inside.marks.items in
    let ns = c.other.inside.marks.items in
    let moved = map (mark_behind c.len-from.result) ns in
    let count : c.len.result ≡ length ns = search rules in
    let others_are : length c.args.other.items ≡ length ns = (λ i. length (sym c.other.view_is i).items) ∙ length-map ns (vector_at qs) in
    let few : length ns ≤ c.self.inside.room = let r = c.requires in let e : c.self.inside.room ≡ c.args.self.now.room = (λ i. (c.self.view_is i).room) in omega (arith, r, e, others_are) in
    let flat : vec_len c.other.inside.positions ≡ length qs = c.other.inside.positions.ok.0 in
    let long : length c.append.new.self.items ≡ length ps + length qs = ap (λ (xs : List ℕ). length xs) c.in-Ok.ensures.items ∙ length-append ps qs in
    let more : length c.put_marks.new.marks.items ≡ length ms + length ns =
    ap (λ (xs : List Mark). length xs) c.put_marks.ensures.items ∙ length-append ms moved ∙ ap (λ (k : ℕ). length ms + k) (length-map ns (mark_behind c.len-from.result)) in
    let marks : All (IsMark c.append.new.self.items) c.put_marks.new.marks.items =
    subst (λ (xs : List ℕ). All (IsMark xs) c.put_marks.new.marks.items) (sym c.in-Ok.ensures.items)
    (subst (λ (xs : List Mark). All (IsMark (ps ++ qs)) xs) (sym c.put_marks.ensures.items) (marks_joined ps qs c.len-from.result ms ns from mine.marks others.marks)) in
    record {
      marks = marks;
      small = subst (λ (xs : List ℕ). (k : ℕ) → slice_index xs k < 2 ^ 62) (sym c.in-Ok.ensures.items) (small_joined (2 ^ 62) ps qs mine.small others.small);
      lean = let a = mine.lean in let b = others.lean in omega (arith, long, more, a, b);
      room = let a = mine.room in let l = c.put_marks.ensures.len in let k = c.put_marks.ensures.capacity in omega (arith, a, l, k, few, count);
      positions_room = let a = mine.positions_room in let b = others.lean in let l = c.in-Ok.ensures.len in let k = c.in-Ok.ensures.capacity in omega (arith, a, b, l, k, few, count, flat);
      few = let a = mine.few in let b = others.lean in omega (arith, a, b, long, few, count);
    }

pub returns : goal.returns
returns c =
    let from : c.len-from.result ≡ length c.self.inside.positions.items = search rules in
    let count : c.len.result ≡ length c.args.other.items =
    let a : c.len.result ≡ length c.other.inside.marks.items = search rules in
    a ∙ sym (length-map c.other.inside.marks.items (vector_at c.other.inside.positions.items)) ∙ (λ i. length (c.other.view_is i).items) in
    let items : map (vector_at c.append.new.self.items) c.put_marks.new.marks.items ≡ c.args.self.now.items ++ c.args.other.items =
    (λ i. map (vector_at (c.in-Ok.ensures.items i)) (c.put_marks.ensures.items i))
    ∙ vectors_joined c.self.inside.positions.items c.other.inside.positions.items c.len-from.result c.self.inside.marks.items c.other.inside.marks.items from c.self.invariant.marks
    ∙ (λ i. (c.self.view_is i).items ++ (c.other.view_is i).items) in
    λ i. record { items = items i; room = (c.self.view_is i).room - count i }
