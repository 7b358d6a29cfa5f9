use Rattle.std.proofs.Common.{◌≡◌, ◌≤◌, ◌+◌, ◌-◌, ◌++◌, ◌∙◌, List, ℕ, length, length-append, map, ap, subst, sym, arith}
use Rattle.std.specs.Prelude.{vec_len}
use Rattle.std.specs.List.{All}
use Rattle.std.proofs.lemmas.List.{length-map}
use Rattle.tau_model.specs.declared.committed_list.Head.{Head}
use Rattle.tau_model.specs.KeptCommitted.{IsHead, calls_of, head_behind}
use Rattle.tau_model.proofs.KeptCalls.{calls_count, calls_joined, heads_joined}
use Rattle.tau_model.proofs.committed_list.CommittedList.append.Goals as goal

pub unreachable-requires : goal.unreachable-requires
unreachable-requires c =
    let count = calls_count c.other.inside.texts.items c.other.inside.heads.items c.other.inside.deps.items c.args.other.items c.other.invariant.same (λ i. (c.other.view_is i).items) in
    let room : c.self.inside.room ≡ c.args.self.now.room = (λ i. (c.self.view_is i).room) in
    let few = c.requires in
    let full = c.in_default.ensures.full in
    let mine = c.self.invariant.texts_room in
    let lean = c.other.invariant.lean in
    let texts : vec_len c.other.inside.texts ≡ length c.other.inside.texts.items = c.other.inside.texts.ok.0 in
    omega (arith, count, room, few, full, mine, lean, texts)

pub overflow_sub-self : goal.overflow_sub-self
overflow_sub-self c =
    let count = calls_count c.other.inside.texts.items c.other.inside.heads.items c.other.inside.deps.items c.args.other.items c.other.invariant.same (λ i. (c.other.view_is i).items) in
    let room : c.self.inside.room ≡ c.args.self.now.room = (λ i. (c.self.view_is i).room) in
    let few = c.requires in
    let long = c.len-2.ensures in
    let heads : vec_len c.other.inside.heads ≡ length c.other.inside.heads.items = c.other.inside.heads.ok.0 in
    omega (arith, count, room, few, long, heads)

pub put_heads-requires-clause-room : goal.put_heads-requires-clause-room
put_heads-requires-clause-room c =
    let count = calls_count c.other.inside.texts.items c.other.inside.heads.items c.other.inside.deps.items c.args.other.items c.other.invariant.same (λ i. (c.other.view_is i).items) in
    let room : c.self.inside.room ≡ c.args.self.now.room = (λ i. (c.self.view_is i).room) in
    let few = c.requires in
    let mine = c.self.invariant.heads_room in
    omega (arith, count, room, few, mine)

pub append-requires-2 : goal.append-requires-2
append-requires-2 c =
    let count = calls_count c.other.inside.texts.items c.other.inside.heads.items c.other.inside.deps.items c.args.other.items c.other.invariant.same (λ i. (c.other.view_is i).items) in
    let room : c.self.inside.room ≡ c.args.self.now.room = (λ i. (c.self.view_is i).room) in
    let few = c.requires in
    let mine = c.self.invariant.deps_room in
    let same = c.other.invariant.same in
    omega (arith, count, room, few, mine, same)

pub invariant_of-self : goal.invariant_of-self
invariant_of-self c =
    let mine = c.self.invariant in
    let others = c.other.invariant in
    let hs = c.self.inside.heads.items in
    let gs = c.other.inside.heads.items in
    let ts = c.self.inside.texts.items in
    let us = c.other.inside.texts.items in
    let ds = c.self.inside.deps.items in
    let es = c.other.inside.deps.items in
    let before : ℕ = c.len.result - c.len-more.result in
    let count = calls_count us gs es c.args.other.items others.same (λ i. (c.other.view_is i).items) in
    let room : c.self.inside.room ≡ c.args.self.now.room = (λ i. (c.self.view_is i).room) in
    let fits : length gs ≤ c.self.inside.room = let few = c.requires in omega (arith, count, room, few) in
    let texts_here : vec_len c.self.inside.texts ≡ length ts = c.self.inside.texts.ok.0 in
    let texts_there : vec_len c.other.inside.texts ≡ length us = c.other.inside.texts.ok.0 in
    let heads_there : vec_len c.other.inside.heads ≡ length gs = c.other.inside.heads.ok.0 in
    let passed : c.len-2.result ≡ length gs = c.len-2.ensures ∙ heads_there in
    let at : before ≡ length ts = let a = c.len.ensures in let b = c.len-more.ensures in let l = c.in-Ok.ensures.len in omega (arith, a, b, l, texts_here, texts_there) in
    let heads : length c.put_heads.new.heads.items ≡ length hs + length gs =
    ap (λ (xs : List Head). length xs) c.put_heads.ensures.items ∙ length-append hs (map (head_behind before) gs) ∙ ap (λ (k : ℕ). length hs + k) (length-map gs (head_behind before)) in
    let deps : length c.append-2.new.self.items ≡ length ds + length es = (λ i. length (c.append-2.ensures i).items) ∙ length-append ds es in
    let left : c.append-2.new.self.room ≡ c.self.inside.deps.room - length es = (λ i. (c.append-2.ensures i).room) in
    let texts : length c.append.new.self.items ≡ length ts + length us = ap (λ (xs : List (List ℕ)). length xs) c.in-Ok.ensures.items ∙ length-append ts us in
    record {
      same = let a = mine.same in let b = others.same in omega (arith, a, b, heads, deps);
      replies = subst (λ (xs : List (List ℕ)). All (IsHead (length xs)) c.put_heads.new.heads.items) (sym c.in-Ok.ensures.items)
          (subst (λ (xs : List Head). All (IsHead (length (ts ++ us))) xs) (sym c.put_heads.ensures.items) (heads_joined ts us before hs gs at mine.replies others.replies));
      lean = let a = mine.lean in let b = others.lean in omega (arith, a, b, heads, texts);
      heads_room = let a = mine.heads_room in let l = c.put_heads.ensures.len in let k = c.put_heads.ensures.capacity in omega (arith, a, l, k, fits, passed);
      deps_room = let a = mine.deps_room in let b = others.same in omega (arith, a, b, left, fits, passed);
      texts_room = let a = mine.texts_room in let b = others.lean in let l = c.in-Ok.ensures.len in let k = c.in-Ok.ensures.capacity in omega (arith, a, b, l, k, fits, passed, texts_there);
    }

pub returns-clause-items : goal.returns-clause-items
returns-clause-items c =
    let hs = c.self.inside.heads.items in
    let gs = c.other.inside.heads.items in
    let ts = c.self.inside.texts.items in
    let us = c.other.inside.texts.items in
    let ds = c.self.inside.deps.items in
    let es = c.other.inside.deps.items in
    let before : ℕ = c.len.result - c.len-more.result in
    let texts_here : vec_len c.self.inside.texts ≡ length ts = c.self.inside.texts.ok.0 in
    let texts_there : vec_len c.other.inside.texts ≡ length us = c.other.inside.texts.ok.0 in
    let at : before ≡ length ts = let a = c.len.ensures in let b = c.len-more.ensures in let l = c.in-Ok.ensures.len in omega (arith, a, b, l, texts_here, texts_there) in
    (λ i. calls_of (c.in-Ok.ensures.items i) (c.put_heads.ensures.items i) (c.append-2.ensures i).items)
    ∙ calls_joined ts us before hs gs ds es at c.self.invariant.same c.self.invariant.replies
    ∙ (λ i. (c.self.view_is i).items ++ (c.other.view_is i).items)

pub returns-clause-room : goal.returns-clause-room
returns-clause-room c =
    let us = c.other.inside.texts.items in
    let gs = c.other.inside.heads.items in
    let es = c.other.inside.deps.items in
    let count : c.len-2.result ≡ length c.args.other.items =
    c.len-2.ensures ∙ c.other.inside.heads.ok.0 ∙ calls_count us gs es c.args.other.items c.other.invariant.same (λ i. (c.other.view_is i).items) in
    λ i. (c.self.view_is i).room - count i
