use Rattle.std.proofs.Common.{ℕ, ◌+◌, ◌≡◌, ◌≤◌, ◌-◌, List, length, refl, sym, ap, subst, ◌∙◌, arith}
use Rattle.std.specs.Prelude.{Some, Ok, Err, OnOk, Result, is_ok, min, slice_index, slice_set, vec_capacity, vec_len}
use Rattle.std.proofs.lemmas.Result.{on_ok_weaker}
use Rattle.tau_base.specs.declared.limits.TheConstants.{MAX_BODY}
use Rattle.tau_core.specs.Plain.{PlainStream}
use Rattle.tau_core.specs.State.{Plain, plain}
use Rattle.tau_core.proofs.Found.{found_part, part_in, part_within}
use Rattle.tau_core.proofs.Lists.{got_same}
use Rattle.tau_core.proofs.gather.reserve_body.Goals as goal

enough : (used ends gathered most cap len : ℕ) → most ≡ min (MAX_BODY - used) (ends - gathered) → len + most ≤ cap → min (MAX_BODY - used) (ends - gathered) ≤ cap - len
enough used ends gathered most cap len e le = omega arith

on_mapped : {T E D : Type 0} (P : Type 0) (r : Result T E) (q : Result T D) → is_ok q ≡ is_ok r → OnOk r P → OnOk q P
on_mapped P r (Err e) same p = tt
on_mapped P (Ok x) (Ok y) same p = p
on_mapped P (Err e) (Ok y) same p = cc

pub returns-clause-made : goal.returns-clause-made
returns-clause-made c =
    let p : Plain = plain c.args.state.now in
    let is = found_part c.args.state.now c.args.stream c.index_mut-part.result.now c.part.inside c.requires.stood.2.sound c.requires.there c.index_mut-part.ensures.value c.part.view_is in
    record {
      stream = part_in c.part.inside;
      own = c.part.inside.own;
      room = vec_capacity c.try_reserve.new.self - vec_len c.try_reserve.new.self;
      is = is;
      pieces = refl;
      after = ap (λ (b : List ℕ). record p { streams = slice_set p.streams c.args.stream (record (part_in c.part.inside) { body = b; room = vec_capacity c.try_reserve.new.self - vec_len c.try_reserve.new.self }) }) c.try_reserve.ensures.items;
    }

pub returns-clause-roomy : goal.returns-clause-roomy
returns-clause-roomy c = on_mapped _ c.try_reserve.result c.map_err.result c.map_err.ensures.variant (on_ok_weaker c.try_reserve.result (λ ok s e.
    let p : Plain = plain c.args.state.now in
    let j : ℕ = c.args.stream in
    let inside = part_within c.args.state.now c.args.stream c.requires.stood.2.sound c.requires.there in
    let part : PlainStream = record (part_in c.part.inside) { body = c.try_reserve.new.self.items; room = vec_capacity c.try_reserve.new.self - vec_len c.try_reserve.new.self } in
    let same : part ≡ s = (let f : Some part ≡ Some s = sym (got_same p.streams j part inside) ∙ e in cc) in
    let used : c.len.result ≡ length c.try_reserve.new.self.items = (let a = c.len.ensures in let b = c.part.inside.body.ok in let d = ap (length {A = ℕ}) c.try_reserve.ensures.items in omega arith) in
    let most : c.most-most.result ≡ min (MAX_BODY - length c.try_reserve.new.self.items) (slice_index p.ends j - slice_index p.gathered j) =
    c.most-most.ensures ∙ (λ i. min (MAX_BODY - used i) (c.get-past.ensures.same i - c.get-gathered.ensures.same i)) in
    subst (λ (x : PlainStream). min (MAX_BODY - length x.body) (slice_index p.ends j - slice_index p.gathered j) ≤ x.room) same
    (enough (length c.try_reserve.new.self.items) (slice_index p.ends j) (slice_index p.gathered j) c.most-most.result (vec_capacity c.try_reserve.new.self) (vec_len c.try_reserve.new.self) most ok)) c.try_reserve.ensures.ok)
