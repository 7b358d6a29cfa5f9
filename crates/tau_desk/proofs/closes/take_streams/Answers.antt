use Rattle.std.proofs.Common.{ℕ, ◌+◌, ◌<◌, ◌≡◌, List, sym, ap, subst, ◌∙◌, length, arith, length-set, get_or-set_same, get_or-set_other}
use Rattle.std.specs.Prelude.{Some, None, slice_get, slice_index}
use Rattle.std.specs.Slots.{slots_filled, slots_len}
use Rattle.std.proofs.lemmas.Option.{slice_get_within}
use Rattle.tau_core.specs.Plain.{PlainStream}
use Rattle.tau_core.proofs.Lists.{got_other}
use Rattle.tau_core.proofs.Pushes.{each_snoc, length_snoc}
use Rattle.tau_desk.specs.Shares.{PlainStock}
use Rattle.tau_desk.specs.Taken.{IsStreamAt, IsStreamFrom, IsTakenTo}
use Rattle.tau_desk.proofs.Assembling.{now_empty, still_full, same_inside}
use Rattle.tau_desk.proofs.closes.take_streams.Goals as goal

pub take_stock-stock-requires : goal.take_stock-stock-requires
take_stock-stock-requires c =
    let j = c.loop-stream.stream in
    let low : j < length c.args.gathered = (let t = c.loop-stream-test.true in let w = c.width-count.ensures.same in omega (arith, t, w)) in
    let h = c.requires.stocks j low in
    (h.0, c.loop-stream.invariant.rest j (omega arith) ∙ h.1)

pub set-requires-clause-small : goal.set-requires-clause-small
set-requires-clause-small c =
    let j = c.loop-stream.stream in
    let low : j < length c.args.gathered = (let t = c.loop-stream-test.true in let w = c.width-count.ensures.same in omega (arith, t, w)) in
    let h = c.requires.stocks j low in
    let same : h.0 ≡ c.take_stock-stock.result = same_inside h.0 c.take_stock-stock.result (slice_get c.loop-stream.stocks.items j) (c.loop-stream.invariant.rest j (omega arith) ∙ h.1) c.take_stock-stock.ensures.taken in
    let is : c.stock.inside.gathered ≡ h.0.gathered = ap (λ (o : PlainStock). o.gathered) c.stock.view_is ∙ sym (ap (λ (o : PlainStock). o.gathered) same) in
    let small = h.2 in
    omega (arith, is, small)

pub loop-stream-preserved : goal.loop-stream-preserved
loop-stream-preserved c =
    let j = c.loop-stream.stream in
    let at = c.args.from + j in
    let i = c.loop-stream.invariant in
    let o = c.take.ensures.others in
    let v = c.stock.inside.gathered in
    let init = c.args.stocks.now.items in
    let stock = c.take_stock-stock.result in
    let there : slice_get init j ≡ Some (Some stock) = sym (i.rest j (omega arith)) ∙ c.take_stock-stock.ensures.taken in
    let wide : length c.loop-stream.gathered ≡ c.width-count.result = i.wide in
    let inside : j < length c.loop-stream.gathered = (let t = c.loop-stream-test.true in omega (arith, t, wide)) in
    let made : IsStreamFrom stock c.stream_of.result = c.stream_of.ensures in
    let new : IsStreamAt init c.set.new.self j c.stream_of.result = record {
      stock = stock;
      there = there;
      stream = made;
      upto = ap (λ (l : List ℕ). slice_index l j) c.set.ensures ∙ get_or-set_same c.loop-stream.gathered j v 0 inside ∙ ap (λ (s : PlainStock). s.gathered) c.stock.view_is;
    } in
    let old : (k : ℕ) (x : PlainStream) → slice_get c.loop-stream.streams.items k ≡ Some x → IsStreamAt init c.set.new.self k x = (λ k x e. let g = i.each k x e in record {
      stock = g.stock;
      there = g.there;
      stream = g.stream;
      upto = ap (λ (l : List ℕ). slice_index l k) c.set.ensures ∙ get_or-set_other c.loop-stream.gathered j k v 0 (λ same. let w = slice_get_within c.loop-stream.streams.items k x e in let m = i.many in omega (arith, same, w, m)) ∙ g.upto;
    }) in
    record {
      items = o.0 ∙ i.items;
      len = o.2 ∙ i.len;
      taken = subst (λ (n : ℕ). IsTakenTo n (slots_filled c.take.new.self.slots) (slots_len c.take.new.self.slots)) (omega arith) (record {
        full = still_full (slots_filled c.loop-stream.closed.slots) (slots_filled c.take.new.self.slots) at (slots_len c.loop-stream.closed.slots) (slots_len c.take.new.self.slots) o.2 o.1 i.taken.full;
        empty = now_empty (slots_filled c.loop-stream.closed.slots) (slots_filled c.take.new.self.slots) at o.1 i.taken.empty;
      });
      below = (let t = c.loop-stream-test.true in omega (arith, t));
      rest = λ k lt. ap (λ l. slice_get l k) c.take_stock-stock.ensures.left ∙ got_other c.loop-stream.stocks.items j k None (λ e. omega (arith, e, lt)) ∙ i.rest k (omega (arith, lt));
      wide = ap (λ (l : List ℕ). length l) c.set.ensures ∙ length-set c.loop-stream.gathered j v ∙ wide;
      many = ap (λ l. length l) c.push_reserved.ensures.items ∙ length_snoc c.loop-stream.streams.items c.stream_of.result ∙ ap (λ (n : ℕ). n + 1) i.many;
      room = (let r = i.room in let e = c.push_reserved.ensures.capacity in omega (arith, r, e));
      each = λ n x e. each_snoc (λ m y. IsStreamAt init c.set.new.self m y) c.loop-stream.streams.items c.stream_of.result old (subst (λ (m : ℕ). IsStreamAt init c.set.new.self m c.stream_of.result) (sym i.many) new) n x
          (ap (λ l. slice_get l n) (sym c.push_reserved.ensures.items) ∙ e);
    }
