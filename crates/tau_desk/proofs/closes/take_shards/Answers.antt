use Rattle.std.proofs.Common.{ℕ, ◌+◌, ◌≡◌, List, Option, sym, ap, subst, ◌∙◌, length, arith}
use Rattle.std.specs.Prelude.{Some, slice_get}
use Rattle.std.specs.Slots.{slots_filled, slots_items, slots_len}
use mathlib.Core.Option.{some-injective}
use lib.ListN.{get_elem?}
use Rattle.tau_core.proofs.Pushes.{each_snoc, length_snoc}
use Rattle.tau_rule.specs.declared.part.Part.{Part}
use Rattle.tau_desk.specs.Taken.{IsShardAt}
use Rattle.tau_desk.proofs.Assembling.{now_empty, still_full}
use Rattle.tau_desk.proofs.closes.take_shards.Goals as goal

pub shard_of-requires : goal.shard_of-requires
shard_of-requires c =
    let k = c.loop-shard.shard in
    let i = c.loop-shard.invariant in
    let h = c.requires.there.1 k c.loop-shard-test.true in
    let is : Some h.1.0 ≡ c.take.result = some-injective (Some h.1.0) c.take.result (sym h.1.1 ∙ ap (λ (l : List (Option Part)). get_elem? l k) (sym i.items) ∙ c.take.ensures.value) in
    (h.1.0, h.0, sym is, h.1.2)

pub loop-shard-preserved : goal.loop-shard-preserved
loop-shard-preserved c =
    let k = c.loop-shard.shard in
    let i = c.loop-shard.invariant in
    let o = c.take.ensures.others in
    let h = c.requires.there.1 k c.loop-shard-test.true in
    let is : Some h.1.0 ≡ c.take.result = some-injective (Some h.1.0) c.take.result (sym h.1.1 ∙ ap (λ (l : List (Option Part)). get_elem? l k) (sym i.items) ∙ c.take.ensures.value) in
    let xs : List (Option Part) = slots_items c.args.closed.now.slots in
    let new : IsShardAt xs k c.shard_of.result = (h.1.0, h.1.1, c.shard_of.ensures h.1.0 (sym is)) in
    record {
      items = o.0 ∙ i.items;
      len = o.2 ∙ i.len;
      taken = record { full = still_full (slots_filled c.loop-shard.closed.slots) (slots_filled c.take.new.self.slots) k (slots_len c.loop-shard.closed.slots) (slots_len c.take.new.self.slots) o.2 o.1 i.taken.full; empty = now_empty (slots_filled c.loop-shard.closed.slots) (slots_filled c.take.new.self.slots) k o.1 i.taken.empty };
      below = (let t = c.loop-shard-test.true in omega (arith, t));
      count = ap (λ l. length l) c.push_reserved.ensures.items ∙ length_snoc c.loop-shard.shards.items c.shard_of.result ∙ ap (λ (n : ℕ). n + 1) i.count;
      room = (let r = i.room in let e = c.push_reserved.ensures.capacity in omega (arith, r, e));
      each = λ n x e. each_snoc (λ m y. IsShardAt xs m y) c.loop-shard.shards.items c.shard_of.result i.each (subst (λ (m : ℕ). IsShardAt xs m c.shard_of.result) (sym i.count) new) n x (ap (λ l. slice_get l n) (sym c.push_reserved.ensures.items) ∙ e);
    }
