use Rattle.std.proofs.Common.{◌≡◌, ℕ, suc, ◌+◌, List, [], ◌∷◌, ◌++◌, Option, Some, None, drop, ap, refl, sym, ◌∙◌, append_assoc, arith}
use Rattle.std.specs.List.{filter}
use Rattle.std.proofs.lemmas.List.{drop_more}
use Rattle.std.proofs.lemmas.List.Elements.{filter-append}
use Rattle.tau_record.specs.Record.{epoch_after}
use Rattle.tau_scan.specs.Epochs.{vector_by}
use Rattle.tau_pool.specs.Item.{Item}
use Rattle.tau_pool.specs.Items.{item_of, items_in, with_item, item_after}
use Rattle.tau_pool.proofs.item.put_stream.Goals as goal

with_first : (o : Option Item) (xs : List Item) → with_item o [] ++ xs ≡ with_item o xs
with_first None xs = refl
with_first (Some x) xs = refl

pub loop-index-preserved : goal.loop-index-preserved
loop-index-preserved c =
    let judge = vector_by c.args.judge.now in
    let after = filter (item_after c.args.from.now) in
    let k = c.loop-index.invariant.0 in
    let i = c.loop-index.index in
    let p = c.index-records-index.result in
    let rest = items_in judge c.args.stream (epoch_after k p.entry) (suc i) (drop (i + 1) c.args.records.now) in
    let next : i + 1 ≡ suc i = omega arith in
    let o = item_of (judge k) c.args.stream i p in
    let there : drop i c.args.records.now ≡ p ∷ drop (i + 1) c.args.records.now = drop_more c.args.records.now i p c.loop-index-test.true ∙ ap (λ q. q ∷ drop (i + 1) c.args.records.now) (sym c.index-records-index.is) in
    let parts : after (with_item o []) ++ after rest ≡ after (with_item o rest) = sym (filter-append (item_after c.args.from.now) (with_item o []) rest) ∙ ap after (with_first o rest) in (
      epoch_after k p.entry,
      c.pass.ensures k c.loop-index.invariant.1,
      ap (λ (n : ℕ). c.put_record.new.items ++ after (items_in judge c.args.stream (epoch_after k p.entry) n (drop (i + 1) c.args.records.now))) next
          ∙ ap (λ (xs : List Item). xs ++ after rest) (c.in_ok-put_record.ensures ∙ ap (λ (lv : List ℕ). c.loop-index.items ++ after (with_item (item_of lv c.args.stream i p) [])) c.loop-index.invariant.1)
          ∙ append_assoc c.loop-index.items (after (with_item o [])) (after rest)
          ∙ ap (λ (xs : List Item). c.loop-index.items ++ xs) parts
          ∙ ap (λ xs. c.loop-index.items ++ after (items_in judge c.args.stream k i xs)) (sym there)
          ∙ c.loop-index.invariant.2,
    )
