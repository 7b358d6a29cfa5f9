-- One more bucket and record.
use Rattle.std.proofs.Common.{◌+◌, ◌≡◌, ◌++◌, [], ◌∷◌, map, drop, refl, ◌∙◌, arith, rules}
use Rattle.std.specs.Prelude.{slice_index, slice_index_or}
use Rattle.std.specs.Vec.{vec_items}
use Rattle.std.proofs.lemmas.List.{length-map}
use Rattle.tau_model.specs.Listing.{woven}
use Rattle.tau_model.proofs.Listings.{map_at}
use Rattle.tau_model.proofs.Weaving.{woven_step, woven_more}
use Rattle.tau_model.proofs.report.weave.Goals as goal

pub loop-k-preserved : goal.loop-k-preserved
loop-k-preserved c =
    let grown : c.extend_from_slice.new.self.items ≡ c.loop-k.out.items ++ c.deref.result.now = search rules in
    let pushed : c.push.new.self.items ≡ c.extend_from_slice.new.self.items ++ slice_index c.args.numbers.now c.loop-k.k ∷ [] = search rules in
    let here : slice_index_or (map vec_items c.args.buckets.now) c.loop-k.k [] ≡ c.index-buckets-k.result.items =
    map_at vec_items c.args.buckets.now c.loop-k.k c.index-buckets-k.result [] (omega arith) c.index-buckets-k.is in
    let step = woven_step (map vec_items c.args.buckets.now) c.args.numbers.now c.loop-k.k c.loop-k-test.true (length-map c.args.buckets.now vec_items ∙ c.requires) in
    woven_more c.push.new.self.items c.extend_from_slice.new.self.items c.loop-k.out.items c.deref.result.now (slice_index c.args.numbers.now c.loop-k.k)
    (woven (drop c.loop-k.k (map vec_items c.args.buckets.now)) (drop c.loop-k.k c.args.numbers.now))
    (woven (drop (c.loop-k.k + 1) (map vec_items c.args.buckets.now)) (drop (c.loop-k.k + 1) c.args.numbers.now))
    pushed grown (step ∙ rw (here, c.deref.ensures.value) refl) ∙ c.loop-k.invariant
