-- The bucket with one more number stands in the place of the old one.
use Rattle.std.proofs.Common.{◌≡◌, ◌++◌, [], ◌∷◌, map, refl, ◌∙◌, arith, rules}
use Rattle.std.specs.Prelude.{slice_index_or}
use Rattle.std.specs.Vec.{vec_items}
use Rattle.std.proofs.lemmas.List.{map-set}
use Rattle.tau_model.proofs.Listings.{map_at}
use Rattle.tau_model.proofs.report.put.Goals as goal

pub returns : goal.returns
returns c =
    let pushed : c.push.new.self.items ≡ c.index_mut-bucket.result.now.items ++ c.args.number ∷ [] = search rules in
    let here : slice_index_or (map vec_items c.args.buckets.now.items) c.args.slot [] ≡ c.index_mut-bucket.result.now.items =
    map_at vec_items c.args.buckets.now.items c.args.slot c.index_mut-bucket.result.now [] (omega (arith, c.len.ensures)) c.index_mut-bucket.ensures.value in
    map-set vec_items c.args.buckets.now.items c.args.slot c.push.new.self ∙ rw (here, pushed) refl
