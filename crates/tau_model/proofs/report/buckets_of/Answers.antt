-- One more reader.
use Rattle.std.proofs.Common.{◌+◌, ◌≡◌, ◌++◌, [], ◌∷◌, take, length, map, sym, ap, ◌∙◌, arith}
use Rattle.std.specs.Vec.{vec_items}
use Rattle.std.proofs.lemmas.Grind.{common_steps}
use Rattle.tau_model.specs.Reported.{each}
use Rattle.tau_model.specs.Listing.{bucket}
use Rattle.tau_model.proofs.Weaving.{buckets_push}
use Rattle.tau_model.proofs.report.buckets_of.Goals as goal

pub loop-entry-preserved : goal.loop-entry-preserved
loop-entry-preserved c =
    let more : take (c.loop-entry.entry-index + 1) c.args.readers.now ≡ take c.loop-entry.entry-index c.args.readers.now ++ c.entry-item.result ∷ [] = grind (arith, common_steps) in
    let step = buckets_push c.args.reached.now (take c.loop-entry.entry-index c.args.readers.now) c.entry-item.result (length c.args.reached.now) in
    let done : map vec_items c.put.new.buckets.items ≡ each (length c.args.reached.now) (bucket c.args.reached.now (take (c.loop-entry.entry-index + 1) c.args.readers.now)) =
    c.in_ok-put.ensures ∙ rw (c.loop-entry.invariant, c.slot_of.ensures, c.dep.ensures, c.number.ensures) (step ∙ ap (λ rs. each (length c.args.reached.now) (bucket c.args.reached.now rs)) (sym more)) in
    done
