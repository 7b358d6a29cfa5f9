-- One more record.
use Rattle.std.proofs.Common.{◌≡◌, ◌++◌, [], ◌∷◌, refl, map, rules}
use Rattle.std.specs.VecDeque.{deque_items}
use Rattle.tau_model.proofs.Listings.{listing_more, listing_whole}
use Rattle.tau_model.proofs.report.listing_of.Goals as goal

pub loop-number-preserved : goal.loop-number-preserved
loop-number-preserved c =
    let next = c.in-Some.ensures.next in
    let more : c.push-in-Some.new.self.items ≡ c.loop-number.numbers.items ++ c.in-Some.number ∷ [] = search rules in
    let grown : c.push-in-Some-2.new.self.items ≡ c.loop-number.reached.items ++ c.list_next.new.reach ∷ [] = search rules in record {
      are = next.queues;
      emitted = next.emitted_is;
      listed = λ reached numbers h. listing_more c.args.ends.now (map deque_items c.args.streams.now) c.loop-number.reached.items c.push-in-Some-2.new.self.items c.list_next.new.reach reached
          c.loop-number.numbers.items c.push-in-Some.new.self.items c.in-Some.number numbers grown more
          (c.loop-number.invariant.listed (c.list_next.new.reach ∷ reached) (c.in-Some.number ∷ numbers)
          (c.loop-number.invariant.emitted, (next.entry, map deque_items c.list_next.new.streams, next.taken, next.is, h)));
    }

pub returns : goal.returns
returns c = listing_whole c.args.ends.now (map deque_items c.args.streams.now) c.loop-number.reached.items c.loop-number.numbers.items
    (c.loop-number.invariant.listed [] [] (c.loop-number.invariant.emitted, refl, c.in_default.ensures.none))
