-- One more record.
use Rattle.std.proofs.Common.{◌≡◌, ◌++◌, [], ◌∷◌, refl, map, rules}
use Rattle.std.specs.VecDeque.{deque_items}
use Rattle.tau_model.proofs.Listings.{listed_first, listed_more, listed_whole}
use Rattle.tau_model.proofs.report.numbers_of.Goals as goal

pub loop-number-preserved : goal.loop-number-preserved
loop-number-preserved c =
    let next = c.in-Some.ensures.next in
    let more : c.push.new.self.items ≡ c.loop-number.numbers.items ++ c.in-Some.number ∷ [] = search rules in record {
      are = next.queues;
      emitted = next.emitted_is;
      listed = λ numbers h. listed_more c.args.ends.now (map deque_items c.args.streams.now) c.loop-number.numbers.items c.push.new.self.items c.in-Some.number numbers more
          (c.loop-number.invariant.listed (c.in-Some.number ∷ numbers)
          (listed_first c.args.ends.now (map deque_items c.loop-number.streams) (map deque_items c.list_next.new.streams) c.loop-number.reach c.list_next.new.reach c.in-Some.number numbers
          c.loop-number.invariant.emitted next h));
    }

pub returns : goal.returns
returns c = listed_whole c.args.ends.now (map deque_items c.args.streams.now) c.loop-number.numbers.items
    (c.loop-number.invariant.listed [] (c.loop-number.reach ∷ [], (c.loop-number.invariant.emitted, refl, c.in_default.ensures.none)))
