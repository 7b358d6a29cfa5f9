-- One more stream.
use Rattle.std.proofs.Common.{◌<◌, ◌≢◌, [], length, map, sym, ◌∙◌, arith, below_more, get_or-set_other, get_or-set_same, length-set}
use Rattle.std.proofs.lemmas.List.{length-map}
use Rattle.std.specs.VecDeque.{deque_items}
use Rattle.tau_model.specs.Listing.{entry_place}
use Rattle.tau_model.proofs.Listings.{map_at, emitted_next, length_emitted}
use Rattle.tau_model.proofs.report.emitted_first.Goals as goal
use Rattle.tau_base.proofs.Lists.{same_list}

pub set-requires-clause-small : goal.set-requires-clause-small
set-requires-clause-small c =
    let here = map_at deque_items c.args.streams.now c.loop-j.j c.index-streams-j.result [] c.loop-j-test.true c.index-streams-j.is in
    let next = emitted_next c.args.ends.now (map deque_items c.args.streams.now) c.loop-j.j c.index-streams-j.result.items c.get.result c.next_start.result c.requires here c.get.ensures.same c.next_start.ensures in
    omega (arith, next.0, c.get.ensures.small, c.get.ensures.same)

pub loop-j-preserved : goal.loop-j-preserved
loop-j-preserved c =
    let here = map_at deque_items c.args.streams.now c.loop-j.j c.index-streams-j.result [] c.loop-j-test.true c.index-streams-j.is in
    let next = emitted_next c.args.ends.now (map deque_items c.args.streams.now) c.loop-j.j c.index-streams-j.result.items c.get.result c.next_start.result c.requires here c.get.ensures.same c.next_start.ensures in
    let set = c.set.ensures in
    let lt : c.loop-j.j < length c.loop-j.emitted = omega (arith, c.requires.count, length-map c.args.streams.now deque_items, c.loop-j.invariant.wide) in record {
      wide = rw (set, length-set c.loop-j.emitted c.loop-j.j c.next_start.result) c.loop-j.invariant.wide;
      done = rw set (below_more _ _
          (λ k low. let ne : k ≢ c.loop-j.j = omega arith in rw (get_or-set_other c.loop-j.emitted c.loop-j.j k c.next_start.result 0 ne) (c.loop-j.invariant.done k low))
          (rw (get_or-set_same c.loop-j.emitted c.loop-j.j c.next_start.result 0 lt) next.1));
    }

pub returns : goal.returns
returns c = same_list _ _ (c.loop-j.invariant.wide ∙ sym (length_emitted entry_place _ _ c.requires.count)) (λ k lt. c.loop-j.invariant.done k (omega (arith, c.requires.count, length-map c.args.streams.now deque_items, c.loop-j.invariant.wide)))
