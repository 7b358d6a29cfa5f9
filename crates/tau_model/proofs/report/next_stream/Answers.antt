-- The first stream that has a covered record next is the lowest.
use Rattle.std.proofs.Common.{[], map, sym, ◌∙◌, ap, arith, below_more}
use Rattle.std.specs.VecDeque.{deque_items}
use Rattle.std.proofs.lemmas.List.{length-map}
use Rattle.tau_model.specs.Listing.{covered_by, first_passes}
use Rattle.tau_model.proofs.Listings.{map_at, next_is_that, take_record_none}
use Rattle.tau_model.proofs.report.next_stream.Goals as goal

pub returns-then-is_next_covered : goal.returns-then-is_next_covered
returns-then-is_next_covered c =
    let here = map_at deque_items c.args.streams.now c.loop-j.j c.index-streams-j.result [] c.loop-j-test.true c.index-streams-j.is in
    next_is_that c.args.reach.now (map deque_items c.args.streams.now) c.loop-j.j c.index-streams-j.result.items c.loop-j.invariant
    (omega (arith, length-map c.args.streams.now deque_items)) here (sym c.is_next_covered.ensures ∙ c.if-is_next_covered.true)

pub loop-j-preserved : goal.loop-j-preserved
loop-j-preserved c =
    let here = map_at deque_items c.args.streams.now c.loop-j.j c.index-streams-j.result [] c.loop-j-test.true c.index-streams-j.is in
    below_more _ _ c.loop-j.invariant (ap (first_passes (covered_by c.args.reach.now)) here ∙ (sym c.is_next_covered.ensures ∙ c.if-is_next_covered.false))

pub returns : goal.returns
returns c = take_record_none (covered_by c.args.reach.now) (map deque_items c.args.streams.now)
    (λ k lt. c.loop-j.invariant k (omega (arith, length-map c.args.streams.now deque_items)))
