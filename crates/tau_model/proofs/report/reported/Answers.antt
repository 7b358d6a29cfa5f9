-- The parts are put together.
use Rattle.std.proofs.Common.{◌≡◌, [], length, map, refl, sym, ap, subst, ◌∙◌, arith}
use Rattle.std.specs.Vec.{vec_items, vec_len}
use Rattle.std.specs.VecDeque.{deque_items}
use Rattle.std.proofs.lemmas.List.{length-map}
use Rattle.std.proofs.lemmas.Result.{IfOk-weaker}
use Rattle.tau_model.specs.Committed.{reported_numbers}
use Rattle.tau_model.specs.Reported.{each}
use Rattle.tau_model.specs.Listing.{AreListed, AreRising, IsListing, bucket, woven}
use Rattle.tau_model.proofs.Ascending.{length_each}
use Rattle.tau_model.proofs.Assembling.{entries_left, entries_queues, listing_length, listing_rising, nothing_there, numbers_reported, woven_reported}
use Rattle.tau_model.proofs.report.reported.Goals as goal

pub numbers_of-requires : goal.numbers_of-requires
numbers_of-requires c =
    rw (c.deref_mut.ensures.value, c.in_ok-streams.ensures, c.width.ensures.same) (entries_queues c.args.ends.now c.args.list.now.items c.requires)

pub returns-then-is_empty : goal.returns-then-is_empty
returns-then-is_empty c =
    let streams : map deque_items c.deref_mut.result.now ≡ (entries_left (length c.args.ends.now) c.args.list.now.items).streams = rw (c.deref_mut.ensures.value, c.in_ok-streams.ensures, c.width.ensures.same) refl in
    let none : (entries_left (length c.args.ends.now) c.args.list.now.items).readers ≡ [] =
    sym c.in_ok-readers.ensures ∙ nothing_there c.in_ok-readers.readers.items (vec_len c.in_ok-readers.readers) c.is_empty.result c.in_ok-readers.readers.ok.0 c.is_empty.ensures c.if-is_empty.true in
    IfOk-weaker c.numbers_of.result _ _ (λ numbers is. numbers_reported c.args.ends.now c.args.list.now.items numbers.items none
    (subst (λ s. AreListed c.args.ends.now s numbers.items) streams is)) c.numbers_of.ensures

pub listing_of-requires : goal.listing_of-requires
listing_of-requires c =
    rw (c.deref_mut-2.ensures.value, c.in_ok-streams.ensures, c.width.ensures.same) (entries_queues c.args.ends.now c.args.list.now.items c.requires)

pub buckets_of-requires : goal.buckets_of-requires
buckets_of-requires c =
    let streams : map deque_items c.deref_mut-2.result.now ≡ (entries_left (length c.args.ends.now) c.args.list.now.items).streams = rw (c.deref_mut-2.ensures.value, c.in_ok-streams.ensures, c.width.ensures.same) refl in
    let listing : IsListing c.args.ends.now (entries_left (length c.args.ends.now) c.args.list.now.items).streams c.in_ok-listing.listing.reached.items c.in_ok-listing.listing.numbers.items =
    subst (λ s. IsListing c.args.ends.now s c.in_ok-listing.listing.reached.items c.in_ok-listing.listing.numbers.items) streams c.in_ok-listing.ensures in
    subst (λ r. AreRising r) (sym c.deref.ensures.value)
    (listing_rising c.args.ends.now (entries_left (length c.args.ends.now) c.args.list.now.items).streams c.in_ok-listing.listing.reached.items c.in_ok-listing.listing.numbers.items
    (entries_queues c.args.ends.now c.args.list.now.items c.requires) listing)

pub weave-requires : goal.weave-requires
weave-requires c =
    let streams : map deque_items c.deref_mut-2.result.now ≡ (entries_left (length c.args.ends.now) c.args.list.now.items).streams = rw (c.deref_mut-2.ensures.value, c.in_ok-streams.ensures, c.width.ensures.same) refl in
    let listing : IsListing c.args.ends.now (entries_left (length c.args.ends.now) c.args.list.now.items).streams c.in_ok-listing.listing.reached.items c.in_ok-listing.listing.numbers.items =
    subst (λ s. IsListing c.args.ends.now s c.in_ok-listing.listing.reached.items c.in_ok-listing.listing.numbers.items) streams c.in_ok-listing.ensures in
    let whole = listing_length c.args.ends.now (entries_left (length c.args.ends.now) c.args.list.now.items).streams c.in_ok-listing.listing.reached.items c.in_ok-listing.listing.numbers.items listing in
    let count : length (map vec_items c.in_ok-buckets.buckets.items) ≡ length c.deref.result.now = ap length c.in_ok-buckets.ensures ∙ length_each (length c.deref.result.now) _ in
    omega (arith, whole, count, length-map c.in_ok-buckets.buckets.items vec_items, ap length c.deref.ensures.value, ap length c.deref-3.ensures.value, ap length c.deref-4.ensures.value)

pub returns : goal.returns
returns c =
    let streams : map deque_items c.deref_mut-2.result.now ≡ (entries_left (length c.args.ends.now) c.args.list.now.items).streams = rw (c.deref_mut-2.ensures.value, c.in_ok-streams.ensures, c.width.ensures.same) refl in
    let listing : IsListing c.args.ends.now (entries_left (length c.args.ends.now) c.args.list.now.items).streams c.in_ok-listing.listing.reached.items c.in_ok-listing.listing.numbers.items =
    subst (λ s. IsListing c.args.ends.now s c.in_ok-listing.listing.reached.items c.in_ok-listing.listing.numbers.items) streams c.in_ok-listing.ensures in
    let report = woven_reported c.args.ends.now c.args.list.now.items c.in_ok-listing.listing.reached.items c.in_ok-listing.listing.numbers.items listing in
    let buckets : map vec_items c.deref-3.result.now ≡ each (length c.in_ok-listing.listing.reached.items) (bucket c.in_ok-listing.listing.reached.items (entries_left (length c.args.ends.now) c.args.list.now.items).readers) =
    rw (c.deref-3.ensures.value, c.in_ok-buckets.ensures, c.deref.ensures.value, c.deref-2.ensures.value, c.in_ok-readers.ensures) refl in
    let all : woven (map vec_items c.deref-3.result.now) c.deref-4.result.now ≡ reported_numbers c.args.ends.now c.args.list.now.items = rw (buckets, c.deref-4.ensures.value) report in
    IfOk-weaker c.weave.result _ _ (λ out is. is ∙ all) c.weave.ensures
