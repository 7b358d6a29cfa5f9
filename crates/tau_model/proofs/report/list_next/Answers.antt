-- What the next record leaves.
use Rattle.std.proofs.Common.{◌≡◌, [], ◌∷◌, length, map, refl, sym, ap, subst, ◌∙◌, arith}
use Rattle.std.specs.Prelude.{slice_index_or, slice_set}
use Rattle.std.specs.VecDeque.{deque_items}
use Rattle.std.proofs.lemmas.List.{length-map, map-set}
use Rattle.tau_model.specs.Reported.{next_start}
use Rattle.tau_model.specs.Listing.{IsListed, entry_place}
use Rattle.tau_model.proofs.Listings.{map_at, length_emitted, next_listed}
use Rattle.tau_model.proofs.report.list_next.Goals as goal

pub set-requires-clause-there : goal.set-requires-clause-there
set-requires-clause-there c =
    let wide : length c.args.reach.now ≡ length c.args.ends.now = ap length c.requires.reached ∙ length_emitted entry_place (map deque_items c.args.streams.now) c.args.ends.now c.requires.queues.count in
    omega (arith, c.in_ok-j.ensures.within, c.requires.queues.count, wide)

pub set-requires-clause-small : goal.set-requires-clause-small
set-requires-clause-small c =
    let front : slice_index_or (map deque_items c.args.streams.now) c.in_ok-j.j [] ≡ c.in-Some.entry ∷ c.pop_front.new.self.items =
    map_at deque_items c.args.streams.now c.in_ok-j.j c.index-streams-j.result [] (omega (arith, c.in_ok-j.ensures.within, length-map c.args.streams.now deque_items)) c.index-streams-j.is ∙ ap deque_items c.index-streams-j.is ∙ c.in-Some.ensures.items in
    let next = next_listed c.args.ends.now (map deque_items c.args.streams.now) c.args.reach.now c.in_ok-j.j c.in_ok-j.ensures c.in-Some.entry c.pop_front.new.self.items c.next_start.result
    (slice_set c.args.reach.now c.in_ok-j.j c.next_start.result) c.requires.queues c.requires.reached front
    (c.next_start.ensures ∙ ap (next_start entry_place c.pop_front.new.self.items) c.get.ensures.same) refl in
    omega (arith, next.0, c.get.ensures.small, c.get.ensures.same)

pub returns-clause-next : goal.returns-clause-next
returns-clause-next c =
    let front : slice_index_or (map deque_items c.args.streams.now) c.in_ok-j.j [] ≡ c.in-Some.entry ∷ c.pop_front.new.self.items =
    map_at deque_items c.args.streams.now c.in_ok-j.j c.index-streams-j.result [] (omega (arith, c.in_ok-j.ensures.within, length-map c.args.streams.now deque_items)) c.index-streams-j.is ∙ ap deque_items c.index-streams-j.is ∙ c.in-Some.ensures.items in
    let next = next_listed c.args.ends.now (map deque_items c.args.streams.now) c.args.reach.now c.in_ok-j.j c.in_ok-j.ensures c.in-Some.entry c.pop_front.new.self.items c.next_start.result
    c.set.new.self c.requires.queues c.requires.reached front
    (c.next_start.ensures ∙ ap (next_start entry_place c.pop_front.new.self.items) c.get.ensures.same) c.set.ensures in
    subst (λ n. IsListed c.args.ends.now (map deque_items c.args.streams.now) (map deque_items (slice_set c.args.streams.now c.in_ok-j.j c.pop_front.new.self)) c.args.reach.now c.set.new.self n)
    (sym c.number.ensures)
    (subst (λ l. IsListed c.args.ends.now (map deque_items c.args.streams.now) l c.args.reach.now c.set.new.self c.in-Some.entry.number)
    (sym (map-set deque_items c.args.streams.now c.in_ok-j.j c.pop_front.new.self)) next.1)
