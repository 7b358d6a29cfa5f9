use Rattle.std.proofs.Common.{ℕ, false, [], ◌+◌, ◌++◌, ◌≡◌, List, Option, sym, ap, subst, ◌∙◌, add-one, length, length-append, ◌<◌, ◌≤◌, arith}
use Rattle.std.specs.Prelude.{Some, None, slice_get}
use Rattle.std.specs.Slots.{slots_filled, slots_items, slots_len}
use mathlib.Core.Option.{some-injective}
use lib.ListN.{get_elem?}
use Rattle.tau_base.specs.declared.limits.TheConstants.{SHARDS}
use Rattle.tau_model.specs.declared.committed.Committed.{Committed}
use Rattle.tau_machine.specs.Reports.{in_turn}
use Rattle.tau_txn.specs.Txn.{has_joined, held_in}
use Rattle.tau_core.proofs.Lists.{got_other}
use Rattle.tau_core.proofs.Pushes.{each_snoc, length_snoc}
use Rattle.tau_rule.specs.declared.part.Part.{Part}
use Rattle.tau_desk.specs.Shares.{PlainWork}
use Rattle.tau_desk.specs.Taken.{IsSeatAt, IsSeatFrom, IsTakenTo, calls_at, calls_had, settled}
use Rattle.tau_desk.proofs.Assembling.{now_empty, same_inside, still_full}
use Rattle.tau_desk.proofs.CloseCalls.{in_turn_room, in_turn_snoc, settled_calls}
use Rattle.tau_desk.proofs.closes.take_seats.Goals as goal

pub take_work-requires : goal.take_work-requires
take_work-requires c =
    let j = c.loop-worker.worker in
    let h = c.requires.works j c.loop-worker-test.true in
    (h.0, c.loop-worker.invariant.rest j (omega arith) ∙ h.1)

pub settle-work-requires-clause-held : goal.settle-work-requires-clause-held
settle-work-requires-clause-held c =
    let j = c.loop-worker.worker in
    let h = c.requires.works j c.loop-worker-test.true in
    let same : h.0 ≡ c.take_work.result = same_inside h.0 c.take_work.result (slice_get c.loop-worker.works.items j) (c.loop-worker.invariant.rest j (omega arith) ∙ h.1) c.take_work.ensures.taken in
    subst (λ (o : PlainWork). held_in o.txn ≡ []) same h.2

pub settle-work-requires-clause-joined : goal.settle-work-requires-clause-joined
settle-work-requires-clause-joined c =
    let j = c.loop-worker.worker in
    let h = c.requires.works j c.loop-worker-test.true in
    let same : h.0 ≡ c.take_work.result = same_inside h.0 c.take_work.result (slice_get c.loop-worker.works.items j) (c.loop-worker.invariant.rest j (omega arith) ∙ h.1) c.take_work.ensures.taken in
    subst (λ (o : PlainWork). has_joined o.txn ≡ false) same h.3

pub seat_of-seat-requires : goal.seat_of-seat-requires
seat_of-seat-requires c =
    let j = c.loop-worker.worker in
    let h = c.requires.boxes j c.loop-worker-test.true in
    let is : Some h.0 ≡ c.take-slot.result = some-injective (Some h.0) c.take-slot.result (sym h.2 ∙ ap (λ (l : List (Option Part)). get_elem? l (SHARDS + j)) (sym c.loop-worker.invariant.items) ∙ c.take-slot.ensures.value) in
    (h.0, h.1, sym is, h.3)

-- what a worker has committed
calls_of : (had : List (Option PlainWork)) (j : ℕ) (o : PlainWork) (calls : List Committed) → slice_get had j ≡ Some (Some o) → calls ≡ (settled o o.mark).committed → calls ≡ calls_at had j
calls_of had j o calls e is = is ∙ settled_calls o o.mark ∙ sym (ap calls_had e)

-- there is room for a worker's calls after those of the workers before it
fits_in : (count j : ℕ) (had : List (Option PlainWork)) (room : ℕ) (before calls : List Committed) → j < count → before ≡ in_turn j (calls_at had) → calls ≡ calls_at had j →
    length (in_turn count (calls_at had)) ≤ room + length before → length calls ≤ room
fits_in count j had room before calls low old new space =
    let n = ap (λ (l : List Committed). length l) new in
    let o = ap (λ (l : List Committed). length l) old in
    let fits = in_turn_room count j (calls_at had) low in
    omega (arith, n, o, fits, space)

pub append-requires : goal.append-requires
append-requires c =
    let j = c.loop-worker.worker in
    let i = c.loop-worker.invariant in
    let init = c.args.works.now.items in
    let work = c.take_work.result in
    let there : slice_get init j ≡ Some (Some work) = sym (i.rest j (omega arith)) ∙ c.take_work.ensures.taken in
    let is : c.seat_of-seat.result.1.items ≡ calls_at init j = calls_of init j work c.seat_of-seat.result.1.items there (c.seat_of-seat.ensures.calls ∙ ap (λ (o : PlainWork). o.committed) c.settle-work.ensures) in
    fits_in c.args.count j init c.loop-worker.committed.room c.loop-worker.committed.items c.seat_of-seat.result.1.items c.loop-worker-test.true i.calls is i.space

pub loop-worker-preserved : goal.loop-worker-preserved
loop-worker-preserved c =
    let j = c.loop-worker.worker in
    let at : ℕ = SHARDS + j in
    let i = c.loop-worker.invariant in
    let o = c.take-slot.ensures.others in
    let xs : List (Option Part) = slots_items c.args.closed.now.slots in
    let init = c.args.works.now.items in
    let work = c.take_work.result in
    let h = c.requires.boxes j c.loop-worker-test.true in
    let is : Some h.0 ≡ c.take-slot.result = some-injective (Some h.0) c.take-slot.result (sym h.2 ∙ ap (λ (l : List (Option Part)). get_elem? l (SHARDS + j)) (sym i.items) ∙ c.take-slot.ensures.value) in
    let new : IsSeatAt xs init j c.seat_of-seat.result.0 = record {
      box = h.0;
      home = h.2;
      of_box = c.seat_of-seat.ensures.box_is h.0 (sym is);
      work = work;
      there = sym (i.rest j (omega arith)) ∙ c.take_work.ensures.taken;
      seat = subst (λ (w : PlainWork). IsSeatFrom w c.seat_of-seat.result.0) c.settle-work.ensures c.seat_of-seat.ensures.work_is;
    } in
    let there : slice_get init j ≡ Some (Some work) = sym (i.rest j (omega arith)) ∙ c.take_work.ensures.taken in
    let calls : c.seat_of-seat.result.1.items ≡ calls_at init j = calls_of init j work c.seat_of-seat.result.1.items there (c.seat_of-seat.ensures.calls ∙ ap (λ (o : PlainWork). o.committed) c.settle-work.ensures) in
    record {
      items = o.0 ∙ i.items;
      len = o.2 ∙ i.len;
      taken = subst (λ (n : ℕ). IsTakenTo n (slots_filled c.take-slot.new.self.slots) (slots_len c.take-slot.new.self.slots)) (omega arith) (record {
        full = still_full (slots_filled c.loop-worker.closed.slots) (slots_filled c.take-slot.new.self.slots) at (slots_len c.loop-worker.closed.slots) (slots_len c.take-slot.new.self.slots) o.2 o.1 i.taken.full;
        empty = now_empty (slots_filled c.loop-worker.closed.slots) (slots_filled c.take-slot.new.self.slots) at o.1 i.taken.empty;
      });
      below = (let t = c.loop-worker-test.true in omega (arith, t));
      rest = λ k lt. ap (λ l. slice_get l k) c.take_work.ensures.left ∙ got_other c.loop-worker.works.items j k None (λ e. omega (arith, e, lt)) ∙ i.rest k (omega (arith, lt));
      many = ap (λ l. length l) c.push_reserved.ensures.items ∙ length_snoc c.loop-worker.seats.items c.seat_of-seat.result.0 ∙ ap (λ (n : ℕ). n + 1) i.many;
      room = (let r = i.room in let e = c.push_reserved.ensures.capacity in omega (arith, r, e));
      calls = c.append.ensures.items ∙ (λ k. i.calls k ++ calls k) ∙ sym (in_turn_snoc j (calls_at init)) ∙ ap (λ (n : ℕ). in_turn n (calls_at init)) (sym (add-one j));
      space = (let s = i.space in let g = c.append.ensures.room in let m = ap (λ (l : List Committed). length l) c.append.ensures.items ∙ length-append c.loop-worker.committed.items c.seat_of-seat.result.1.items in let need = fits_in c.args.count j init c.loop-worker.committed.room c.loop-worker.committed.items c.seat_of-seat.result.1.items c.loop-worker-test.true i.calls calls s in omega (arith, s, g, m, need));
      each = λ n x e. each_snoc (λ m y. IsSeatAt xs init m y) c.loop-worker.seats.items c.seat_of-seat.result.0 i.each (subst (λ (m : ℕ). IsSeatAt xs init m c.seat_of-seat.result.0) (sym i.many) new) n x
          (ap (λ l. slice_get l n) (sym c.push_reserved.ensures.items) ∙ e);
    }
