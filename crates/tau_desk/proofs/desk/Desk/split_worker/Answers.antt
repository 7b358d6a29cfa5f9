use Rattle.std.proofs.Common.{rules, ℕ, ◌+◌, ◌/◌, ◌≤◌, ◌≡◌, List, [], length, length-set, refl, sym, ap, subst, ◌∙◌, Option, arith}
use Rattle.std.specs.Prelude.{Some, None, replicate, slice_get, slice_set}
use Rattle.std.proofs.lemmas.Option.{slice_get_within}
use Rattle.tau_model.specs.CommittedList.{PlainCommittedList}
use Rattle.tau_core.specs.State.{Plain}
use Rattle.tau_rule.specs.Heads.{left_by, split_off}
use Rattle.tau_rule.specs.Steps.{Sat}
use Rattle.tau_desk.specs.Ends.{calls_each}
use Rattle.tau_desk.specs.Seats.{IsHead, IsWorkerSeat, PlainHead}
use Rattle.tau_desk.specs.Shares.{PlainWork}
use Rattle.tau_desk.proofs.SplittingOff.{head_less_worker, put_back, worker_off}
use Rattle.tau_desk.proofs.desk.Desk.split_worker.Goals as goal
use Rattle.tau_desk.proofs.JoiningIn.{same_origin}

pub part_off-seat-requires-clause-there : goal.part_off-seat-requires-clause-there
part_off-seat-requires-clause-there c =
    let desk = c.args.self.now in
    let key = desk.table.shared.key.value in
    let h = c.head.invariant in
    let head = c.head.inside in
    let v = c.head.view_is in
    let a : h.origin ≡ key = same_origin head.seat.me.0.opened h.origin key h.opened (ap (λ (p : PlainHead). p.me.0.opened) v ∙ c.requires.opened) in
    let l : desk.load ≡ key.load = desk.same_load in
    let s : desk.streams ≡ key.load.streams = desk.streams_are.0 in
    let w : ℕ = c.args.worker in
    let o = c.take_work-work.result in
    let e : slice_get head.workers.items w ≡ Some (Some o) = c.take_work-work.ensures.taken in
    let g = h.worker w o e in
    (g.role, g.is)

pub put_work-requires : goal.put_work-requires
put_work-requires c =
    let w : ℕ = c.args.worker in
    let lt = slice_get_within c.head.inside.workers.items w (Some c.take_work-work.result) c.take_work-work.ensures.taken in
    let e = ap (λ (x : List (Option PlainWork)). length x) c.take_work-work.ensures.left ∙ length-set c.head.inside.workers.items w None in
    omega (arith, lt, e)

pub invariant_of-head-2 : goal.invariant_of-head-2
invariant_of-head-2 c =
    let desk = c.args.self.now in
    let key = desk.table.shared.key.value in
    let h = c.head.invariant in
    let head = c.head.inside in
    let v = c.head.view_is in
    let a : h.origin ≡ key = same_origin head.seat.me.0.opened h.origin key h.opened (ap (λ (p : PlainHead). p.me.0.opened) v ∙ c.requires.opened) in
    let l : desk.load ≡ key.load = desk.same_load in
    let s : desk.streams ≡ key.load.streams = desk.streams_are.0 in
    let w : ℕ = c.args.worker in
    let o = c.take_work-work.result in
    let e : slice_get head.workers.items w ≡ Some (Some o) = c.take_work-work.ensures.taken in
    let g = h.worker w o e in
    let me : c.part_off-seat.new.seat.me ≡ (left_by w head.seat.me.0, []) = c.part_off-seat.ensures.parted.0 ∙ (λ i. (left_by w head.seat.me.0, h.none i)) in
    subst (λ (z : Sat × List (Option PlainWork)). IsHead z.0 z.1 head.managers.items head.clerk head.seen) (λ i. (sym me i, sym c.take_work-work.ensures.left i))
    (head_less_worker head.seat.me head.workers.items head.managers.items head.clerk head.seen h w g.work.there)

pub invariant_of-result : goal.invariant_of-result
invariant_of-result c =
    let desk = c.args.self.now in
    let key = desk.table.shared.key.value in
    let h = c.head.invariant in
    let head = c.head.inside in
    let v = c.head.view_is in
    let a : h.origin ≡ key = same_origin head.seat.me.0.opened h.origin key h.opened (ap (λ (p : PlainHead). p.me.0.opened) v ∙ c.requires.opened) in
    let l : desk.load ≡ key.load = desk.same_load in
    let s : desk.streams ≡ key.load.streams = desk.streams_are.0 in
    let w : ℕ = c.args.worker in
    let o = c.take_work-work.result in
    let e : slice_get head.workers.items w ≡ Some (Some o) = c.take_work-work.ensures.taken in
    let room : ℕ = c.reserve_more.new.committed.room in
    let old : c.work.inside.committed.room ≡ o.committed_room = ap (λ (x : PlainWork). x.committed_room) c.work.view_is in
    let more : o.committed_room ≤ room = (let p = c.reserve_more.ensures.kept in omega (arith, old, p)) in
    let zeros : c.zero.result ≡ replicate h.origin.load.streams 0 = c.zero.ensures ∙ ap (λ (n : ℕ). replicate n 0) (s ∙ ap (λ (p : Plain). p.load.streams) (sym a)) in
    let kept = c.reserve_more.ensures.items ∙ ap (λ (x : PlainWork). x.committed) c.work.view_is in
    subst (λ (z : Sat × PlainWork × List ℕ). IsWorkerSeat z.0 w z.1 (0, z.2) head.seen)
    (λ i. (sym c.part_off-seat.ensures.parted.1 i, sym (λ k. record (c.work.view_is k) { committed = kept k; committed_room = room }) i, sym zeros i))
    (worker_off head.seat.me head.workers.items head.managers.items head.clerk head.seen h w room o e more)

pub invariant_of-head : goal.invariant_of-head
invariant_of-head c =
    let desk = c.args.self.now in
    let key = desk.table.shared.key.value in
    let h = c.head.invariant in
    let head = c.head.inside in
    let v = c.head.view_is in
    let a : h.origin ≡ key = same_origin head.seat.me.0.opened h.origin key h.opened (ap (λ (p : PlainHead). p.me.0.opened) v ∙ c.requires.opened) in
    let l : desk.load ≡ key.load = desk.same_load in
    let s : desk.streams ≡ key.load.streams = desk.streams_are.0 in
    let w : ℕ = c.args.worker in
    let o = c.take_work-work.result in
    let e : slice_get head.workers.items w ≡ Some (Some o) = c.take_work-work.ensures.taken in
    let same_list : c.reserve_more.new.committed ≡ c.work.inside.committed = search rules in
    let room : c.reserve_more.new.committed.room ≡ o.committed_room = ap (λ (q : PlainCommittedList). q.room) same_list ∙ ap (λ (x : PlainWork). x.committed_room) c.work.view_is in
    let kept = c.reserve_more.ensures.items ∙ ap (λ (x : PlainWork). x.committed) c.work.view_is in
    let items : c.put_work.new.workers.items ≡ head.workers.items = c.put_work.ensures ∙ (λ i. slice_set (c.take_work-work.ensures.left i) w (Some (record (c.work.view_is i) { committed = kept i; committed_room = room i }))) ∙ put_back head.workers.items w o o e refl in
    subst (λ (xs : List (Option PlainWork)). IsHead head.seat.me xs head.managers.items head.clerk head.seen) (sym items) h

pub returns-then-is_err-clause-refused : goal.returns-then-is_err-clause-refused
returns-then-is_err-clause-refused c =
    let desk = c.args.self.now in
    let key = desk.table.shared.key.value in
    let h = c.head.invariant in
    let head = c.head.inside in
    let v = c.head.view_is in
    let a : h.origin ≡ key = same_origin head.seat.me.0.opened h.origin key h.opened (ap (λ (p : PlainHead). p.me.0.opened) v ∙ c.requires.opened) in
    let l : desk.load ≡ key.load = desk.same_load in
    let s : desk.streams ≡ key.load.streams = desk.streams_are.0 in
    let w : ℕ = c.args.worker in
    let o = c.take_work-work.result in
    let e : slice_get head.workers.items w ≡ Some (Some o) = c.take_work-work.ensures.taken in
    let same_list : c.reserve_more.new.committed ≡ c.work.inside.committed = search rules in
    let room : c.reserve_more.new.committed.room ≡ o.committed_room = ap (λ (q : PlainCommittedList). q.room) same_list ∙ ap (λ (x : PlainWork). x.committed_room) c.work.view_is in
    let kept = c.reserve_more.ensures.items ∙ ap (λ (x : PlainWork). x.committed) c.work.view_is in
    let items : c.put_work.new.workers.items ≡ head.workers.items = c.put_work.ensures ∙ (λ i. slice_set (c.take_work-work.ensures.left i) w (Some (record (c.work.view_is i) { committed = kept i; committed_room = room i }))) ∙ put_back head.workers.items w o o e refl in
    (λ i. record { table_id = head.seat.table_id; id = head.seat.id; me = head.seat.me; workers = items i; managers = head.managers.items; clerk = head.clerk; seen = head.seen }) ∙ v

pub returns : goal.returns
returns c =
    let desk = c.args.self.now in
    let key = desk.table.shared.key.value in
    let h = c.head.invariant in
    let head = c.head.inside in
    let v = c.head.view_is in
    let a : h.origin ≡ key = same_origin head.seat.me.0.opened h.origin key h.opened (ap (λ (p : PlainHead). p.me.0.opened) v ∙ c.requires.opened) in
    let l : desk.load ≡ key.load = desk.same_load in
    let s : desk.streams ≡ key.load.streams = desk.streams_are.0 in
    let w : ℕ = c.args.worker in
    let o = c.take_work-work.result in
    let e : slice_get head.workers.items w ≡ Some (Some o) = c.take_work-work.ensures.taken in
    let own = c.part_off-seat.ensures.own in
    let parted = c.part_off-seat.ensures.parted in
    let kept = c.reserve_more.ensures.items ∙ ap (λ (x : PlainWork). x.committed) c.work.view_is in
    let ok : c.len.result / desk.load.workers + 1 ≤ c.reserve_more.new.committed.room = search rules in
    let count : c.len.result / desk.load.workers + 1 ≡ calls_each key.load = ap (λ (n : ℕ). n / desk.load.workers + 1) c.len.ensures ∙ ap calls_each l in
    let width : desk.streams ≡ length c.args.head.now.seen = s ∙ ap (λ (p : Plain). p.load.streams) (sym a) ∙ sym h.seen_wide ∙ ap (λ (p : PlainHead). length p.seen) v in
    record {
      split = record {
        split = record {
          head_is = parted.0 ∙ (λ i. (left_by w (v i).me.0, h.none i));
          new_is = parted.1 ∙ (λ i. (split_off w (v i).me.0, []));
        };
        left = λ i. record { table_id = (own.0 ∙ ap (λ (p : PlainHead). p.table_id) v) i; id = (own.1 ∙ ap (λ (p : PlainHead). p.id) v) i; me = c.part_off-seat.new.seat.me; workers = (c.take_work-work.ensures.left ∙ ap (λ (p : PlainHead). slice_set p.workers w None) v) i; managers = (v i).managers; clerk = (v i).clerk; seen = (v i).seen };
        table = own.2 ∙ ap (λ (p : PlainHead). p.table_id) v;
        worker = refl;
        room = o.committed_room;
        work = ap (λ (p : PlainHead). slice_get p.workers w) (sym v) ∙ e ∙ sym (λ i. Some (Some (record (c.work.view_is i) { committed = kept i; committed_room = o.committed_room })));
        roomy = omega (arith, ok, count);
        read = (λ i. (0, (c.zero.ensures ∙ ap (λ (n : ℕ). replicate n 0) width) i));
        seen = ap (λ (p : PlainHead). p.seen) v;
      };
      refused = tt;
    }
