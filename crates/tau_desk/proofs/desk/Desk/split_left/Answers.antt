use Rattle.std.proofs.Common.{rules, ℕ, ◌<◌, ◌≡◌, List, [], length, length-set, refl, sym, ap, subst, ◌∙◌, Option, arith}
use Rattle.std.specs.Prelude.{Some, None, replicate, slice_get, slice_set}
use Rattle.std.specs.List.{remove}
use Rattle.std.proofs.lemmas.Option.{slice_get_within}
use Rattle.tau_model.specs.CommittedList.{PlainCommittedList}
use Rattle.tau_core.specs.State.{Plain}
use Rattle.tau_rule.specs.Heads.{left_by}
use Rattle.tau_rule.specs.Steps.{Sat}
use Rattle.tau_desk.specs.declared.resumes.LeftOver.{LeftOver}
use Rattle.tau_desk.specs.Resumes.{CanGoOn}
use Rattle.tau_desk.specs.Seats.{IsHead, IsWorkerSeat, PlainHead}
use Rattle.tau_desk.specs.Shares.{PlainWork}
use Rattle.tau_desk.proofs.CloseHead.{HeadAt, head_at}
use Rattle.tau_desk.proofs.ResumeSplits.{lefts, lefts_as, resumed_seat, resumes_at}
use Rattle.tau_desk.proofs.SplittingOff.{head_less_worker, put_back}
use Rattle.tau_desk.proofs.desk.Desk.split_left.Goals as goal
use Rattle.tau_desk.proofs.JoiningIn.{same_origin}

pub take_work-work-requires : goal.take_work-work-requires
take_work-work-requires c =
    let desk = c.args.self.now in
    let key : Plain = desk.table.shared.key.value in
    let i = c.head.inside in
    let v = c.head.view_is in
    let head : PlainHead = record { table_id = i.seat.table_id; id = i.seat.id; me = i.seat.me; workers = i.workers.items; managers = i.managers.items; clerk = i.clerk; seen = i.seen } in
    let opened : head.me.0.opened ≡ Some key = ap (λ (p : PlainHead). p.me.0.opened) v ∙ c.requires.opened in
    let g : HeadAt key head = head_at head c.head.invariant key opened in
    let l : LeftOver = c.args.left in
    let can : CanGoOn (length key.load.calls) head.workers (Some l) = subst (λ (p : PlainHead). CanGoOn (length key.load.calls) p.workers (Some l)) (sym v) c.requires.can in
    let q = lefts key head g l can in
    (q.0, q.1)

pub put_work-requires : goal.put_work-requires
put_work-requires c =
    let l : LeftOver = c.args.left in
    let lt = slice_get_within c.head.inside.workers.items l.worker (Some c.take_work-work.result) c.take_work-work.ensures.taken in
    let e = ap (λ (x : List (Option PlainWork)). length x) c.take_work-work.ensures.left ∙ length-set c.head.inside.workers.items l.worker None in
    omega (arith, lt, e)

pub invariant_of-head : goal.invariant_of-head
invariant_of-head c =
    let desk = c.args.self.now in
    let key : Plain = desk.table.shared.key.value in
    let i = c.head.inside in
    let v = c.head.view_is in
    let head : PlainHead = record { table_id = i.seat.table_id; id = i.seat.id; me = i.seat.me; workers = i.workers.items; managers = i.managers.items; clerk = i.clerk; seen = i.seen } in
    let opened : head.me.0.opened ≡ Some key = ap (λ (p : PlainHead). p.me.0.opened) v ∙ c.requires.opened in
    let g : HeadAt key head = head_at head c.head.invariant key opened in
    let l : LeftOver = c.args.left in
    let can : CanGoOn (length key.load.calls) head.workers (Some l) = subst (λ (p : PlainHead). CanGoOn (length key.load.calls) p.workers (Some l)) (sym v) c.requires.can in
    let o = c.take_work-work.result in
    let there : slice_get head.workers l.worker ≡ Some (Some o) = c.take_work-work.ensures.taken in
    let q = lefts_as key head g l can o there in
    let same_list : c.reserve.new.self ≡ c.work.inside.committed = search rules in
    let room : c.reserve.new.self.room ≡ o.committed_room = ap (λ (q : PlainCommittedList). q.room) same_list ∙ ap (λ (x : PlainWork). x.committed_room) c.work.view_is in
    let kept = c.reserve.ensures.items ∙ ap (λ (x : PlainWork). x.committed) c.work.view_is in
    let items : c.put_work.new.workers.items ≡ head.workers =
    c.put_work.ensures ∙ (λ k. slice_set (c.take_work-work.ensures.left k) l.worker (Some (record (c.work.view_is k) { committed = kept k; committed_room = room k }))) ∙ put_back head.workers l.worker o o there refl in
    subst (λ (xs : List (Option PlainWork)). IsHead i.seat.me xs i.managers.items i.clerk i.seen) (sym items) c.head.invariant

pub returns-then-is_err-clause-refused : goal.returns-then-is_err-clause-refused
returns-then-is_err-clause-refused c =
    let desk = c.args.self.now in
    let key : Plain = desk.table.shared.key.value in
    let i = c.head.inside in
    let v = c.head.view_is in
    let head : PlainHead = record { table_id = i.seat.table_id; id = i.seat.id; me = i.seat.me; workers = i.workers.items; managers = i.managers.items; clerk = i.clerk; seen = i.seen } in
    let opened : head.me.0.opened ≡ Some key = ap (λ (p : PlainHead). p.me.0.opened) v ∙ c.requires.opened in
    let g : HeadAt key head = head_at head c.head.invariant key opened in
    let l : LeftOver = c.args.left in
    let can : CanGoOn (length key.load.calls) head.workers (Some l) = subst (λ (p : PlainHead). CanGoOn (length key.load.calls) p.workers (Some l)) (sym v) c.requires.can in
    let o = c.take_work-work.result in
    let there : slice_get head.workers l.worker ≡ Some (Some o) = c.take_work-work.ensures.taken in
    let q = lefts_as key head g l can o there in
    let same_list : c.reserve.new.self ≡ c.work.inside.committed = search rules in
    let room : c.reserve.new.self.room ≡ o.committed_room = ap (λ (q : PlainCommittedList). q.room) same_list ∙ ap (λ (x : PlainWork). x.committed_room) c.work.view_is in
    let kept = c.reserve.ensures.items ∙ ap (λ (x : PlainWork). x.committed) c.work.view_is in
    let items : c.put_work.new.workers.items ≡ head.workers =
    c.put_work.ensures ∙ (λ k. slice_set (c.take_work-work.ensures.left k) l.worker (Some (record (c.work.view_is k) { committed = kept k; committed_room = room k }))) ∙ put_back head.workers l.worker o o there refl in
    (λ k. record head { workers = items k }) ∙ v

pub remove-requires : goal.remove-requires
remove-requires c =
    let desk = c.args.self.now in
    let key : Plain = desk.table.shared.key.value in
    let i = c.head.inside in
    let v = c.head.view_is in
    let head : PlainHead = record { table_id = i.seat.table_id; id = i.seat.id; me = i.seat.me; workers = i.workers.items; managers = i.managers.items; clerk = i.clerk; seen = i.seen } in
    let opened : head.me.0.opened ≡ Some key = ap (λ (p : PlainHead). p.me.0.opened) v ∙ c.requires.opened in
    let g : HeadAt key head = head_at head c.head.invariant key opened in
    let l : LeftOver = c.args.left in
    let can : CanGoOn (length key.load.calls) head.workers (Some l) = subst (λ (p : PlainHead). CanGoOn (length key.load.calls) p.workers (Some l)) (sym v) c.requires.can in
    let o = c.take_work-work.result in
    let there : slice_get head.workers l.worker ≡ Some (Some o) = c.take_work-work.ensures.taken in
    let q = lefts_as key head g l can o there in
    let same : c.work.inside.left.numbers ≡ o.left = ap (λ (x : PlainWork). x.left) c.work.view_is in
    let lt = slice_get_within o.left l.at l.number q.0 in
    let e = ap (λ (x : List ℕ). length x) same in
    omega (arith, lt, e)

pub part_resumed-seat-requires-clause-can : goal.part_resumed-seat-requires-clause-can
part_resumed-seat-requires-clause-can c =
    let desk = c.args.self.now in
    let key : Plain = desk.table.shared.key.value in
    let i = c.head.inside in
    let v = c.head.view_is in
    let head : PlainHead = record { table_id = i.seat.table_id; id = i.seat.id; me = i.seat.me; workers = i.workers.items; managers = i.managers.items; clerk = i.clerk; seen = i.seen } in
    let opened : head.me.0.opened ≡ Some key = ap (λ (p : PlainHead). p.me.0.opened) v ∙ c.requires.opened in
    let g : HeadAt key head = head_at head c.head.invariant key opened in
    let l : LeftOver = c.args.left in
    let can : CanGoOn (length key.load.calls) head.workers (Some l) = subst (λ (p : PlainHead). CanGoOn (length key.load.calls) p.workers (Some l)) (sym v) c.requires.can in
    let o = c.take_work-work.result in
    let there : slice_get head.workers l.worker ≡ Some (Some o) = c.take_work-work.ensures.taken in
    let q = lefts_as key head g l can o there in
    resumes_at key head g l can o there q.0 q.1

pub overflow_cast-result : goal.overflow_cast-result
overflow_cast-result c =
    let desk = c.args.self.now in
    let key : Plain = desk.table.shared.key.value in
    let i = c.head.inside in
    let v = c.head.view_is in
    let head : PlainHead = record { table_id = i.seat.table_id; id = i.seat.id; me = i.seat.me; workers = i.workers.items; managers = i.managers.items; clerk = i.clerk; seen = i.seen } in
    let opened : head.me.0.opened ≡ Some key = ap (λ (p : PlainHead). p.me.0.opened) v ∙ c.requires.opened in
    let g : HeadAt key head = head_at head c.head.invariant key opened in
    let l : LeftOver = c.args.left in
    let can : CanGoOn (length key.load.calls) head.workers (Some l) = subst (λ (p : PlainHead). CanGoOn (length key.load.calls) p.workers (Some l)) (sym v) c.requires.can in
    let o = c.take_work-work.result in
    let there : slice_get head.workers l.worker ≡ Some (Some o) = c.take_work-work.ensures.taken in
    let q = lefts_as key head g l can o there in
    let low = (g.worker l.worker o there).work.there in
    let few = desk.few in
    omega (arith, low, few)

pub invariant_of-result : goal.invariant_of-result
invariant_of-result c =
    let desk = c.args.self.now in
    let key : Plain = desk.table.shared.key.value in
    let i = c.head.inside in
    let v = c.head.view_is in
    let head : PlainHead = record { table_id = i.seat.table_id; id = i.seat.id; me = i.seat.me; workers = i.workers.items; managers = i.managers.items; clerk = i.clerk; seen = i.seen } in
    let opened : head.me.0.opened ≡ Some key = ap (λ (p : PlainHead). p.me.0.opened) v ∙ c.requires.opened in
    let g : HeadAt key head = head_at head c.head.invariant key opened in
    let l : LeftOver = c.args.left in
    let can : CanGoOn (length key.load.calls) head.workers (Some l) = subst (λ (p : PlainHead). CanGoOn (length key.load.calls) p.workers (Some l)) (sym v) c.requires.can in
    let o = c.take_work-work.result in
    let there : slice_get head.workers l.worker ≡ Some (Some o) = c.take_work-work.ensures.taken in
    let q = lefts_as key head g l can o there in
    let h = c.head.invariant in
    let same : h.origin ≡ key = same_origin head.me.0.opened h.origin key h.opened opened in
    let zeros : c.zero.result ≡ replicate key.load.streams 0 = c.zero.ensures ∙ ap (λ (n : ℕ). replicate n 0) desk.streams_are.0 in
    let kept = c.reserve.ensures.items ∙ ap (λ (x : PlainWork). x.committed) c.work.view_is in
    let left : c.remove.new.self.numbers ≡ remove o.left l.at = c.remove.ensures.numbers ∙ ap (λ (x : PlainWork). remove x.left l.at) c.work.view_is in
    let left_room : ℕ = c.remove.new.self.room in
    let room : ℕ = c.reserve.new.self.room in
    let new : PlainWork = record o { again = Some l.number; left = remove o.left l.at; left_room = left_room; committed_room = room } in
    let seat = resumed_seat key head g l can o there q.0 q.1 i.seen left_room room new opened (h.read ∙ ap (λ (p : Plain). (0, replicate p.load.streams 0)) same) h.seen_is (h.seen_wide ∙ ap (λ (p : Plain). p.load.streams) same) refl in
    subst (λ (z : Sat × PlainWork × List ℕ). IsWorkerSeat z.0 l.worker z.1 (0, z.2) i.seen)
    (λ k. (sym c.part_resumed-seat.ensures.parted.1 k, sym (λ n. record (c.work.view_is n) { again = Some l.number; left = left n; left_room = left_room; committed = kept n; committed_room = room }) k, sym zeros k)) seat

pub invariant_of-head-2 : goal.invariant_of-head-2
invariant_of-head-2 c =
    let desk = c.args.self.now in
    let key : Plain = desk.table.shared.key.value in
    let i = c.head.inside in
    let v = c.head.view_is in
    let head : PlainHead = record { table_id = i.seat.table_id; id = i.seat.id; me = i.seat.me; workers = i.workers.items; managers = i.managers.items; clerk = i.clerk; seen = i.seen } in
    let opened : head.me.0.opened ≡ Some key = ap (λ (p : PlainHead). p.me.0.opened) v ∙ c.requires.opened in
    let g : HeadAt key head = head_at head c.head.invariant key opened in
    let l : LeftOver = c.args.left in
    let can : CanGoOn (length key.load.calls) head.workers (Some l) = subst (λ (p : PlainHead). CanGoOn (length key.load.calls) p.workers (Some l)) (sym v) c.requires.can in
    let o = c.take_work-work.result in
    let there : slice_get head.workers l.worker ≡ Some (Some o) = c.take_work-work.ensures.taken in
    let q = lefts_as key head g l can o there in
    let h = c.head.invariant in
    let low : l.worker < h.origin.load.workers = (h.worker l.worker o there).work.there in
    let me : c.part_resumed-seat.new.seat.me ≡ (left_by l.worker head.me.0, []) = c.part_resumed-seat.ensures.parted.0 ∙ (λ k. (left_by l.worker head.me.0, h.none k)) in
    subst (λ (z : Sat × List (Option PlainWork)). IsHead z.0 z.1 i.managers.items i.clerk i.seen) (λ k. (sym me k, sym c.take_work-work.ensures.left k))
    (head_less_worker i.seat.me i.workers.items i.managers.items i.clerk i.seen h l.worker low)
