use Rattle.std.proofs.Common.{ℕ, suc, ◌+◌, ◌<◌, ◌≡◌, List, length, refl, sym, ap, ◌∙◌, arith}
use Rattle.std.specs.Prelude.{Some, slice_get, slice_set}
use Rattle.std.proofs.lemmas.Option.{slice_get_read}
use Rattle.tau_core.specs.Plain.{PlainSeat}
use Rattle.tau_core.specs.Parts.{without_hand}
use Rattle.tau_core.proofs.Emptied.{emptied, emptied_at, emptied_next, emptied_all, emptied_count}
use Rattle.tau_core.proofs.apart.let_go.Goals as goal

pub leave-requires : goal.leave-requires
leave-requires c =
    let count : length c.loop-worker.seats.items ≡ length c.args.seats.now.items = ap length c.loop-worker.invariant ∙ emptied_count c.loop-worker.worker c.args.seats.now.items in
    let within : c.loop-worker.worker < length c.loop-worker.seats.items = (let e = c.len-worker-end.ensures in let t = c.loop-worker-test.true in omega (arith, count, e, t)) in
    let got : slice_get c.loop-worker.seats.items c.loop-worker.worker ≡ Some c.index_mut-seat.result.now =
    slice_get_read c.loop-worker.seats.items (length c.loop-worker.seats.items) c.loop-worker.worker c.index_mut-seat.result.now refl within c.index_mut-seat.ensures.value in
    c.requires.rests c.loop-worker.worker c.index_mut-seat.result.now
    (sym (emptied_at c.loop-worker.worker c.args.seats.now.items) ∙ sym (ap (λ (l : List PlainSeat). slice_get l c.loop-worker.worker) c.loop-worker.invariant) ∙ got)

pub loop-worker-preserved : goal.loop-worker-preserved
loop-worker-preserved c =
    let count : length c.loop-worker.seats.items ≡ length c.args.seats.now.items = ap length c.loop-worker.invariant ∙ emptied_count c.loop-worker.worker c.args.seats.now.items in
    let within : c.loop-worker.worker < length c.loop-worker.seats.items = (let e = c.len-worker-end.ensures in let t = c.loop-worker-test.true in omega (arith, count, e, t)) in
    let got : slice_get c.loop-worker.seats.items c.loop-worker.worker ≡ Some c.index_mut-seat.result.now =
    slice_get_read c.loop-worker.seats.items (length c.loop-worker.seats.items) c.loop-worker.worker c.index_mut-seat.result.now refl within c.index_mut-seat.ensures.value in
    ap (slice_set c.loop-worker.seats.items c.loop-worker.worker) c.leave.ensures
    ∙ ap (λ (l : List PlainSeat). slice_set l c.loop-worker.worker (without_hand c.index_mut-seat.result.now)) c.loop-worker.invariant
    ∙ emptied_next c.loop-worker.worker c.args.seats.now.items c.index_mut-seat.result.now (sym (ap (λ (l : List PlainSeat). slice_get l c.loop-worker.worker) c.loop-worker.invariant) ∙ got)
    ∙ (let more : suc c.loop-worker.worker ≡ c.loop-worker.worker + 1 = omega arith in ap (λ (n : ℕ). emptied n c.args.seats.now.items) more)

pub returns : goal.returns
returns c =
    let low : c.loop-worker.worker ≡ length c.args.seats.now.items = (let e = c.len-worker-end.ensures in let t = c.loop-worker-test.false in let a = c.loop-worker.auto.worker-end in omega (arith, e, t, a)) in
    c.loop-worker.invariant ∙ ap (λ (n : ℕ). emptied n c.args.seats.now.items) low ∙ emptied_all c.args.seats.now.items
