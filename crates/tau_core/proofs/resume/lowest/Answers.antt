use Rattle.std.proofs.Common.{ℕ, ◌≡◌, ◌+◌, List, [], ◌∷◌, ◌++◌, Option, length, take, length-take-le, sym, subst, arith}
use Rattle.std.proofs.lemmas.List.{take_all}
use Rattle.tau_core.specs.declared.resume.LeftOver.{LeftOver}
use Rattle.tau_core.specs.Plain.{PlainSeat}
use Rattle.tau_core.specs.LeftOvers.{IsLowestIn, IsLowestOf}
use Rattle.tau_core.proofs.Found.{seat_in, found_seat}
use Rattle.tau_core.proofs.Lowest.{lowest_seat, take_snoc}
use Rattle.tau_core.proofs.resume.lowest.Goals as goal

pub loop-worker-preserved : goal.loop-worker-preserved
loop-worker-preserved c =
    let xs : List PlainSeat = c.args.state.now.seats.items in
    let w : ℕ = c.loop-worker.worker in
    let s : PlainSeat = seat_in c.seat.inside in
    let is = found_seat c.args.state.now w c.index-seat.result.now c.seat.inside c.requires.sound c.loop-worker-test.true c.index-seat.ensures c.seat.view_is in
    let n = c.requires.sound.seats in
    let len : length (take w xs) ≡ w = length-take-le w xs (omega arith) in
    let more : take (w + 1) xs ≡ take w xs ++ s ∷ [] = take_snoc xs w s is in
    let low : IsLowestIn (length (take w xs)) s.left c.lowest_in.result =
    subst (λ (n : ℕ). IsLowestIn n s.left c.lowest_in.result) (sym len) c.lowest_in.ensures in
    subst (λ (x : List PlainSeat × Option LeftOver). IsLowestOf x.0 x.1) (λ i. (sym more i, sym c.lower-found.ensures i)) (lowest_seat (take w xs) s c.loop-worker.found c.lowest_in.result c.loop-worker.invariant low)

pub returns : goal.returns
returns c =
    let xs : List PlainSeat = c.args.state.now.seats.items in
    let n = c.requires.sound.seats in
    let whole : take c.loop-worker.worker xs ≡ xs = take_all c.loop-worker.worker xs (omega arith) in
    subst (λ (l : List PlainSeat). IsLowestOf l c.loop-worker.found) whole c.loop-worker.invariant
