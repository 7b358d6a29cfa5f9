use Rattle.std.proofs.Common.{ℕ, ◌≡◌, ◌<◌, ◌+◌, List, [], ◌∷◌, ◌++◌, Option, length, take, length-take-le, refl, sym, subst, arith}
use Rattle.std.specs.Prelude.{Some, slice_get}
use Rattle.std.proofs.lemmas.Option.{slice_get_read}
use Rattle.tau_core.proofs.Lowest.{take_snoc}
use Rattle.tau_desk.specs.declared.resumes.LeftOver.{LeftOver}
use Rattle.tau_desk.specs.Resumes.{IsLowestIn, IsLowestOf, left_in}
use Rattle.tau_desk.specs.Shares.{PlainWork}
use Rattle.tau_desk.proofs.ResumeLowest.{lowest_seat}
use Rattle.tau_desk.proofs.resumes.lowest.Goals as goal

pub loop-worker-preserved : goal.loop-worker-preserved
loop-worker-preserved c =
    let xs : List (Option PlainWork) = c.args.works.now.items in
    let w : ℕ = c.loop-worker.worker in
    let o : Option PlainWork = c.index.result.now in
    let lt : w < length xs = (let t = c.loop-worker-test.true in let e = c.len-worker-end.ensures in omega (arith, t, e)) in
    let is : slice_get xs w ≡ Some o = slice_get_read xs (length xs) w o refl lt c.index.ensures in
    let len : length (take w xs) ≡ w = length-take-le w xs (omega (arith, lt)) in
    let more : take (w + 1) xs ≡ take w xs ++ o ∷ [] = take_snoc xs w o is in
    let low : IsLowestIn (length (take w xs)) (left_in o) c.lowest_at.result = subst (λ (n : ℕ). IsLowestIn n (left_in o) c.lowest_at.result) (sym len) c.lowest_at.ensures in
    subst (λ (x : List (Option PlainWork) × Option LeftOver). IsLowestOf x.0 x.1) (λ i. (sym more i, sym c.lower-found.ensures i)) (lowest_seat (take w xs) o c.loop-worker.found c.lowest_at.result c.loop-worker.invariant low)
