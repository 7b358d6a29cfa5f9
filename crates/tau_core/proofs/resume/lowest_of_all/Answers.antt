use Rattle.std.proofs.Common.{ℕ, ◌≡◌, ◌<◌, ◌+◌, List, [], ◌∷◌, ◌++◌, Option, length, take, length-take-le, sym, ap, subst, ◌∙◌, arith}
use Rattle.std.specs.Prelude.{Some}
use Rattle.std.proofs.lemmas.Option.{slice_get_within}
use Rattle.tau_core.specs.declared.resume.LeftOver.{LeftOver}
use Rattle.tau_core.specs.LeftOvers.{IsLowestIn, lower}
use Rattle.tau_core.proofs.Lowest.{lowest_more, take_snoc}
use Rattle.tau_core.proofs.resume.lowest_of_all.Goals as goal

pub loop-at-preserved : goal.loop-at-preserved
loop-at-preserved c =
    let xs : List ℕ = c.args.left.now.numbers in
    let at : ℕ = c.loop-at.at in
    let n : ℕ = c.get.result in
    let lt : at < length xs = slice_get_within xs at n c.get.ensures in
    let len : length (take at xs) ≡ at = length-take-le at xs (omega arith) in
    let more : take (at + 1) xs ≡ take at xs ++ n ∷ [] = take_snoc xs at n c.get.ensures in
    let result : lower c.loop-at.found (Some (record { number = n; worker = c.args.worker; at = length (take at xs) })) ≡ c.lower-found.result =
    ap (λ (k : ℕ). lower c.loop-at.found (Some (record { number = n; worker = c.args.worker; at = k }))) len ∙ sym c.lower-found.ensures in
    subst (λ (x : List ℕ × Option LeftOver). IsLowestIn c.args.worker x.0 x.1) (λ i. (sym more i, result i)) (lowest_more c.args.worker n (take at xs) c.loop-at.found c.loop-at.invariant)
