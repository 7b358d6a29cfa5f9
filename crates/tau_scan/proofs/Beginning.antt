-- The numbers of epochs and anchors, gone through one by one.
use Rattle.std.proofs.Common.{ℕ, ◌≡◌, List, [], ◌∷◌, ◌++◌, refl, ap}
use Rattle.std.specs.Prelude.{max}
use Rattle.tau_epoch.specs.Epochs.{Mark, largest}
use Rattle.tau_scan.specs.Begins.{largest_with}

pub largest_split : (xs ys : List Mark) (n : ℕ) → largest_with (xs ++ ys) n ≡ largest_with xs (largest_with ys n)
largest_split [] ys n = refl
largest_split (x ∷ xs) ys n = ap (λ (k : ℕ). max x.number k) (largest_split xs ys n)

pub largest_is : (ms : List Mark) → largest_with ms 0 ≡ largest ms
largest_is [] = refl
largest_is (m ∷ ms) = ap (λ (k : ℕ). max m.number k) (largest_is ms)
