-- The lengths so far, and zeros.
use Rattle.std.proofs.Common.{ℕ, ◌≡◌, ◌-◌, ◌++◌, List, length, map, take, replicate}
use Rattle.tau_scan.specs.Contents.{bytes_in}
use Rattle.tau_scan.proofs.content.lengths_of.Given as goal

abbrev pub invariant-loop-j : goal.invariant-loop-j
invariant-loop-j l = l.elv ≡ map (λ (bytes : List ℕ). length bytes) (take l.j (bytes_in l.contents)) ++ replicate (length l.contents - l.j) 0
