-- The streams so far, and those that are left.
use Rattle.std.proofs.Common.{◌≡◌, ◌++◌, map, drop}
use Rattle.tau_follow.specs.declared.reader.Reader.{Reader}
use Rattle.tau_follow.proofs.seal.lengths.Given as goal

abbrev pub invariant-loop-j : goal.invariant-loop-j
invariant-loop-j l = l.list.items ++ map (λ (r : Reader). r.at) (drop l.j l.readers) ≡ map (λ (r : Reader). r.at) l.readers
