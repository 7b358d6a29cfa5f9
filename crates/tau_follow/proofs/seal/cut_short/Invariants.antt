-- Of the streams so far nothing is left.
use Rattle.std.proofs.Common.{ℕ, ◌≡◌, ◌<◌, [], Some}
use Rattle.std.specs.Prelude.{slice_get}
use Rattle.tau_follow.specs.declared.reader.Reader.{Reader}
use Rattle.tau_follow.proofs.seal.cut_short.Given as goal

abbrev pub invariant-loop-j : goal.invariant-loop-j
invariant-loop-j l = (i : ℕ) (r : Reader) → i < l.j → slice_get l.readers i ≡ Some r → r.rest.items ≡ []
