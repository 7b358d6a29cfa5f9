-- So many streams of which nothing is read.
use Rattle.std.proofs.Common.{ℕ, ◌≡◌, [], length, replicate, Some, slice_get}
use Rattle.tau_base.specs.declared.format.Format.{Format}
use Rattle.tau_follow.specs.declared.reader.Reader.{Reader}
use Rattle.tau_follow.specs.Reading.{IsRead}
use Rattle.tau_follow.proofs.state.State.new.Given as goal

abbrev pub invariant-loop : goal.invariant-loop
invariant-loop l = (l.streams.items ≡ replicate l.counter []) × (l.stages.items ≡ replicate l.counter []) × (length l.readers.items ≡ l.counter) × ((f : Format) (j : ℕ) (r : Reader) → slice_get l.readers.items j ≡ Some r → IsRead f l.n [] [] r)
