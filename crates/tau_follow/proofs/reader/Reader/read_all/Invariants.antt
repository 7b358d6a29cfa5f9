-- The reader goes on, with fewer bytes left.
use Rattle.std.proofs.Common.{◌≡◌, ◌≤◌, ◌-◌, ℕ, List, length}
use Rattle.tau_follow.specs.Reading.{IsGoing, IsLonger}
use Rattle.tau_follow.proofs.reader.Reader.read_all.Given as goal

abbrev pub invariant-records : goal.invariant-records
invariant-records l = ((content : List ℕ) → IsGoing l.format l.n content l.initial.records l.initial.self 0 → IsGoing l.format l.n content l.records l.self l.from) × (l.self.rest ≡ l.initial.self.rest) × (l.self.lacks ≡ l.initial.self.lacks) × (l.from ≤ length l.self.rest.items) × IsLonger l.initial.self l.self l.initial.records l.records

abbrev pub decreases-records : goal.decreases-records
decreases-records l = length l.self.rest.items - l.from
