-- What was read, which calls it flagged, and what is left.
use Rattle.std.proofs.Common.{◌≡◌, length, map}
use Rattle.tau_inspect.specs.ByNumber.{HasFlags}
use Rattle.tau_inspect.specs.Sections.{AreAcks}
use Rattle.tau_inspect.proofs.sections.read_acks.Given as goal

abbrev pub invariant-lines : goal.invariant-lines
invariant-lines l = AreAcks l.calls l.streams l.text l.acks l.rest × HasFlags l.calls (map (λ a. a.0) l.acks) l.seen.items × (length l.ack.lv ≡ l.streams)

abbrev pub decreases-lines : goal.decreases-lines
decreases-lines l = length l.rest
