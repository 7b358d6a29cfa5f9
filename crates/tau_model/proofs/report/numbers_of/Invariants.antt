-- What is listed is the beginning of whatever is listed in the end.
use Rattle.std.proofs.Common.{ℕ, ◌≡◌, List, ◌++◌, map}
use Rattle.std.specs.VecDeque.{deque_items}
use Rattle.tau_model.specs.Reported.{emitted}
use Rattle.tau_model.specs.Listing.{AreListed, AreQueues, entry_place, lengths}
use Rattle.tau_model.proofs.report.numbers_of.Given as goal

abbrev pub invariant-loop-number : goal.invariant-loop-number
invariant-loop-number l = record {
  are : AreQueues l.ends (map deque_items l.streams);
  emitted : l.reach ≡ emitted entry_place (map deque_items l.streams) l.ends;
  listed : (numbers : List ℕ) → AreListed l.ends (map deque_items l.streams) numbers → AreListed l.ends (map deque_items l.fn.streams) (l.numbers.items ++ numbers);
}

abbrev pub decreases-loop-number : goal.decreases-loop-number
decreases-loop-number l = lengths (map deque_items l.streams)
