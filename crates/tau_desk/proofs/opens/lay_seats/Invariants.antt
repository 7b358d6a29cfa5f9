use Rattle.std.proofs.Common.{◌≡◌, ◌++◌, List, Option}
use Rattle.tau_rule.specs.declared.part.Part.{Part}
use Rattle.tau_desk.specs.Laid.{EachOf, HasBox, IsItsWork}
use Rattle.tau_desk.proofs.opens.lay_seats.Given as goal

abbrev pub invariant-loop-seat : goal.invariant-loop-seat
invariant-loop-seat l = record {
  slots : (boxes : List (Option Part)) × (l.slots.items ≡ l.initial.slots.items ++ boxes) × EachOf HasBox l.yielded boxes;
  works : EachOf IsItsWork l.yielded l.works.items;
}
