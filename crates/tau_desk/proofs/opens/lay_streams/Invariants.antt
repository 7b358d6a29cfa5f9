use Rattle.std.proofs.Common.{◌≡◌, ◌++◌, List, Option, length}
use Rattle.tau_rule.specs.declared.part.Part.{Part}
use Rattle.tau_desk.specs.Laid.{EachOf, HasAnchor, IsItsStock}
use Rattle.tau_desk.proofs.opens.lay_streams.Given as goal

abbrev pub invariant-loop-stream : goal.invariant-loop-stream
invariant-loop-stream l = record {
  slots : (anchors : List (Option Part)) × (l.slots.items ≡ l.initial.slots.items ++ anchors) × EachOf (HasAnchor (length l.ends)) l.yielded anchors;
  stocks : EachOf (IsItsStock l.ends) l.yielded l.stocks.items;
}
