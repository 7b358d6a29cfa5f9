-- The first components are there, and there is room for the others.
use Rattle.std.proofs.Common.{◌≡◌, ◌≤◌, ◌+◌, ◌-◌, ◌++◌, length, take}
use Rattle.std.specs.Prelude.{vec_len, vec_capacity}
use Rattle.tau_report.proofs.acks.put_parts.Given as goal

abbrev pub invariant-loop-j : goal.invariant-loop-j
invariant-loop-j l = record {
  items : l.parts.items ≡ l.initial.parts.items ++ take l.j l.lv;
  room : vec_len l.parts + (length l.lv - l.j) ≤ vec_capacity l.parts;
}
