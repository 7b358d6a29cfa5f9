-- The first positions are the same.
use Rattle.std.proofs.Common.{◌≡◌, take, true}
use Rattle.tau_model.specs.Logged.{lv}
use Rattle.tau_inspect.proofs.records.Record.has_vector.Given as goal

abbrev pub invariant-loop-j : goal.invariant-loop-j
invariant-loop-j l = take l.j l.positions ≡ take l.j (lv true l.self.place)
