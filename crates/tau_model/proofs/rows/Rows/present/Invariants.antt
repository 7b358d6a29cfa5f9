-- The present rows so far, and those that are left, are all.
use Rattle.std.proofs.Common.{◌≡◌, ◌++◌}
use Rattle.std.specs.List.{filter}
use Rattle.tau_model.specs.Tables.{is_present}
use Rattle.tau_model.proofs.rows.Rows.present.Given as goal

abbrev pub invariant-loop-key : goal.invariant-loop-key
invariant-loop-key l = l.rows.items ++ filter is_present l.key-iterator ≡ filter is_present l.self.rows.entries
