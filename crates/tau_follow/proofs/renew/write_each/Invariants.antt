-- The writes so far are put, and there is room for the others.
use Rattle.std.proofs.Common.{◌+◌, ◌≤◌, take, length, vec_len}
use Rattle.std.specs.Prelude.{vec_capacity}
use Rattle.tau_base.specs.Database.{Db}
use Rattle.tau_model.specs.Tables.{IsTablesOf}
use Rattle.tau_follow.specs.Renewing.{after}
use Rattle.tau_follow.proofs.renew.write_each.Given as goal

abbrev pub invariant-loop-i : goal.invariant-loop-i
invariant-loop-i l = record {
  tables : (db : Db) → IsTablesOf db l.initial.rows.items → IsTablesOf (after (take l.i l.writes) db) l.rows.items;
  room : vec_len l.rows + length l.writes ≤ vec_capacity l.rows + l.i;
}
