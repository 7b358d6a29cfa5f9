-- The last writes are noted.
use Rattle.std.proofs.Common.{◌≡◌, drop}
use Rattle.tau_base.specs.Database.{Db, written}
use Rattle.tau_follow.specs.Renewing.{after}
use Rattle.tau_follow.proofs.renew.note_rows.Given as goal

abbrev pub invariant-loop-at : goal.invariant-loop-at
invariant-loop-at l = (db : Db) → after l.writes.items db ≡ written (drop l.at l.rows) (after l.initial.writes.items db)
