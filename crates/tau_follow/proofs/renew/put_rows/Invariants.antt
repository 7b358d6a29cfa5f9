-- The writes so far are put, and the keys stay.
use Rattle.std.proofs.Common.{◌≡◌, take}
use Rattle.tau_base.specs.Database.{Db}
use Rattle.tau_model.specs.Tables.{IsTablesOf}
use Rattle.tau_follow.specs.Renewing.{after, keys_in, ArePut}
use Rattle.tau_follow.proofs.renew.put_rows.Given as goal

abbrev pub invariant-loop-i : goal.invariant-loop-i
invariant-loop-i l = (db : Db) → IsTablesOf db l.initial.rows.items → ArePut (keys_in l.initial.rows.items) l.writes l.places → IsTablesOf (after (take l.i l.writes) db) l.rows.items × (keys_in l.rows.items ≡ keys_in l.initial.rows.items)
