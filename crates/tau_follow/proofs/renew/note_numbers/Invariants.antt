-- The last numbers are noted.
use Rattle.std.proofs.Common.{◌≡◌, drop, map}
use Rattle.tau_base.specs.Database.{Db, written}
use Rattle.tau_base.specs.declared.value.Value.TheVariants.{Int}
use Rattle.tau_follow.specs.Renewing.{after}
use Rattle.tau_follow.proofs.renew.note_numbers.Given as goal

abbrev pub invariant-loop-at : goal.invariant-loop-at
invariant-loop-at l = (db : Db) → after l.writes.items db ≡ written (map (λ r. (r.0, Int r.1)) (drop l.at l.numbers)) (after l.initial.writes.items db)
