-- The places so far are those of the writes so far.
use Rattle.std.proofs.Common.{◌≡◌, take, length}
use Rattle.tau_follow.specs.Renewing.{keys_in, ArePut}
use Rattle.tau_follow.proofs.renew.places_put.Given as goal

abbrev pub invariant-loop-i : goal.invariant-loop-i
invariant-loop-i l = record { long : length l.places.items ≡ l.i; put : ArePut (keys_in l.rows) (take l.i l.writes) l.places.items }
