-- The records so far are redone, and what they wrote is noted.
use Rattle.std.proofs.Common.{◌≡◌, ◌≤◌, List, length, take}
use Rattle.tau_base.specs.Database.{Db}
use Rattle.tau_model.specs.Store.{database}
use Rattle.tau_scan.specs.Taken.{Kept}
use Rattle.tau_follow.specs.Applying.{redone_of, AreSpots}
use Rattle.tau_follow.specs.Renewing.{after}
use Rattle.tau_follow.proofs.redo.redo_from.Given as goal

abbrev pub invariant-loop-i : goal.invariant-loop-i
invariant-loop-i l = record {
  redone : (order : List Kept) → AreSpots l.streams l.spots order → l.from ≤ length order → database l.initial.store ≡ redone_of l.procs (take l.from order) → database l.store ≡ redone_of l.procs (take l.i order);
  noted : (db : Db) → database l.initial.store ≡ after l.initial.noted.items db → database l.store ≡ after l.noted.items db;
}
