-- What recovery finds on the disks of a drill.
use Rattle.std.proofs.Common.{ℕ, zero, suc, ◌≤◌, ◌≡◌, inl, inr, Bool, true, false, List, [], ◌∷◌, ◌++◌, length, refl, sym, ap, subst, ◌∙◌, arith, ◌+◌, ◌-◌, ◌==◌, ◌&&◌, take, length-append}
use Rattle.std.specs.Prelude.{Some, None, slice_get, Ok}
use Rattle.std.specs.List.{filter, list_any}
use Rattle.tau_base.specs.declared.value.LogMode.TheVariants.{Values}
use Rattle.tau_base.specs.Database.{Db, empty_db}
use Rattle.tau_disk.specs.declared.call.Tear.{Tear}
use Rattle.tau_disk.specs.declared.call.Tear.TheVariants.{Old, New, Torn}
use Rattle.tau_disk.specs.declared.disk.Disk.{Ghosts}
use Rattle.tau_disk.specs.declared.memory.MemDisk.{MemDisk}
use Rattle.tau_disk.specs.Memory.{state_of, is_short_by, fails_at, keeps_at}
use Rattle.tau_disk.specs.Replay.{leaves, is_from, is_stop}
use Rattle.tau_disk.specs.Tear.{image_by}
use Rattle.tau_model.specs.History.{Act, Member, exec, updates}
use Rattle.tau_model.specs.Tables.{IsTablesOf}
use Rattle.tau_text.specs.declared.load.Workload.{Workload}
use Rattle.tau_words.specs.declared.command.Ending.{Ending}
use Rattle.tau_report.specs.Report.{ack_lines}
use Rattle.tau_scan.specs.declared.log.Log.{Log}
use Rattle.tau_scan.specs.Reading.{log_of}
use Rattle.tau_scan.specs.Taken.{Kept}
use Rattle.tau_replay.specs.Redone.{IsOrderOf}
use Rattle.tau_run.specs.Run.{Committed, acts, means, has_ack}
use Rattle.tau_run.specs.Start.{Start}
use Rattle.tau_run.specs.RecoveredFacts.{AreFrom, IsRecovered, takes}
use Rattle.tau_engine.specs.Drill.{AreNewDisks, ArePlanned, IsDrill, IsFound, IsNew, IsPlay, IsRehearsed, StopsAt, images_by, is_of, stop_at, tear_in}
use Rattle.tau_engine.specs.DiskFacts.{Now}
use Rattle.tau_commands.specs.Recovery.{IsRecoveryOf}
use Rattle.tau_base.proofs.Lists.{some_at, got_more, got_within, length_mapped, got_mapped}
use Rattle.tau_disk.proofs.Images.{reach_least}

-- ---- disks in memory

-- each of the three images is one that a stop now may leave
pub image_left : (d : MemDisk) (tear : Tear) → leaves (state_of d) (image_by (state_of d) tear)
image_left d Old = record { same = λ k got_within outside. refl; no_shorter = omega arith; no_longer = reach_least (length (state_of d).synced) (state_of d).tears }
image_left d New = subst (λ (x : List ℕ). leaves (state_of d) x) d.reads d.sound
image_left d Torn = d.torn_sound

-- ---- what recovery finds

module _ {G : Ghosts MemDisk} (tells : G.tells) (left : (d : MemDisk) (tear : Tear) → G.may_leave d (image_by (state_of d) tear)) (n m : ℕ) (load : Workload) (old new : List MemDisk) (count : length old ≡ n) (same_count : length new ≡ n) (wrote : List ℕ → Type 0)
    (r : IsRehearsed G n m load old new wrote) (tear : Tear) where
  pub from_now : AreFrom (Now G.tells G.may_leave old new) n (images_by tear new)
  from_now = (
    length_mapped (λ (d : MemDisk). image_by (state_of d) tear) new ∙ same_count,
    λ j image got.
        (let e = got_mapped (λ (d : MemDisk). image_by (state_of d) tear) new j image got in
        let lt = got_within new j e.0 e.1 in
        let d = some_at old j (omega (arith, lt, count, same_count)) in
        (d.0, e.0, d.1, e.1, (tells, subst (λ (x : List ℕ). G.may_leave e.0 x) e.2 (left e.0 tear)))),
  )

  -- a closed part of the history
  abbrev pub recovered : IsRecovered n Values load r.facts.run (images_by tear new)
  recovered = r.facts.imaged.each tt (images_by tear new) from_now

  pub taken : (x : Act Committed) → Member x (acts load.declarations.procs r.facts.run) → has_ack r.facts.run x.call.number ≡ true → updates x.effect ≡ true → takes recovered.log x.call ≡ true
  taken x member acked up = (r.facts.acknowledged (images_by tear new) from_now recovered.log recovered.reads x member acked).0 up

  pub rows_are : (found : List ℕ) (f : IsRecoveryOf recovered.log found) → IsTablesOf (exec (means load.declarations.procs) (filter (takes recovered.log) r.facts.run.calls) empty_db) f.rows
  rows_are found f =
      let none : r.facts.run.start.base ≡ empty_db = ap (λ (b : Start). b.base) r.facts.begins in
      subst (λ (db : Db). IsTablesOf db f.rows) (recovered.sound.redone.alike f.redone.order f.redone.is_order ∙ ap (exec (means load.declarations.procs) (filter (takes recovered.log) r.facts.run.calls)) none) f.redone.tables

  pub ordered : (log : Log) × (log_of None (images_by tear new) ≡ Ok log) × (order : List Kept) × IsOrderOf log order
  ordered = (recovered.log, recovered.reads, recovered.sound.redone.ordered.0, recovered.sound.redone.ordered.1)

module _ {G : Ghosts MemDisk} (tells : G.tells) (left : (d : MemDisk) (tear : Tear) → G.may_leave d (image_by (state_of d) tear)) (n m : ℕ) (how : Ending) (load : Workload) (old new : List MemDisk) (count : length old ≡ n) (same_count : length new ≡ n) (held acks text : List ℕ)
    (play : IsPlay G n m load old new (λ lines. acks ≡ held ++ lines)) (begun : held ≡ []) (calls : ℕ) (f : IsFound (images_by (tear_in how) new) calls (λ lines. text ≡ acks ++ lines)) (planned : ArePlanned n m load how old new calls) (has_room : list_any is_short_by new ≡ false) where
  abbrev r : IsRehearsed G n m load old new (λ lines. acks ≡ held ++ lines)
  r = play.rehearsed

  abbrev again : IsRehearsed G n m load old new (λ lines. acks ≡ lines)
  again = record { failed = r.failed; ends = r.ends; facts = r.facts; acked = r.acked ∙ ap (λ (h : List ℕ). h ++ ack_lines r.facts.run.acks) begun }

  abbrev recovers : IsRecovered n Values load again.facts.run (images_by (tear_in how) new)
  recovers = recovered tells left n m load old new count same_count (λ lines. acks ≡ lines) again (tear_in how)

  same_log : f.log ≡ recovers.log
  same_log = (let e : Ok f.log ≡ Ok recovers.log = sym f.reads ∙ recovers.reads in cc)

  finds : IsRecoveryOf recovers.log f.found
  finds = subst (λ (log : Log). IsRecoveryOf log f.found) same_log f.recovery

  pub drilled : IsDrill G n m how load text
  drilled = record {
    old = old;
    new = new;
    count = count;
    same_count = same_count;
    calls = calls;
    planned = planned;
    has_room = has_room;
    acks = acks;
    rehearsed = again;
    played = play.played;
    recovered = recovers;
    found = f.found;
    recovery = finds;
    taken = taken tells left n m load old new count same_count (λ lines. acks ≡ lines) again (tear_in how);
    rows = rows_are tells left n m load old new count same_count (λ lines. acks ≡ lines) again (tear_in how) f.found finds;
    text_is = f.told;
  }

-- ---- one disk more

pub one_new : (planned : ℕ → MemDisk → Type 0) (disks more : List MemDisk) (d : MemDisk) (i : ℕ) → length disks ≡ i → more ≡ disks ++ d ∷ [] → AreNewDisks planned disks → IsNew d → planned i d → AreNewDisks planned more
one_new planned disks more d i count is all new plan j x got = elim (got_more disks d x j (subst (λ (ds : List MemDisk). slice_get ds j ≡ Some x) is got)) [
  | inl before ↦ all j x before
  | inr q ↦ subst (λ (y : MemDisk). IsNew y × planned j y) q.1 (new, subst (λ (k : ℕ). planned k d) (sym (q.0 ∙ count)) plan)
]

pub one_longer : {A : Type 0} (xs more : List A) (x : A) (i : ℕ) → length xs ≡ i → more ≡ xs ++ x ∷ [] → length more ≡ i + 1
one_longer {A} xs more x i count is = let e = ap (length {A = A}) is ∙ length-append xs (x ∷ []) in omega (arith, e, count)

-- ---- the calls of an order

few_taken : (k : ℕ) (xs : List ℕ) → length (take k xs) ≤ k
few_taken zero xs = omega arith
few_taken (suc k) [] = omega arith
few_taken (suc k) (x ∷ xs) = let few = few_taken k xs in omega (arith, few)

pub taken_few : (order first : List ℕ) (k count : ℕ) → first ≡ take k order → count ≤ length first → count ≤ k
taken_few order first k count is low = let few = few_taken k order in let e = ap (length {A = ℕ}) is in omega (arith, few, e, low)

pub stops_at : (order : List ℕ) (k j : ℕ) (d : MemDisk) (first : List ℕ) (count : ℕ) (last : Bool) → first ≡ take (k - 1) order → count ≡ length (filter (λ (i : ℕ). i == j) first) → last ≡ is_of j (slice_get order (k - 1)) →
    ((c : ℕ) → fails_at d c ≡ is_from (1 + count) c) → ((c : ℕ) → keeps_at d c ≡ (last && is_stop (Some (1 + count)) c)) → StopsAt order k j d
stops_at order k j d first count last is counted last_is fails keeps =
    let from : 1 + count ≡ stop_at order k j = ap (λ (n : ℕ). 1 + n) (counted ∙ ap (λ (xs : List ℕ). length (filter (λ (i : ℕ). i == j) xs)) is) in
    record {
      fails = λ c. fails c ∙ ap (λ (n : ℕ). is_from n c) from;
      keeps = λ c. keeps c ∙ ap (λ (b : Bool). b && is_stop (Some (1 + count)) c) last_is ∙ ap (λ (n : ℕ). is_of j (slice_get order (k - 1)) && is_stop (Some n) c) from;
    }
