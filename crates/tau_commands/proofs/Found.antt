-- What was read of the disks before the slots and of the slots, said of all disks.
use Rattle.std.proofs.Common.{ℕ, ◌+◌, ◌<◌, ◌≤◌, ◌≡◌, true, List, [], ◌++◌, length, map, take, drop, refl, inl, inr, sym, ap, subst, ◌∙◌, arith}
use Rattle.std.proofs.Math.Seq.{drop-append_seam, take-append_seam}
use Rattle.std.proofs.lemmas.List.{take-take}
use Rattle.std.specs.Prelude.{None, Some, Result, Ok, Err, slice_get}
use Rattle.tau_base.proofs.Lists.{got_within}
use Rattle.tau_base.specs.declared.limits.TheConstants.{MAX_STREAMS}
use Rattle.tau_disk.specs.declared.disk.Disk.{Ghosts}
use Rattle.tau_disk.specs.Disk.{Rose}
use Rattle.tau_disk.specs.Used.{Each, EachIn, EachUsed, IsClean, IsFirstStopped, RoseAt}
use Rattle.tau_disk.proofs.Places.{each_weaker}
use Rattle.tau_run.specs.RunFacts.{WroteFront}
use Rattle.tau_scan.specs.declared.fault.LogFault.{LogFault}
use Rattle.tau_scan.specs.declared.fault.ScanRefusal.TheVariants as scans
use Rattle.tau_scan.specs.declared.log.Log.{Log}
use Rattle.tau_scan.specs.Reading.{HasRead, log_of}
use Rattle.tau_commands.specs.declared.disks.TheConstants.{DISKS}
use Rattle.tau_commands.specs.declared.slots.Found.{Found}
use Rattle.tau_commands.specs.declared.slots.SlotRefusal.{SlotRefusal}
use Rattle.tau_commands.specs.declared.slots.SlotRefusal.TheVariants as refusals
use Rattle.tau_commands.specs.declared.status.Status.{Status}
use Rattle.tau_commands.specs.declared.status.Status.TheVariants as status
use Rattle.tau_commands.specs.Checkpoints.{HasEnded, HoldSlots, IsUsed, slots_of}
use Rattle.tau_commands.specs.Fault.{TellsFault, fault_text}
use Rattle.tau_commands.specs.Finding.{AllWhole, FindsAll, FindsBy, IsFound, slot_status}
use Rattle.tau_commands.specs.Outside.{Output, Wrote}
use Rattle.tau_commands.specs.Recovery.{images_of}
use Rattle.tau_commands.proofs.Entries.{each_used, first_slot, first_stream, of_slot, of_stream, unused}

-- nothing is told of lack of memory
pub nothing_told : (wrote : List ℕ → Type 0) (rose : Type 0) → WroteFront wrote rose [] → wrote []
nothing_told wrote rose (inl all) = all
nothing_told wrote rose (inr part) = absurd (let lt = part.1 in omega (arith, lt))

-- the parts of all disks, by how many the first has
module _ {D : Type 0} (old first last : List D) (is : old ≡ first ++ last) (long : length first ≡ MAX_STREAMS) where
  first_is : take MAX_STREAMS old ≡ first
  first_is = ap (λ (ds : List D). take MAX_STREAMS ds) is ∙ subst (λ (k : ℕ). take k (first ++ last) ≡ first) long (take-append_seam first last)

  last_is : drop MAX_STREAMS old ≡ last
  last_is = ap (λ (ds : List D). drop MAX_STREAMS ds) is ∙ subst (λ (k : ℕ). drop k (first ++ last) ≡ last) long (drop-append_seam first last)

  pub finds_at : (G : Ghosts D) (Most Whole : D → D → Type 0) (n : ℕ) (front slots : List D) (result : Result Found Status) → FindsAll G Most Whole n first front last slots result →
      FindsAll G Most Whole n (take MAX_STREAMS old) front (drop MAX_STREAMS old) slots result
  finds_at G Most Whole n front slots result h =
      subst (λ (ds : List D). FindsAll G Most Whole n ds front (drop MAX_STREAMS old) slots result) (sym first_is)
      (subst (λ (ds : List D). FindsAll G Most Whole n first front ds slots result) (sym last_is) h)

-- ---- what a reading gives that did not go to its end

module _ {D : Type 0} (G : Ghosts D) (Most Whole : D → D → Type 0) (n : ℕ) (front front' slots slots' : List D) (streams : EachUsed Most front front' n) (rest : drop n front' ≡ drop n front) (slots_at : Each Most slots slots') where
  -- a slot was not read
  pub slot_stops : EachUsed (IsClean G.tells G.number G.fails) front front' n → (refusal : SlotRefusal) →
      ((j : ℕ) → refusal ≡ refusals.Failed j → RoseAt G.faults slots slots' j × (G.tells → IsFirstStopped G.tells G.number G.fails G.short slots slots' j)) →
      FindsAll G Most Whole n front front' slots slots' (Err (slot_status refusal))
  slot_stops clean refusals.NoMemory stops = record { streams = streams; rest = rest; slots_at = slots_at; by = tt }
  slot_stops clean (refusals.Failed j) stops = record {
    streams = streams;
    rest = rest;
    slots_at = slots_at;
    by = inr (record { slot = j; place = refl; clean = clean; rose = (stops j refl).0; first = (stops j refl).1 });
  }

  -- all was read, and there is no log
  pub no_log : (fault : LogFault) → EachUsed Whole front front' n → Each Whole slots slots' → HasRead G.tells G.seen None (take n front) (Err (scans.Bad fault)) → FindsAll G Most Whole n front front' slots slots' (Err (status.BadLog fault))
  no_log fault whole whole' read = record { streams = streams; rest = rest; slots_at = slots_at; by = ((whole, whole'), read) }

module _ {D : Type 0} (G : Ghosts D) (n : ℕ) (le : n ≤ MAX_STREAMS) (old : List D) where
  same_images : (images : List (List ℕ)) → images ≡ map G.seen (take n (take MAX_STREAMS old)) → images ≡ images_of G.seen old n
  same_images images is = is ∙ ap (λ (ds : List D). map G.seen ds) (take-take n MAX_STREAMS old le)

  -- what was read as the log is the log of the disks, or the cause why they hold none
  pub log_is : (log : Log) → HasRead G.tells G.seen None (take n (take MAX_STREAMS old)) (Ok log) → G.tells → log_of None (images_of G.seen old n) ≡ Ok log
  log_is log read t = subst (λ (images : List (List ℕ)). log_of None images ≡ Ok log) (same_images read.images (read.as_seen t)) read.gives

  pub fault_is : (fault : LogFault) → HasRead G.tells G.seen None (take n (take MAX_STREAMS old)) (Err (scans.Bad fault)) → G.tells → log_of None (images_of G.seen old n) ≡ Err fault
  fault_is fault read t = subst (λ (images : List (List ℕ)). log_of None images ≡ Err fault) (same_images read.images (read.as_seen t)) read.gives

  pub held_is : (found : Found) → IsFound G (take n (take MAX_STREAMS old)) (drop MAX_STREAMS old) found → G.tells → HoldSlots (slots_of G.seen old) found.slots
  held_is found is t = subst (λ (images : List (List ℕ)). HoldSlots images found.slots) (is.as_seen t) is.holds

  module _ (Most Whole : D → D → Type 0) (front slots : List D) (many : length old ≡ DISKS) (long : length front ≡ MAX_STREAMS) (few : length slots ≡ 2) (result : Result Found Status)
      (all : FindsAll G Most Whole n (take MAX_STREAMS old) front (drop MAX_STREAMS old) slots result) where
    abbrev pub now : List D
    now = front ++ slots

    pub at_most : EachIn (IsUsed n) (λ j. Most) old now
    at_most = each_used old front slots many long few n le Most all.streams all.slots_at

    pub kept : (j : ℕ) → (IsUsed n j → ⊥) → slice_get now j ≡ slice_get old j
    kept = unused old front slots many long few n le all.rest

    pub each_whole : AllWhole G Most Whole n (take MAX_STREAMS old) front (drop MAX_STREAMS old) slots → EachIn (IsUsed n) (λ j. Whole) old now
    each_whole whole = each_used old front slots many long few n le Whole whole.0 whole.1

    abbrev FailsAt : ℕ → Type 0
    FailsAt j = IsUsed n j × RoseAt G.faults old now j × (G.tells → IsFirstStopped G.tells G.number G.fails G.short old now j)

    fails_at : (j : ℕ) → FindsBy G Most Whole n (take MAX_STREAMS old) front (drop MAX_STREAMS old) slots (Err (status.DiskFault j)) → FailsAt j
    fails_at j (inl stop) = (
      inl stop.low,
      of_stream old front slots many long few (λ d e. Rose (G.faults d) (G.faults e)) j (omega (arith, stop.low, le)) stop.rose,
      λ t. first_stream old front slots many long few n le all.rest G.tells G.number G.fails G.short j stop.low (stop.first t),
    )
    fails_at j (inr stop) =
        let (d, e, was, is, rose) = stop.rose in
        let under : stop.slot < length slots = got_within slots stop.slot e is in
        subst (λ (k : ℕ). FailsAt k) (sym stop.place) (
          inr (omega arith, omega (arith, under, few)),
          of_slot old front slots many long few (λ d e. Rose (G.faults d) (G.faults e)) stop.slot stop.rose,
          λ t. first_slot old front slots many long few n le all.rest G.tells G.number G.fails G.short stop.slot stop.clean (stop.first t),
        )

    module _ (o : Output) (clean : (d e : D) → Whole d e → IsClean G.tells G.number G.fails d e) where
      abbrev wrote : List ℕ → Type 0
      wrote = Wrote o.hears o.held o.held'

      abbrev rose : Type 0
      rose = Rose o.faults o.faults'

      pub each_clean : AllWhole G Most Whole n (take MAX_STREAMS old) front (drop MAX_STREAMS old) slots → EachIn (IsUsed n) (λ j. IsClean G.tells G.number G.fails) old now
      each_clean whole = each_weaker (IsUsed n) (IsUsed n) (λ j. Whole) (λ j. IsClean G.tells G.number G.fails) old now (each_whole whole) (λ j used. used) (λ j. clean)

      -- out of memory
      pub ended_short : wrote [] → HasEnded G o old now status.NoMemory n
      ended_short silent = record {
        kind = refl;
        disk = λ j e. absurd (cc e);
        stopped = λ j e. absurd (cc e);
        clean = λ e. absurd (cc e);
        refusal = λ e. absurd (cc e);
        disk_line = λ j e. absurd (cc e);
        sink = λ e. absurd (cc e);
        silent = λ e. silent;
        rest = kept;
      }

      pub ended_bad : (fault : LogFault) → AllWhole G Most Whole n (take MAX_STREAMS old) front (drop MAX_STREAMS old) slots → WroteFront wrote rose (fault_text (status.BadLog fault)) → HasEnded G o old now (status.BadLog fault) n
      ended_bad fault whole told = record {
        kind = refl;
        disk = λ j e. absurd (cc e);
        stopped = λ j e. absurd (cc e);
        clean = λ e. each_clean whole;
        refusal = λ e. told;
        disk_line = λ j e. absurd (cc e);
        sink = λ e. absurd (cc e);
        silent = λ e. absurd (cc e);
        rest = kept;
      }

      disk_is : (i j : ℕ) → status.DiskFault i ≡ status.DiskFault j → i ≡ j
      disk_is i j e = cc

      ended_failed : (i : ℕ) → FailsAt i → WroteFront wrote rose (fault_text (status.DiskFault i)) → HasEnded G o old now (status.DiskFault i) n
      ended_failed i fails told = record {
        kind = refl;
        disk = λ j e. subst (λ (k : ℕ). IsUsed n k × RoseAt G.faults old now k) (disk_is i j e) (fails.0, fails.1);
        stopped = λ j e. subst (λ (k : ℕ). G.tells → IsFirstStopped G.tells G.number G.fails G.short old now k) (disk_is i j e) fails.2;
        clean = λ e. absurd (cc e);
        refusal = λ e. absurd (cc e);
        disk_line = λ j e. told;
        sink = λ e. absurd (cc e);
        silent = λ e. absurd (cc e);
        rest = kept;
      }

      ended_by : (refusal : Status) → FindsBy G Most Whole n (take MAX_STREAMS old) front (drop MAX_STREAMS old) slots (Err refusal) → WroteFront wrote rose (fault_text refusal) → HasEnded G o old now refusal n
      ended_by status.NoMemory by told = ended_short (nothing_told wrote rose told)
      ended_by (status.BadLog fault) by told = ended_bad fault by.0 told
      ended_by (status.DiskFault j) by told = ended_failed j (fails_at j by) told
      ended_by status.Ok by told = absurd by
      ended_by status.WriteFault by told = absurd by
      ended_by status.Usage by told = absurd by
      ended_by (status.BadText at why) by told = absurd by
      ended_by status.ReadFault by told = absurd by
      ended_by status.TooLong by told = absurd by
      ended_by (status.BadFeed at) by told = absurd by
      ended_by (status.BadReport number) by told = absurd by

      -- what was read is refused
      pub refused_ended : (refusal answer : Status) → result ≡ Err refusal → TellsFault wrote rose refusal answer → HasEnded G o old now answer n
      refused_ended refusal answer is (inl told) =
          subst (λ (s : Status). HasEnded G o old now s n) (sym told.0) (ended_by refusal (subst (λ (r : Result Found Status). FindsBy G Most Whole n (take MAX_STREAMS old) front (drop MAX_STREAMS old) slots r) is all.by) told.1)
      refused_ended refusal answer is (inr none) = subst (λ (s : Status). HasEnded G o old now s n) (sym none.0) (ended_short none.1)

      pub no_disk_rose : (j : ℕ) → FindsBy G Most Whole n (take MAX_STREAMS old) front (drop MAX_STREAMS old) slots (Err (status.DiskFault j)) → ((i : ℕ) → IsUsed n i → RoseAt G.faults old now i → ⊥) → ⊥
      no_disk_rose j by none = let fails = fails_at j by in none j fails.0 fails.1
