-- What recovery with a checkpoint tells, by what the disks hold.
use Rattle.std.proofs.Common.{ℕ, ◌+◌, ◌<◌, ◌≤◌, ◌≡◌, true, List, [], ◌∷◌, ◌++◌, length, take, drop, refl, inl, inr, sym, ap, subst, ◌∙◌}
use Rattle.std.specs.Prelude.{Option, None, Some, Result, Ok, Err}
use Rattle.tau_base.specs.declared.limits.TheConstants.{MAX_STREAMS}
use Rattle.tau_base.specs.declared.value.Key.{Key}
use Rattle.tau_base.specs.declared.value.Value.{Value}
use Rattle.tau_disk.specs.declared.disk.Disk.{Ghosts}
use Rattle.tau_disk.specs.Disk.{Rose}
use Rattle.tau_disk.specs.Used.{AllCalls, EachIn, IsClean, OnlyRead, RoseAt}
use Rattle.tau_model.specs.History.{Member}
use Rattle.tau_run.specs.RunFacts.{WroteFront}
use Rattle.tau_scan.specs.declared.fault.LogFault.{LogFault}
use Rattle.tau_scan.specs.declared.log.Log.{Log}
use Rattle.tau_scan.specs.Outside.{calls_to_read}
use Rattle.tau_scan.specs.Reading.{log_of}
use Rattle.tau_scan.specs.Sound.{IsOrderOver}
use Rattle.tau_scan.specs.Taken.{Kept}
use Rattle.tau_ckpt.specs.declared.checkpoint.Checkpoint.{Checkpoint}
use Rattle.tau_ckpt.specs.declared.slots.Slots.{Slots}
use Rattle.tau_ckpt.specs.Chosen.{IsRestored, chosen, left_to_redo}
use Rattle.tau_commands.specs.declared.disks.TheConstants.{DISKS}
use Rattle.tau_commands.specs.declared.slots.Found.{Found}
use Rattle.tau_commands.specs.declared.status.Status.{Status}
use Rattle.tau_commands.specs.declared.status.Status.TheVariants as status
use Rattle.tau_commands.specs.Checkpoints.{EndsDone, EndsTangledOver, HasEnded, HasReadAll, HaveNoOrder, HoldSlots, IsRestoreRefused, IsUsed, OfRestore, RestoreTells, RestoreTellsOf, slots_of}
use Rattle.tau_commands.specs.Fault.{TellsFault, fault_text}
use Rattle.tau_commands.specs.Finding.{AllWhole, FindsAll, FindsBy, ReadsAll, TellsFound, WasReadWhole}
use Rattle.tau_commands.specs.Outside.{Output, Wrote, ends_recovery, is_behind_reading}
use Rattle.tau_commands.specs.Recovery.{EndsAsBad, images_of}
use Rattle.tau_commands.proofs.Found.{at_most, each_clean, each_whole, fault_is, held_is, kept, log_is, no_disk_rose, nothing_told, refused_ended}
use Rattle.tau_commands.proofs.Held.{same_held}
use Rattle.tau_commands.proofs.Ends.{recovers_well}

-- rows that were restored have an order
restored_order : (log : Log) (base : Option Checkpoint) (rows : List (Key × Value)) → IsRestored log base rows → (order : List Kept) × IsOrderOver (left_to_redo log base) order
restored_order log None rows is = (is.order, is.is_order)
restored_order log (Some c) rows is = (is.order, is.is_order)

pub log_same : (images : List (List ℕ)) (a b : Log) → log_of None images ≡ Ok a → log_of None images ≡ Ok b → a ≡ b
log_same images a b one two = cc (sym one ∙ two)

pub fault_same : (images : List (List ℕ)) (a b : LogFault) → log_of None images ≡ Err a → log_of None images ≡ Err b → a ≡ b
fault_same images a b one two = cc (sym one ∙ two)

pub not_log : (images : List (List ℕ)) (a : Log) (b : LogFault) → log_of None images ≡ Ok a → log_of None images ≡ Err b → ⊥
not_log images a b one two = (let f : Ok a ≡ Err b = sym one ∙ two in cc f)

clean_read : {D : Type 0} (G : Ghosts D) (d e : D) → WasReadWhole G d e → IsClean G.tells G.number G.fails d e
clean_read G d e calls t k low high = (let made = calls t in made.2 k low (subst (λ (n : ℕ). k ≤ n) made.0 high))

module _ {D : Type 0} (G : Ghosts D) (n : ℕ) (le : n ≤ MAX_STREAMS) (old front slots : List D) (many : length old ≡ DISKS) (long : length front ≡ MAX_STREAMS) (few : length slots ≡ 2) (result : Result Found Status)
    (all : ReadsAll G n (take MAX_STREAMS old) front (drop MAX_STREAMS old) slots result) (o : Output) where
  abbrev Read : D → D → Type 0
  Read = OnlyRead G.tells G.seen G.may_leave G.moment G.may_leave_since

  abbrev now : List D
  now = front ++ slots

  abbrev wrote : List ℕ → Type 0
  wrote = Wrote o.hears o.held o.held'

  abbrev rose : Type 0
  rose = Rose o.faults o.faults'

  abbrev images : List (List ℕ)
  images = images_of G.seen old n

  abbrev held : List (List ℕ)
  held = slots_of G.seen old

  abbrev By : Result Found Status → Type 0
  By r = FindsBy G Read (WasReadWhole G) n (take MAX_STREAMS old) front (drop MAX_STREAMS old) slots r

  only : EachIn (IsUsed n) (λ j. Read) old now
  only = at_most G n le old Read (WasReadWhole G) front slots many long few result all

  -- ---- it was refused

  module _ (refusal answer : Status) (is : result ≡ Err refusal) (told : TellsFault wrote rose refusal answer) where
    by : By (Err refusal)
    by = subst (λ (r : Result Found Status). By r) is all.by

    pub refused_is : HasEnded G o old now answer n
    refused_is = refused_ended G n le old Read (WasReadWhole G) front slots many long few result all o (clean_read G) refusal answer is told

    calls_of : (s : Status) → By (Err s) → is_behind_reading s ≡ true → EachIn (IsUsed n) (λ j. AllCalls G.tells G.number G.fails G.short calls_to_read) old now
    calls_of (status.BadLog fault) b e = each_whole G n le old Read (WasReadWhole G) front slots many long few result all b.0
    calls_of status.NoMemory b e = absurd (cc e)
    calls_of (status.DiskFault j) b e = absurd (cc e)
    calls_of status.Ok b e = absurd b
    calls_of status.WriteFault b e = absurd b
    calls_of status.Usage b e = absurd b
    calls_of (status.BadText at why) b e = absurd b
    calls_of status.ReadFault b e = absurd b
    calls_of status.TooLong b e = absurd b
    calls_of (status.BadFeed at) b e = absurd b
    calls_of (status.BadReport number) b e = absurd b

    pub refused_read : HasReadAll G old now answer n
    refused_read = record {
      read = only;
      calls = λ e. elim told [
        | inl t ↦ calls_of refusal by (sym (ap is_behind_reading t.0) ∙ e)
        | inr t ↦ absurd (let f : is_behind_reading status.NoMemory ≡ true = sym (ap is_behind_reading t.0) ∙ e in cc f)
      ];
    }

    of_short : wrote [] → OfRestore G o old now status.NoMemory n
    of_short silent = record {
      restore = λ t. silent;
      bad_log = λ fault e. absurd (cc e);
      bad_log_told = λ t fault bad. tt;
      tangled_told = λ t log slots reads holds none. tt;
      done = λ t log slots order reads holds is sink disks. inr (inl refl);
    }

    of_bad : (fault : LogFault) → By (Err (status.BadLog fault)) → OfRestore G o old now (status.BadLog fault) n
    of_bad fault b = record {
      restore = λ t. tt;
      bad_log = λ other e t. subst (λ (f : LogFault). IsRestoreRefused images held f) (same other e) (inl (fault_is G n le old fault b.1 t));
      bad_log_told = λ t other bad. fault_same images fault other (fault_is G n le old fault b.1 t) bad;
      tangled_told = λ t log slots reads holds none. absurd (not_log images log fault reads (fault_is G n le old fault b.1 t));
      done = λ t log slots order reads holds is sink disks. absurd (not_log images log fault reads (fault_is G n le old fault b.1 t));
    }
      where
        same : (other : LogFault) → status.BadLog fault ≡ status.BadLog other → fault ≡ other
        same other e = cc

    of_failed : (j : ℕ) → By (Err (status.DiskFault j)) → OfRestore G o old now (status.DiskFault j) n
    of_failed j b = record {
      restore = λ t. tt;
      bad_log = λ fault e. absurd (cc e);
      bad_log_told = λ t fault bad. tt;
      tangled_told = λ t log slots reads holds none. tt;
      done = λ t log s order reads holds is sink disks. absurd (no_disk_rose G n le old Read (WasReadWhole G) front slots many long few result all o (clean_read G) j b disks);
    }

    of_by : (s : Status) → By (Err s) → WroteFront wrote rose (fault_text s) → OfRestore G o old now s n
    of_by status.NoMemory b line = of_short (nothing_told wrote rose line)
    of_by (status.BadLog fault) b line = of_bad fault b
    of_by (status.DiskFault j) b line = of_failed j b
    of_by status.Ok b line = absurd b
    of_by status.WriteFault b line = absurd b
    of_by status.Usage b line = absurd b
    of_by (status.BadText at why) b line = absurd b
    of_by status.ReadFault b line = absurd b
    of_by status.TooLong b line = absurd b
    of_by (status.BadFeed at) b line = absurd b
    of_by (status.BadReport number) b line = absurd b

    pub refused_of : OfRestore G o old now answer n
    refused_of = elim told [
      | inl t ↦ subst (λ (s : Status). OfRestore G o old now s n) (sym t.0) (of_by refusal by t.1)
      | inr t ↦ subst (λ (s : Status). OfRestore G o old now s n) (sym t.0) (of_short t.1)
    ]

  -- ---- it was found

  module _ (found : Found) (answer : Status) (is : result ≡ Ok found) (told : TellsFound found wrote rose answer) where
    b : By (Ok found)
    b = subst (λ (r : Result Found Status). By r) is all.by

    pub found_ended : HasEnded G o old now answer n
    found_ended = record {
      kind = told.kind;
      disk = λ j e. absurd (told.no_disk j e);
      stopped = λ j e. absurd (told.no_disk j e);
      clean = λ e. each_clean G n le old Read (WasReadWhole G) front slots many long few result all o (clean_read G) b.0;
      refusal = told.refusal;
      disk_line = λ j e. absurd (told.no_disk j e);
      sink = told.sink;
      silent = λ e. subst (λ (s : Status). RestoreTellsOf found.log found.slots wrote s) e told.told;
      rest = kept G n le old Read (WasReadWhole G) front slots many long few result all;
    }

    pub found_read : HasReadAll G old now answer n
    found_read = record { read = only; calls = λ e. each_whole G n le old Read (WasReadWhole G) front slots many long few result all b.0 }

    reads : G.tells → log_of None images ≡ Ok found.log
    reads t = log_is G n le old found.log b.1.read t

    holds : G.tells → HoldSlots held found.slots
    holds t = held_is G n le old found b.1 t

    tells_of : G.tells → (s : Status) → RestoreTellsOf found.log found.slots wrote s → RestoreTells images held wrote s
    tells_of t status.Ok h = (found.log, found.slots, reads t, holds t, h)
    tells_of t status.WriteFault h = (found.log, found.slots, reads t, holds t, h)
    tells_of t status.NoMemory h = h
    tells_of t (status.DiskFault j) h = tt
    tells_of t (status.BadLog fault) h = tt
    tells_of t status.Usage h = tt
    tells_of t (status.BadText at why) h = tt
    tells_of t status.ReadFault h = tt
    tells_of t status.TooLong h = tt
    tells_of t (status.BadFeed at) h = tt
    tells_of t (status.BadReport number) h = tt

    abbrev left : List Kept
    left = left_to_redo found.log (chosen found.log found.slots)

    stuck : HaveNoOrder left → (s : Status) → ends_recovery s ≡ true → answer ≡ s → RestoreTellsOf found.log found.slots wrote s → EndsTangledOver left s
    stuck none status.Ok kind e h = let p = restored_order found.log (chosen found.log found.slots) h.1.rows h.1.redone in absurd (none p.0 p.1)
    stuck none status.WriteFault kind e h = let p = restored_order found.log (chosen found.log found.slots) h.2.rows h.2.redone in absurd (none p.0 p.1)
    stuck none status.NoMemory kind e h = tt
    stuck none (status.DiskFault j) kind e h = tt
    stuck none (status.BadLog fault) kind e h = (told.tangled fault e).0
    stuck none status.Usage kind e h = absurd (cc kind)
    stuck none (status.BadText at why) kind e h = absurd (cc kind)
    stuck none status.ReadFault kind e h = absurd (cc kind)
    stuck none status.TooLong kind e h = absurd (cc kind)
    stuck none (status.BadFeed at) kind e h = absurd (cc kind)
    stuck none (status.BadReport number) kind e h = absurd (cc kind)

    -- what the disks hold is what was found
    at_found : (P : Log → Slots → Type 0) (log : Log) (s : Slots) → G.tells → log_of None images ≡ Ok log → HoldSlots held s → P log s → P found.log found.slots
    at_found P log s t is' holds' p =
        subst (λ (l : Log). P l found.slots) (log_same images log found.log is' (reads t)) (subst (λ (x : Slots). P log x) (same_held held s found.slots holds' (holds t)) p)

    found_at : (P : Log → Slots → Type 0) (log : Log) (s : Slots) → G.tells → log_of None images ≡ Ok log → HoldSlots held s → P found.log found.slots → P log s
    found_at P log s t is' holds' p =
        subst (λ (l : Log). P l s) (log_same images found.log log (reads t) is') (subst (λ (x : Slots). P found.log x) (same_held held found.slots s (holds t) holds') p)

    pub found_of : OfRestore G o old now answer n
    found_of = record {
      restore = λ t. tells_of t answer told.told;
      bad_log = λ fault e t. inr (found.log, found.slots, reads t, holds t, (told.tangled fault e).0, (told.tangled fault e).1);
      bad_log_told = λ t fault bad. absurd (not_log images found.log fault (reads t) bad);
      tangled_told = λ t log s is' holds' none.
          found_at (λ l x. EndsTangledOver (left_to_redo l (chosen l x)) answer) log s t is' holds'
          (stuck (at_found (λ l x. HaveNoOrder (left_to_redo l (chosen l x))) log s t is' holds' none) answer told.kind refl told.told);
      done = λ t log s order is' holds' ordered sink disks.
          recovers_well answer told.kind (λ e. sink (told.sink e)) told.no_disk
          (λ fault e. (told.tangled fault e).1 order (at_found (λ l x. IsOrderOver (left_to_redo l (chosen l x)) order) log s t is' holds' ordered));
    }
