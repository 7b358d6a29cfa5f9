-- How a checkpoint ends, by what was read, made and written.
use Rattle.std.proofs.Common.{ℕ, true, false, ◌+◌, ◌-◌, ◌<◌, ◌≤◌, ◌≡◌, List, [], ◌∷◌, ◌++◌, length, take, drop, refl, inl, inr, sym, ap, subst, ◌∙◌, arith, length-drop}
use Rattle.std.specs.Prelude.{None, Some, Result, Ok, Err, slice_get}
use Rattle.std.proofs.lemmas.Bool.{cases_eq}
use Rattle.tau_base.proofs.Lists.{got_within, some_at}
use Rattle.tau_base.proofs.Logic.{below_or_not, some_is}
use Rattle.tau_base.specs.declared.limits.TheConstants.{MAX_STREAMS}
use Rattle.tau_disk.specs.declared.disk.Disk.{Ghosts}
use Rattle.tau_disk.specs.Disk.{Rose}
use Rattle.tau_disk.specs.Stages.{OnlySynced}
use Rattle.tau_disk.specs.Used.{AllCalls, Each, EachIn, EachUsed, IsClean, IsFirstStopped, IsStopped, OfDisk, RoseAt}
use Rattle.tau_model.specs.History.{Member}
use Rattle.tau_run.specs.RunFacts.{WroteFront}
use Rattle.tau_scan.specs.declared.fault.LogFault.{LogFault}
use Rattle.tau_scan.specs.declared.log.Log.{Log}
use Rattle.tau_scan.specs.Reading.{log_of}
use Rattle.tau_scan.specs.Sound.{IsOrderOver}
use Rattle.tau_scan.specs.Taken.{Kept, taken}
use Rattle.tau_begin.specs.Reading.{calls_before_writes}
use Rattle.tau_ckpt.specs.declared.checkpoint.Checkpoint.{Checkpoint}
use Rattle.tau_ckpt.specs.declared.slots.NextWrite.{NextWrite}
use Rattle.tau_ckpt.specs.declared.slots.Slots.{Slots}
use Rattle.tau_ckpt.specs.Chosen.{next_write}
use Rattle.tau_commands.specs.declared.disks.TheConstants.{DISKS}
use Rattle.tau_commands.specs.declared.slots.Found.{Found}
use Rattle.tau_commands.specs.declared.checkpoints.Ready.{Ready}
use Rattle.tau_commands.specs.declared.status.Status.{Status}
use Rattle.tau_commands.specs.declared.status.Status.TheVariants as status
use Rattle.tau_commands.specs.Checkpoints.{AreUnwritten, CheckpointTells, EndsDone, EndsTangledOver, HasEnded, HaveNoOrder, HoldSlots, HoldsWritten, IsCheckpointRefused, IsMade, IsPut, IsRewritten, IsTangleOver, IsUsed, OfCheckpoint, has_written, slots_of}
use Rattle.tau_commands.specs.Fault.{TellsFault, fault_text, is_refusal}
use Rattle.tau_commands.specs.Finding.{AllWhole, AreQuiet, FailsToPut, FindsBy, HasPut, IsReadyOf, MakesAndPuts, PutsInto, RefusesToMake, SettlesAll, WasSettled, Writes}
use Rattle.tau_commands.specs.Outside.{Output, Wrote, ends_recovery, is_behind_reading}
use Rattle.tau_commands.specs.Recovery.{EndsAsBad, images_of}
use Rattle.tau_commands.proofs.Checkpointed.{put_calls, put_clean, put_holds, put_rose, put_stopped, rewritten}
use Rattle.tau_commands.proofs.Entries.{each_stream, first_slot, slot_new, slot_old, unused}
use Rattle.tau_commands.proofs.Found.{at_most, each_whole, ended_bad, ended_short, fault_is, held_is, log_is, no_disk_rose, nothing_told, refused_ended}
use Rattle.tau_commands.proofs.Held.{same_held}
use Rattle.tau_commands.proofs.Restored.{fault_same, log_same, not_log}
use Rattle.tau_commands.proofs.Settled.{clean_settled}
use Rattle.tau_commands.proofs.Ends.{recovers_well}

next_not : (slots : Slots) (next : NextWrite) (fault : LogFault) → next_write slots ≡ Ok next → next_write slots ≡ Err fault → ⊥
next_not slots next fault one two = (let f : Ok next ≡ Err fault = sym one ∙ two in cc f)

next_same : (slots : Slots) (a b : LogFault) → next_write slots ≡ Err a → next_write slots ≡ Err b → a ≡ b
next_same slots a b one two = cc (sym one ∙ two)

bad_is : (a b : LogFault) → status.BadLog a ≡ status.BadLog b → a ≡ b
bad_is a b e = cc

module _ {D : Type 0} (G : Ghosts D) (n : ℕ) (le : n ≤ MAX_STREAMS) (old front slots : List D) (many : length old ≡ DISKS) (long : length front ≡ MAX_STREAMS) (few : length slots ≡ 2) (result : Result Found Status)
    (all : SettlesAll G n (take MAX_STREAMS old) front (drop MAX_STREAMS old) slots result) (o : Output) where
  abbrev now : List D
  now = front ++ slots

  abbrev wrote : List ℕ → Type 0
  wrote = Wrote o.hears o.held o.held'

  abbrev rose : Type 0
  rose = Rose o.faults o.faults'

  abbrev images : List (List ℕ)
  images = images_of G.seen old n

  abbrev held : List (List ℕ)
  held = slots_of G.seen old

  abbrev By : Result Found Status → Type 0
  By r = FindsBy G (OnlySynced G) (WasSettled G) n (take MAX_STREAMS old) front (drop MAX_STREAMS old) slots r

  unwritten : AreUnwritten G n old now
  unwritten = at_most G n le old (OnlySynced G) (WasSettled G) front slots many long few result all

  settled_calls : AllWhole G (OnlySynced G) (WasSettled G) n (take MAX_STREAMS old) front (drop MAX_STREAMS old) slots → EachIn (IsUsed n) (λ j d e. AllCalls G.tells G.number G.fails G.short (calls_before_writes (length (G.seen d))) d e) old now
  settled_calls whole j d used was = let (e, is, r) = each_whole G n le old (OnlySynced G) (WasSettled G) front slots many long few result all whole j d used was in (e, is, r.calls)

  of_short : wrote [] → OfCheckpoint G o old now status.NoMemory n
  of_short silent = record {
    touched = inl unwritten;
    written = λ e. absurd (cc e);
    bad_log = λ fault e. absurd (cc e);
    refused = λ fault e. absurd (cc e);
    refused_calls = λ fault e. absurd (cc e);
    bad_log_told = λ t fault bad. tt;
    last_told = λ t log s fault reads holds last. tt;
    tangled_told = λ t log s next reads holds free none. tt;
    done = λ t log s next order reads holds free is sink disks. inr (inl refl);
  }

  -- ---- it was refused before all was read, or there is no log

  module _ (refusal answer : Status) (is : result ≡ Err refusal) (told : TellsFault wrote rose refusal answer) where
    by : By (Err refusal)
    by = subst (λ (r : Result Found Status). By r) is all.by

    pub unread_ended : HasEnded G o old now answer n
    unread_ended = refused_ended G n le old (OnlySynced G) (WasSettled G) front slots many long few result all o (clean_settled G) refusal answer is told

    of_bad : (fault : LogFault) → By (Err (status.BadLog fault)) → OfCheckpoint G o old now (status.BadLog fault) n
    of_bad fault b = record {
      touched = inl unwritten;
      written = λ e. absurd (cc e);
      bad_log = λ other e t. subst (λ (f : LogFault). IsCheckpointRefused images held f) (bad_is fault other e) (inl (fault_is G n le old fault b.1 t));
      refused = λ other e. unwritten;
      refused_calls = λ other e. settled_calls b.0;
      bad_log_told = λ t other bad. fault_same images fault other (fault_is G n le old fault b.1 t) bad;
      last_told = λ t log s other reads holds last. absurd (not_log images log fault reads (fault_is G n le old fault b.1 t));
      tangled_told = λ t log s next reads holds free none. absurd (not_log images log fault reads (fault_is G n le old fault b.1 t));
      done = λ t log s next order reads holds free is' sink disks. absurd (not_log images log fault reads (fault_is G n le old fault b.1 t));
    }

    of_failed : (j : ℕ) → By (Err (status.DiskFault j)) → OfCheckpoint G o old now (status.DiskFault j) n
    of_failed j b = record {
      touched = inl unwritten;
      written = λ e. absurd (cc e);
      bad_log = λ fault e. absurd (cc e);
      refused = λ fault e. absurd (cc e);
      refused_calls = λ fault e. absurd (cc e);
      bad_log_told = λ t fault bad. tt;
      last_told = λ t log s fault reads holds last. tt;
      tangled_told = λ t log s next reads holds free none. tt;
      done = λ t log s next order reads holds free is' sink disks. absurd (no_disk_rose G n le old (OnlySynced G) (WasSettled G) front slots many long few result all o (clean_settled G) j b disks);
    }

    of_by : (s : Status) → By (Err s) → WroteFront wrote rose (fault_text s) → OfCheckpoint G o old now s n
    of_by status.NoMemory b line = of_short (nothing_told wrote rose line)
    of_by (status.BadLog fault) b line = of_bad fault b
    of_by (status.DiskFault j) b line = of_failed j b
    of_by status.Ok b line = absurd b
    of_by status.WriteFault b line = absurd b
    of_by status.Usage b line = absurd b
    of_by (status.BadText at why) b line = absurd b
    of_by status.ReadFault b line = absurd b
    of_by status.TooLong b line = absurd b
    of_by (status.BadFeed at) b line = absurd b
    of_by (status.BadReport number) b line = absurd b

    pub unread_of : OfCheckpoint G o old now answer n
    unread_of = elim told [
      | inl t ↦ subst (λ (s : Status). OfCheckpoint G o old now s n) (sym t.0) (of_by refusal by t.1)
      | inr t ↦ subst (λ (s : Status). OfCheckpoint G o old now s n) (sym t.0) (of_short t.1)
    ]

  -- ---- it was found

  module _ (found : Found) (is : result ≡ Ok found) where
    b : By (Ok found)
    b = subst (λ (r : Result Found Status). By r) is all.by

    reads : G.tells → log_of None images ≡ Ok found.log
    reads t = log_is G n le old found.log b.1.read t

    holds : G.tells → HoldSlots held found.slots
    holds t = held_is G n le old found b.1 t

    -- what the disks hold is what was found
    at_found : (P : Log → Slots → Type 0) (log : Log) (s : Slots) → G.tells → log_of None images ≡ Ok log → HoldSlots held s → P log s → P found.log found.slots
    at_found P log s t is' holds' p =
        subst (λ (l : Log). P l found.slots) (log_same images log found.log is' (reads t)) (subst (λ (x : Slots). P log x) (same_held held s found.slots holds' (holds t)) p)

    found_at : (P : Log → Slots → Type 0) (log : Log) (s : Slots) → G.tells → log_of None images ≡ Ok log → HoldSlots held s → P found.log found.slots → P log s
    found_at P log s t is' holds' p =
        subst (λ (l : Log). P l s) (log_same images found.log log (reads t) is') (subst (λ (x : Slots). P found.log x) (same_held held found.slots s (holds t) holds') p)

    -- and no checkpoint is made of it
    module _ (refusal answer : Status) (refuses : RefusesToMake found refusal) (told : TellsFault wrote rose refusal answer) where
      unmade_by : (s : Status) → RefusesToMake found s → WroteFront wrote rose (fault_text s) → HasEnded G o old now s n
      unmade_by status.NoMemory r line = ended_short G n le old (OnlySynced G) (WasSettled G) front slots many long few result all o (clean_settled G) (nothing_told wrote rose line)
      unmade_by (status.BadLog fault) r line = ended_bad G n le old (OnlySynced G) (WasSettled G) front slots many long few result all o (clean_settled G) fault b.0 line
      unmade_by (status.DiskFault j) r line = absurd r
      unmade_by status.Ok r line = absurd r
      unmade_by status.WriteFault r line = absurd r
      unmade_by status.Usage r line = absurd r
      unmade_by (status.BadText at why) r line = absurd r
      unmade_by status.ReadFault r line = absurd r
      unmade_by status.TooLong r line = absurd r
      unmade_by (status.BadFeed at) r line = absurd r
      unmade_by (status.BadReport number) r line = absurd r

      pub unmade_ended : HasEnded G o old now answer n
      unmade_ended = elim told [
        | inl t ↦ subst (λ (s : Status). HasEnded G o old now s n) (sym t.0) (unmade_by refusal refuses t.1)
        | inr t ↦ subst (λ (s : Status). HasEnded G o old now s n) (sym t.0) (ended_short G n le old (OnlySynced G) (WasSettled G) front slots many long few result all o (clean_settled G) t.1)
      ]

      why : (fault : LogFault) → RefusesToMake found (status.BadLog fault) → G.tells → IsCheckpointRefused images held fault
      why fault (inl last) t = inr (found.log, found.slots, reads t, holds t, inl last)
      why fault (inr stuck) t = inr (found.log, found.slots, reads t, holds t, inr stuck)

      last_is : (fault other : LogFault) → RefusesToMake found (status.BadLog fault) → next_write found.slots ≡ Err other → fault ≡ other
      last_is fault other (inl last) e = next_same found.slots fault other last e
      last_is fault other (inr stuck) e = absurd (next_not found.slots stuck.0 other stuck.1 e)

      tangle_is : (fault : LogFault) (next : NextWrite) → RefusesToMake found (status.BadLog fault) → next_write found.slots ≡ Ok next → IsTangleOver (taken found.log) fault
      tangle_is fault next (inl last) e = absurd (next_not found.slots next fault e last)
      tangle_is fault next (inr stuck) e = stuck.2

      never : (fault : LogFault) (next : NextWrite) (order : List Kept) → RefusesToMake found (status.BadLog fault) → next_write found.slots ≡ Ok next → IsOrderOver (taken found.log) order → ⊥
      never fault next order (inl last) e ordered = next_not found.slots next fault e last
      never fault next order (inr stuck) e ordered = stuck.3 order ordered

      unmade_bad : (fault : LogFault) → RefusesToMake found (status.BadLog fault) → OfCheckpoint G o old now (status.BadLog fault) n
      unmade_bad fault r = record {
        touched = inl unwritten;
        written = λ e. absurd (cc e);
        bad_log = λ other e t. subst (λ (f : LogFault). IsCheckpointRefused images held f) (bad_is fault other e) (why fault r t);
        refused = λ other e. unwritten;
        refused_calls = λ other e. settled_calls b.0;
        bad_log_told = λ t other bad. absurd (not_log images found.log other (reads t) bad);
        last_told = λ t log s other is' holds' last. last_is fault other r (at_found (λ l x. next_write x ≡ Err other) log s t is' holds' last);
        tangled_told = λ t log s next is' holds' free none.
            found_at (λ l x. IsTangleOver (taken l) fault) log s t is' holds' (tangle_is fault next r (at_found (λ l x. next_write x ≡ Ok next) log s t is' holds' free));
        done = λ t log s next order is' holds' free ordered sink disks.
            absurd (never fault next order r (at_found (λ l x. next_write x ≡ Ok next) log s t is' holds' free) (at_found (λ l x. IsOrderOver (taken l) order) log s t is' holds' ordered));
      }

      unmade_of_by : (s : Status) → RefusesToMake found s → WroteFront wrote rose (fault_text s) → OfCheckpoint G o old now s n
      unmade_of_by status.NoMemory r line = of_short (nothing_told wrote rose line)
      unmade_of_by (status.BadLog fault) r line = unmade_bad fault r
      unmade_of_by (status.DiskFault j) r line = absurd r
      unmade_of_by status.Ok r line = absurd r
      unmade_of_by status.WriteFault r line = absurd r
      unmade_of_by status.Usage r line = absurd r
      unmade_of_by (status.BadText at cause) r line = absurd r
      unmade_of_by status.ReadFault r line = absurd r
      unmade_of_by status.TooLong r line = absurd r
      unmade_of_by (status.BadFeed at) r line = absurd r
      unmade_of_by (status.BadReport number) r line = absurd r

      pub unmade_of : OfCheckpoint G o old now answer n
      unmade_of = elim told [
        | inl t ↦ subst (λ (s : Status). OfCheckpoint G o old now s n) (sym t.0) (unmade_of_by refusal refuses t.1)
        | inr t ↦ subst (λ (s : Status). OfCheckpoint G o old now s n) (sym t.0) (of_short t.1)
      ]

    -- it was made, and written
    module _ (only_now : (d : D) (x : List ℕ) → G.may_leave_since d (G.moment d) x → G.may_leave d x) (ready : Ready) (is_ready : IsReadyOf found ready) (last : List D) (two : length last ≡ 2) (answer : Status) (puts : PutsInto G ready slots last wrote rose answer) where
      abbrev after : List D
      after = front ++ last

      abbrev place : ℕ
      place = MAX_STREAMS + ready.slot

      each_but : (R : D → D → Type 0) → EachUsed R (take MAX_STREAMS old) front n → Each R (drop MAX_STREAMS old) slots → (j : ℕ) (d : D) → IsUsed n j → (j ≡ place → ⊥) → slice_get old j ≡ Some d → (e : D) × (slice_get after j ≡ Some e) × R d e
      each_but R streams each j d (inl low) other was = each_stream old front last many long two n le R streams j d low was
      each_but R streams each j d (inr high) other was =
          let here : MAX_STREAMS + (j - MAX_STREAMS) ≡ j = omega (arith, high.0) in
          let (m, at, r) = each (j - MAX_STREAMS) d (slot_old old front last many long two (j - MAX_STREAMS) ∙ ap (λ (k : ℕ). slice_get old k) here ∙ was) in
          (m, ap (λ (k : ℕ). slice_get after k) (sym here) ∙ slot_new old front last many long two (j - MAX_STREAMS) ∙ puts.others (j - MAX_STREAMS) (λ e. other (sym here ∙ ap (λ (k : ℕ). MAX_STREAMS + k) e)) ∙ at, r)

      at_slot : (S T : D → D → Type 0) → OfDisk S slots last ready.slot → ((d m e : D) → OnlySynced G d m → WasSettled G d m → S m e → T d e) → OfDisk T old after place
      at_slot S T (m, e, was, is', s) all_of =
          let (d, there) = some_at (drop MAX_STREAMS old) ready.slot (omega (arith, length-drop MAX_STREAMS old, many, is_ready.writable.slot)) in
          let (m1, at, synced) = all.slots_at ready.slot d there in
          let (m2, at2, settled) = b.0.1 ready.slot d there in
          let same1 : m1 ≡ m = some_is m1 m (sym at ∙ was) in
          let same2 : m2 ≡ m = some_is m2 m (sym at2 ∙ was) in
          (d, e, sym (slot_old old front last many long two ready.slot) ∙ there, slot_new old front last many long two ready.slot ∙ is', all_of d m e (subst (λ (z : D). OnlySynced G d z) same1 synced) (subst (λ (z : D). WasSettled G d z) same2 settled) s)

      written_over : OfDisk (IsRewritten G ready.slot ready.value) old after place
      written_over = at_slot (Writes G ready.slot ready.value) (IsRewritten G ready.slot ready.value) puts.here (λ d m e synced settled s. rewritten G only_now d m e synced settled ready.slot ready.value s)

      is_put : IsPut G n old after ready.slot ready.value
      is_put = record {
        slot_is = is_ready.writable.slot;
        made = λ t. record { log = found.log; slots = found.slots; reads = reads t; holds = holds t; made = is_ready.made };
        here = written_over;
        others = λ j d used was. each_but (OnlySynced G) all.streams all.slots_at j d used.0 used.1 was;
      }

      abbrev Clean : D → D → Type 0
      Clean = IsClean G.tells G.number G.fails

      streams_clean : EachUsed Clean (take MAX_STREAMS old) front n
      streams_clean j d low was = let (e, at, r) = b.0.0 j d low was in (e, at, clean_settled G d e r)

      slots_clean : Each Clean (drop MAX_STREAMS old) slots
      slots_clean j d was = let (e, at, r) = b.0.1 j d was in (e, at, clean_settled G d e r)

      put_at : has_written answer ≡ true → OfDisk (HasPut G ready.slot ready.value) slots last ready.slot
      put_at e = (puts.written e).0

      all_clean : has_written answer ≡ true → EachIn (IsUsed n) (λ j. Clean) old after
      all_clean e j d used was = elim (cases_eq j place) [
        | inl same ↦
            let (d', f, at, is', clean) = at_slot (HasPut G ready.slot ready.value) Clean (put_at e) (λ d m e synced settled s. put_clean G only_now d m e synced settled ready.slot ready.value s) in
            let it : d' ≡ d = some_is d' d (sym at ∙ ap (λ (k : ℕ). slice_get old k) (sym same) ∙ was) in
            (f, ap (λ (k : ℕ). slice_get after k) same ∙ is', subst (λ (z : D). Clean z f) it clean)
        | inr other ↦ each_but Clean streams_clean slots_clean j d used other was
      ]

      unwritten_still : (i : ℕ) → (i ≡ ready.slot → ⊥) → slice_get last i ≡ slice_get slots i
      unwritten_still = puts.others

      first_at : G.tells → OfDisk (FailsToPut G) slots last ready.slot → IsFirstStopped G.tells G.number G.fails G.short old after place
      first_at t fails = (
        at_slot (FailsToPut G) (IsStopped G.tells G.number G.fails G.short) fails (λ d m e synced settled s. put_stopped G only_now d m e synced settled s),
        λ j d under was. elim (below_or_not j n) [
          | inl low ↦ each_stream old front last many long two n le Clean streams_clean j d low was
          | inr ge ↦ elim (below_or_not j MAX_STREAMS) [
            | inl low ↦ (d, unused old front last many long two n le all.rest j (between j ge low) ∙ was, λ t' k lo hi. absurd (omega (arith, lo, hi)))
            | inr high ↦ each_but Clean streams_clean slots_clean j d (inr (high, omega (arith, under, is_ready.writable.slot))) (λ e. omega (arith, under, e)) was
          ]
        ],
      )
        where
          between : (j : ℕ) → n ≤ j → j < MAX_STREAMS → IsUsed n j → ⊥
          between j ge low (inl used) = omega (arith, ge, used)
          between j ge low (inr used) = (let high = used.0 in omega (arith, low, high))

      no_refusal : (s : Status) → ends_recovery s ≡ true → ((fault : LogFault) → s ≡ status.BadLog fault → ⊥) → is_refusal s ≡ true → ⊥
      no_refusal (status.BadLog fault) kind none e = none fault refl
      no_refusal status.Ok kind none e = cc e
      no_refusal status.NoMemory kind none e = cc e
      no_refusal status.WriteFault kind none e = cc e
      no_refusal (status.DiskFault j) kind none e = cc e
      no_refusal status.Usage kind none e = cc kind
      no_refusal (status.BadText at why) kind none e = cc kind
      no_refusal status.ReadFault kind none e = cc kind
      no_refusal status.TooLong kind none e = cc kind
      no_refusal (status.BadFeed at) kind none e = cc kind
      no_refusal (status.BadReport number) kind none e = cc kind

      written_of : (s : Status) → ((fault : LogFault) → s ≡ status.BadLog fault → ⊥) → is_behind_reading s ≡ true → has_written s ≡ true
      written_of status.Ok none e = refl
      written_of status.WriteFault none e = refl
      written_of (status.BadLog fault) none e = absurd (none fault refl)
      written_of status.NoMemory none e = absurd (cc e)
      written_of (status.DiskFault j) none e = absurd (cc e)
      written_of status.Usage none e = absurd (cc e)
      written_of (status.BadText at why) none e = absurd (cc e)
      written_of status.ReadFault none e = absurd (cc e)
      written_of status.TooLong none e = absurd (cc e)
      written_of (status.BadFeed at) none e = absurd (cc e)
      written_of (status.BadReport number) none e = absurd (cc e)

      rose_at : OfDisk (FailsToPut G) slots last ready.slot → RoseAt G.faults old after place
      rose_at fails = at_slot (FailsToPut G) (λ d e. Rose (G.faults d) (G.faults e)) fails (λ d m e synced settled s. put_rose G only_now d m e synced settled s)

      used_place : IsUsed n place
      used_place = inr (omega arith, omega (arith, is_ready.writable.slot))

      fault_at : (j : ℕ) → answer ≡ status.DiskFault j → IsUsed n j × RoseAt G.faults old after j
      fault_at j e = (let p = puts.disk j e in subst (λ (k : ℕ). IsUsed n k × RoseAt G.faults old after k) (sym p.0) (used_place, rose_at p.1))

      pub put_ended : HasEnded G o old after answer n
      put_ended = record {
        kind = puts.kind;
        disk = fault_at;
        stopped = λ j e t. (let p = puts.disk j e in subst (λ (k : ℕ). IsFirstStopped G.tells G.number G.fails G.short old after k) (sym p.0) (first_at t p.1));
        clean = λ e. all_clean (written_of answer puts.no_bad e);
        refusal = λ e. absurd (no_refusal answer puts.kind puts.no_bad e);
        disk_line = λ j e. (puts.disk j e).2;
        sink = puts.sink;
        silent = puts.silent;
        rest = unused old front last many long two n le all.rest;
      }

      bad_never : (s : Status) → ends_recovery s ≡ true → ((fault : LogFault) → s ≡ status.BadLog fault → ⊥) → G.tells → (fault : LogFault) → log_of None images ≡ Err fault → EndsAsBad fault s
      bad_never s kind none t fault bad = absurd (not_log images found.log fault (reads t) bad)

      pub put_of : OfCheckpoint G o old after answer n
      put_of = record {
        touched = inr (ready.slot, ready.value, is_put);
        written = λ e. (
          ready.slot,
          ready.value,
          is_put,
          at_slot (HasPut G ready.slot ready.value) (HoldsWritten G ready.slot ready.value) (put_at e) (λ d m f synced settled s. put_holds G only_now d m f synced settled ready.slot ready.value s),
          (puts.written e).1,
        );
        bad_log = λ fault e. absurd (puts.no_bad fault e);
        refused = λ fault e. absurd (puts.no_bad fault e);
        refused_calls = λ fault e. absurd (puts.no_bad fault e);
        bad_log_told = λ t fault bad. absurd (not_log images found.log fault (reads t) bad);
        last_told = λ t log s fault is' holds' last'. absurd (next_not found.slots (record { slot = ready.slot; number = ready.value.number }) fault is_ready.made.next (at_found (λ l x. next_write x ≡ Err fault) log s t is' holds' last'));
        tangled_told = λ t log s next is' holds' free none. absurd (at_found (λ l x. HaveNoOrder (taken l)) log s t is' holds' none is_ready.made.redone.order is_ready.made.redone.is_order);
        done = λ t log s next order is' holds' free ordered sink disks. recovers_well answer puts.kind (λ e. sink (puts.sink e)) (λ j e. (let p = fault_at j e in disks j p.0 p.1)) puts.no_bad;
      }

    -- nothing is pending on a slot that has a byte
    pub quiet : AreQuiet G slots
    quiet i m at t some =
        let (d, there) = some_at (drop MAX_STREAMS old) i (omega (arith, length-drop MAX_STREAMS old, many, got_within slots i m at, few)) in
        let (m1, at1, settled) = b.0.1 i d there in
        let same : m1 ≡ m = some_is m1 m (sym at1 ∙ at) in
        let here : WasSettled G d m = subst (λ (z : D). WasSettled G d z) same settled in
        here.settled t (λ none. (let long : length (G.seen m) ≡ 0 = ap (λ (l : List ℕ). length l) (here.same t ∙ none) in omega (arith, some, long)))

    -- both ways
    module _ (only_now : (d : D) (x : List ℕ) → G.may_leave_since d (G.moment d) x → G.may_leave d x) (last : List D) (two : length last ≡ 2) (answer : Status) where
      pub made_ended : MakesAndPuts G found slots last wrote rose answer → HasEnded G o old (front ++ last) answer n
      made_ended (inl none) = subst (λ (ds : List D). HasEnded G o old (front ++ ds) answer n) (sym none.3) (unmade_ended none.0 answer none.1 none.2)
      made_ended (inr put) = put_ended only_now put.0 put.1 last two answer put.2

      pub made_of : MakesAndPuts G found slots last wrote rose answer → OfCheckpoint G o old (front ++ last) answer n
      made_of (inl none) = subst (λ (ds : List D). OfCheckpoint G o old (front ++ ds) answer n) (sym none.3) (unmade_of none.0 answer none.1 none.2)
      made_of (inr put) = put_of only_now put.0 put.1 last two answer put.2
