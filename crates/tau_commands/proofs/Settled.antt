-- Streams and slots are asked, synced and read.
use Rattle.std.proofs.Common.{false, ℕ, suc, ◌+◌, ◌<◌, ◌≤◌, ◌≡◌, List, [], ◌∷◌, length, map, take, drop, refl, inl, inr, sym, ap, subst, ◌∙◌, arith}
use Rattle.std.specs.Prelude.{None, Some, Result, Ok, Err, slice_get, slice_index}
use Rattle.tau_base.proofs.Logic.{some_is}
use Rattle.tau_base.proofs.Lists.{got_within, some_at}
use Rattle.tau_base.specs.declared.limits.TheConstants.{MAX_STREAMS}
use Rattle.tau_disk.specs.declared.disk.Disk.{Ghosts}
use Rattle.tau_disk.specs.Disk.{Rose}
use Rattle.tau_disk.specs.Stages.{AreLengths, Broke, OnlySynced, StageFails, Staged, Went}
use Rattle.tau_disk.specs.Used.{Each, EachUsed, IsClean, IsFirstStopped, OfDisk}
use Rattle.tau_disk.proofs.Calls.{broke_stopped, went_broke, went_clean, went_on}
use Rattle.tau_disk.proofs.Syncing.{only_none, only_of_read, only_on}
use Rattle.tau_scan.specs.declared.fault.LogFault.{LogFault}
use Rattle.tau_scan.specs.declared.fault.ScanRefusal.TheVariants as scans
use Rattle.tau_scan.specs.Outside.{AreSettled, AreSynced, StopsSettling, calls_to_settle, IsSettled}
use Rattle.tau_scan.specs.Reading.{HasRead}
use Rattle.tau_open.specs.declared.refusal.OpenRefusal.{OpenRefusal}
use Rattle.tau_open.specs.declared.refusal.OpenRefusal.TheVariants as opens
use Rattle.tau_open.specs.Opening.{Asked, FailsAsked}
use Rattle.tau_begin.specs.Reading.{AreAskedFor, AtMostRead, WasRead, WereRead, calls_before_writes}
use Rattle.tau_begin.proofs.Reading.{asking_refused, asking_rest, has_read, were_read}
use Rattle.tau_commands.specs.declared.slots.Found.{Found}
use Rattle.tau_commands.specs.declared.slots.SlotRefusal.{SlotRefusal}
use Rattle.tau_commands.specs.declared.slots.SlotRefusal.TheVariants as refusals
use Rattle.tau_commands.specs.declared.status.Status.{Status}
use Rattle.tau_commands.specs.declared.status.Status.TheVariants as status
use Rattle.tau_commands.specs.Finding.{AllWhole, FindsBy, IsFound, SettledBy, SettlesAll, SettlesAsked, SlotStops, StreamStops, WasSettled, asked_slot_status, asked_status, slot_status}

-- ---- what the settling gives

module _ {D : Type 0} (G : Ghosts D) (n : ℕ) (front : List D) (lengths : List ℕ) (front' slots : List D) (sizes : List ℕ) (slots' : List D) where
  -- a slot was not read
  pub slot_unsettled : AreSettled G lengths front front' → (refusal : SlotRefusal) → ((j : ℕ) → refusal ≡ refusals.Failed j → StopsSettling G sizes j slots slots') →
      SettledBy G n front lengths front' slots sizes slots' (Err (slot_status refusal))
  slot_unsettled settled refusals.NoMemory stops = tt
  slot_unsettled settled (refusals.Failed j) stops = inr (j, refl, settled, stops j refl)

-- ---- disks that were asked

map_same : {D A : Type 0} (f : D → A) (xs ys : List D) → length xs ≡ length ys → ((j : ℕ) (d e : D) → slice_get xs j ≡ Some d → slice_get ys j ≡ Some e → f d ≡ f e) → map f xs ≡ map f ys
map_same f [] [] long same = refl
map_same f [] (y ∷ ys) long same = absurd (omega (arith, long))
map_same f (x ∷ xs) [] long same = absurd (omega (arith, long))
map_same {D} {A} f (x ∷ xs) (y ∷ ys) long same =
    let rest = map_same f xs ys (omega (arith, long)) (λ j d e at here. same (suc j) d e at here) in
    ap (λ (a : A). a ∷ map f xs) (same 0 x y refl refl) ∙ ap (λ (vs : List A). f y ∷ vs) rest

module _ {D : Type 0} (G : Ghosts D) where
  abbrev Clean : D → D → Type 0
  Clean = IsClean G.tells G.number G.fails

  only_asked : (d e : D) → Asked G d e → OnlySynced G d e
  only_asked d e asked = only_of_read G d e asked.read asked.went.counts

  each_none : (ds : List D) → Each (OnlySynced G) ds ds
  each_none ds j d was = (d, was, only_none G d)

  -- what was at most read was at most synced
  at_most : (n : ℕ) (old new : List D) → EachUsed (AtMostRead G) old new n → EachUsed (OnlySynced G) old new n
  at_most n old new each j d low was = let (e, is, read) = each j d low was in (e, is, read.only)

  -- asked, and then at most synced
  only_both : (sizes : List ℕ) (n : ℕ) (old mid new : List D) → AreAskedFor G sizes n old mid → AreSynced G sizes mid new → EachUsed (OnlySynced G) old new n
  only_both sizes n old mid new are synced j d low was =
      let (e, there, r) = are.asked.each j d low was in
      let (f, is, s) = synced j e (omega (arith, low, are.count)) there in
      (f, is, only_on G d e f (only_asked d e r) s.only)

  -- so many as there are
  all_of : (R : D → D → Type 0) (n : ℕ) (old new : List D) → length old ≤ n → EachUsed R old new n → Each R old new
  all_of R n old new le each j d was = each j d (omega (arith, got_within old j d was, le)) was

  was_settled : (long : ℕ) (d e : D) → (G.tells → long ≡ length (G.seen d)) → WasRead G long d e → WasSettled G d e
  was_settled long d e is read = record {
    same = read.same;
    settled = read.settled;
    plan = read.went.same;
    calls = λ t. (let made = read.went.made t in subst (λ (k : ℕ). (G.number e ≡ G.number d + calls_before_writes k) × (G.short e ≡ G.short d) × ((i : ℕ) → G.number d < i → i ≤ G.number d + calls_before_writes k → G.fails d i ≡ false)) (is t) made);
  }

  pub clean_settled : (d e : D) → WasSettled G d e → IsClean G.tells G.number G.fails d e
  clean_settled d e was t k low high = (let made = was.calls t in made.2 k low (subst (λ (n : ℕ). k ≤ n) made.0 high))

  module _ (sizes : List ℕ) (n : ℕ) (old mid : List D) (are : AreAskedFor G sizes n old mid) where
    pub asked_only : EachUsed (OnlySynced G) old mid n
    asked_only j d low was = let (e, is, r) = are.asked.each j d low was in (e, is, only_asked d e r)

    asked_clean : EachUsed Clean old mid n
    asked_clean j d low was = let (e, is, r) = are.asked.each j d low was in (e, is, went_clean G 1 d e r.went)

    pub asked_seen : length old ≤ n → G.tells → map G.seen mid ≡ map G.seen old
    asked_seen all t = map_same G.seen mid old are.asked.many (λ j e d now was.
        let (f, at, r) = are.asked.each j d (omega (arith, got_within old j d was, all)) was in
        ap G.seen (some_is e f (sym now ∙ at)) ∙ r.read.same t)

    -- all were settled after that
    pub settled_whole : (new : List D) → AreSynced G sizes mid new → AreSettled G sizes mid new → EachUsed (WasSettled G) old new n
    settled_whole new synced settled j d low was =
        let (e, is, r) = were_read G sizes n old mid are new synced settled j d low was in
        (e, is, was_settled (slice_index sizes j) d e (λ t. are.lengths j d (omega (arith, low, are.count)) was t) r)

    settled_clean : (new : List D) → AreSettled G sizes mid new → EachUsed Clean old new n
    settled_clean new settled j d low was =
        let (e, there, r) = are.asked.each j d low was in
        let (f, is, s) = settled.each j e (omega (arith, low, are.count)) there in
        (f, is, went_clean G (1 + calls_to_settle (slice_index sizes j)) d f (went_on G 1 (calls_to_settle (slice_index sizes j)) d e f r.went s.went))

    -- one failed after that
    module _ (new : List D) (j : ℕ) (stops : StopsSettling G sizes j mid new) where
      here : (d : D) → slice_get old j ≡ Some d → (e : D) × (slice_get new j ≡ Some e) × Broke G (1 + calls_to_settle (slice_index sizes j)) d e
      here d was =
          let (m, there, r) = are.asked.each j d (omega (arith, stops.0, are.count)) was in
          let (b, e, at, is, broke) = stops.1.here in
          let same : b ≡ m = some_is b m (sym at ∙ there) in
          (e, is, went_broke G 1 (calls_to_settle (slice_index sizes j)) d m e r.went (subst (λ (z : D). Broke G (calls_to_settle (slice_index sizes j)) z e) same broke))

      pub stop_low : j < n
      stop_low = omega (arith, stops.0, are.count)

      pub stop_of : n ≤ length old → (R : D → D → Type 0) → ((d e : D) → Broke G (1 + calls_to_settle (slice_index sizes j)) d e → R d e) → OfDisk R old new j
      stop_of many R of =
          let (d, was) = some_at old j (omega (arith, stop_low, many)) in
          let (e, is, broke) = here d was in
          (d, e, was, is, of d e broke)

      pub stop_below : (i : ℕ) (d : D) → i < j → slice_get old i ≡ Some d → (e : D) × (slice_get new i ≡ Some e) × Clean d e
      stop_below i d low was =
          let (m, there, r) = are.asked.each i d (omega (arith, low, stop_low)) was in
          let (e, is, s) = stops.1.below i m low there in
          (e, is, went_clean G (1 + calls_to_settle (slice_index sizes i)) d e (went_on G 1 (calls_to_settle (slice_index sizes i)) d m e r.went s.went))

      pub stop_first : n ≤ length old → G.tells → IsFirstStopped G.tells G.number G.fails G.short old new j
      stop_first many t = (stop_of many _ (λ d e broke. broke_stopped G (1 + calls_to_settle (slice_index sizes j)) d e broke), stop_below)

  -- one failed when it was asked
  module _ (old new : List D) (j : ℕ) (fails : StageFails (λ i. Asked G) (λ i. FailsAsked G) j old new) where
    pub ask_rose : OfDisk (λ d e. Rose (G.faults d) (G.faults e)) old new j
    ask_rose = let (d, e, was, is, r) = fails.here in (d, e, was, is, r.broke.rose)

    pub ask_first : G.tells → IsFirstStopped G.tells G.number G.fails G.short old new j
    ask_first t =
        let (d, e, was, is, r) = fails.here in (
          (d, e, was, is, broke_stopped G 1 d e r.broke),
          λ i b low at. let (f, there, q) = fails.below i b low at in (f, there, went_clean G 1 b f q.went),
        )

-- ---- all together

-- nothing was done
pub none_found : {D : Type 0} (G : Ghosts D) (n : ℕ) (front slots : List D) → SettlesAll G n front front slots slots (Err status.NoMemory)
none_found G n front slots = record { streams = λ j d low was. (d, was, only_none G d); rest = refl; slots_at = each_none G slots; by = tt }

module _ {D : Type 0} (G : Ghosts D) (n : ℕ) (front slots : List D) (there : n ≤ length front) (two : length slots ≡ 2) where
  -- a stream failed when it was asked
  pub stream_unasked : (front' : List D) (r : Result Unit OpenRefusal) (refusal : OpenRefusal) → r ≡ Err refusal → ((j : ℕ) → r ≡ Err (opens.Failed j) → (j < n) × StageFails (λ i. Asked G) (λ i. FailsAsked G) j front front') →
      (r ≡ Err opens.NoMemory → ⊥) → ((j size : ℕ) → r ≡ Err (opens.NotEmpty j size) → ⊥) → SettlesAll G n front front' slots slots (Err (asked_status refusal))
  stream_unasked front' r refusal is failed memory long = record {
    streams = at_most G n front front' (asking_refused G n front front' r refusal is failed memory long);
    rest = asking_rest G n front front' r refusal is failed memory long;
    slots_at = each_none G slots;
    by = why refusal is;
  }
    where
      why : (e : OpenRefusal) → r ≡ Err e → FindsBy G (OnlySynced G) (WasSettled G) n front front' slots slots (Err (asked_status e))
      why opens.NoMemory is' = tt
      why (opens.Failed j) is' = inl (record { low = (failed j is').0; rose = ask_rose G front front' j (failed j is').1; first = ask_first G front front' j (failed j is').1 })
      why (opens.NotEmpty j size) is' = tt

  module _ (lengths : List ℕ) (mid : List D) (are : AreAskedFor G lengths n front mid) where
    -- a slot failed when it was asked
    pub slot_unasked : (slots' : List D) (r : Result Unit OpenRefusal) (refusal : OpenRefusal) → r ≡ Err refusal → ((j : ℕ) → r ≡ Err (opens.Failed j) → (j < 2) × StageFails (λ i. Asked G) (λ i. FailsAsked G) j slots slots') →
        (r ≡ Err opens.NoMemory → ⊥) → ((j size : ℕ) → r ≡ Err (opens.NotEmpty j size) → ⊥) → SettlesAll G n front mid slots slots' (Err (asked_slot_status refusal))
    slot_unasked slots' r refusal is failed memory long = record {
      streams = asked_only G lengths n front mid are;
      rest = are.asked.rest;
      slots_at = all_of G (OnlySynced G) 2 slots slots' (omega (arith, two)) (at_most G 2 slots slots' (asking_refused G 2 slots slots' r refusal is failed memory long));
      by = why refusal is;
    }
      where
        why : (e : OpenRefusal) → r ≡ Err e → FindsBy G (OnlySynced G) (WasSettled G) n front mid slots slots' (Err (asked_slot_status e))
        why opens.NoMemory is' = tt
        why (opens.Failed j) is' = inr (record { slot = j; place = refl; clean = asked_clean G lengths n front mid are; rose = ask_rose G slots slots' j (failed j is').1; first = ask_first G slots slots' j (failed j is').1 })
        why (opens.NotEmpty j size) is' = tt

    module _ (sizes : List ℕ) (mid' : List D) (are' : AreAskedFor G sizes 2 slots mid') (front' slots' : List D) (result : Result Found Status) (h : SettlesAsked G n mid lengths front' mid' sizes slots' result) where
      whole : AreSettled G lengths mid front' → AreSettled G sizes mid' slots' → AllWhole G (OnlySynced G) (WasSettled G) n front front' slots slots'
      whole a b = (
        settled_whole G lengths n front mid are front' h.streams a,
        all_of G (WasSettled G) 2 slots slots' (omega (arith, two)) (settled_whole G sizes 2 slots mid' are' slots' h.slots_at b),
      )

      abbrev By : Result Found Status → Type 0
      By r = FindsBy G (OnlySynced G) (WasSettled G) n front front' slots slots' r

      why : (r : Result Found Status) → SettledBy G n mid lengths front' mid' sizes slots' r → By r
      why (Ok found) by = (
        whole by.0.0 by.0.1,
        record {
          read = has_read G lengths n front mid are there None (Ok found.log) by.1.read;
          sound = by.1.sound;
          images = by.1.images;
          as_seen = λ t. by.1.as_seen t ∙ asked_seen G sizes 2 slots mid' are' (omega (arith, two)) t;
          holds = by.1.holds;
        },
      )
      why (Err (status.BadLog fault)) by = (whole by.0.0 by.0.1, has_read G lengths n front mid are there None (Err (scans.Bad fault)) by.1)
      why (Err (status.DiskFault j)) (inl stops) = inl (record {
        low = stop_low G lengths n front mid are front' j stops;
        rose = stop_of G lengths n front mid are front' j stops there (λ d e. Rose (G.faults d) (G.faults e)) (λ d e broke. broke.rose);
        first = stop_first G lengths n front mid are front' j stops there;
      })
      why (Err (status.DiskFault j)) (inr stops) = inr (record {
        slot = stops.0;
        place = stops.1;
        clean = settled_clean G lengths n front mid are front' stops.2;
        rose = stop_of G sizes 2 slots mid' are' slots' stops.0 stops.3 (omega (arith, two)) (λ d e. Rose (G.faults d) (G.faults e)) (λ d e broke. broke.rose);
        first = stop_first G sizes 2 slots mid' are' slots' stops.0 stops.3 (omega (arith, two));
      })
      why (Err status.NoMemory) by = tt
      why (Err status.Ok) by = absurd by
      why (Err status.WriteFault) by = absurd by
      why (Err status.Usage) by = absurd by
      why (Err (status.BadText at cause)) by = absurd by
      why (Err status.ReadFault) by = absurd by
      why (Err status.TooLong) by = absurd by
      why (Err (status.BadFeed at)) by = absurd by
      why (Err (status.BadReport number)) by = absurd by

      pub settles_all : SettlesAll G n front front' slots slots' result
      settles_all = record {
        streams = only_both G lengths n front mid front' are h.streams;
        rest = h.rest ∙ are.asked.rest;
        slots_at = all_of G (OnlySynced G) 2 slots slots' (omega (arith, two)) (only_both G sizes 2 slots mid' slots' are' h.slots_at);
        by = why result h.by;
      }
