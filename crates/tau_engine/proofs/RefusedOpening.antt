-- A call whose opening was refused.
use Rattle.std.proofs.Common.{ℕ, ◌+◌, ◌-◌, ◌<◌, ◌≤◌, ◌≡◌, ◌⊎◌, inl, inr, ⊎_elim, min, Bool, true, false, List, [], ◌∷◌, map, length, take, drop, refl, sym, ap, subst, ◌∙◌, Option, Ok, Err, arith}
use Rattle.std.specs.Prelude.{Some, None, nat_le, slice_get, slice_index, if◌then◌else◌}
use Rattle.std.proofs.lemmas.Bool.{cases_eq}
use Rattle.tau_base.specs.declared.format.Format.{Format}
use Rattle.tau_base.specs.Modes.{format_of, most_streams}
use Rattle.tau_base.proofs.Lists.{got_within, some_at}
use Rattle.tau_base.proofs.Logic.{some_is, below_or_not}
use Rattle.tau_disk.specs.declared.disk.Disk.{Ghosts}
use Rattle.tau_disk.specs.Disk.{Only, Rose}
use Rattle.tau_disk.proofs.Passing.{passes_none}
use Rattle.tau_disk.specs.Plan.{MadeAll, MadeSome}
use Rattle.tau_disk.specs.Stages.{Went, Broke, OnlySynced}
use Rattle.tau_disk.specs.Used.{EachIn, EachUsed, OfDisk, RoseAt, IsClean, IsFirstStopped, Made}
use Rattle.tau_disk.proofs.Calls.{went_on, went_broke, went_clean, broke_stopped}
use Rattle.tau_disk.proofs.Syncing.{more_broke}
use Rattle.tau_stream.specs.Stream.{calls_to_reopen}
use Rattle.tau_open.specs.declared.start.StreamStart.{StreamStart}
use Rattle.tau_scan.specs.declared.fault.LogFault.{LogFault}
use Rattle.tau_scan.specs.declared.fault.ScanRefusal.{ScanRefusal}
use Rattle.tau_scan.specs.declared.fault.ScanRefusal.TheVariants as refusal
use Rattle.tau_scan.specs.declared.log.Log.{Log}
use Rattle.tau_scan.specs.Outside.{calls_to_settle}
use Rattle.tau_block.specs.declared.content.Content.{Content}
use Rattle.tau_scan.specs.Reading.{HasRead, log_of}
use Rattle.tau_scan.proofs.Streams.{map_get}
use Rattle.tau_text.specs.declared.load.Workload.{Workload}
use Rattle.tau_text.specs.Canonical.{declarations_text}
use Rattle.tau_run.specs.CoreRun.{IsSoundLoad}
use Rattle.tau_run.specs.RunFacts.{WroteFront}
use Rattle.tau_run.proofs.Logs.{length_at}
use Rattle.tau_begin.specs.Opened.{IsReadFrom, IsRefusedOn, TouchedAt, RefusesLog, RefusesRun, StartsSome, StopsStarting}
use Rattle.tau_begin.specs.Reading.{calls_before_writes, AtMostRead, StopsReading, WasRead}
use Rattle.tau_begin.proofs.Barrier.{barrier_of, moment_by}
use Rattle.tau_begin.proofs.Slices.{get_take, taken_long}
use Rattle.tau_commands.specs.declared.status.Status.{Status}
use Rattle.tau_commands.specs.declared.status.Status.TheVariants as status
use Rattle.tau_commands.specs.Fault.{fault_text, TellsFault}
use Rattle.tau_engine.specs.Opening.{opening_calls, HasBarrier, IsUnwritten}
use Rattle.tau_commands.specs.Outside.{Output, Wrote}
use Rattle.tau_commands.specs.Recovery.{images_of}
use Rattle.tau_commands.specs.First.{status_at}
use Rattle.tau_engine.specs.Runs.{DisksAndSink}
use Rattle.tau_engine.specs.declared.run.Choice.{Choice}
use Rattle.tau_engine.specs.RunSays.{HasRun, IsRunRefused, OnlyOpened, RunSays}
use Rattle.tau_engine.proofs.OnOpened.{calls_are, same_sizes, size_is, starts_long}
use Rattle.tau_engine.proofs.OnlyTouched as touched
use Rattle.tau_engine.proofs.Streams.{OnlyNow}
use Rattle.tau_commands.proofs.Ends.{nothing_told}

broke_as : {D : Type 0} (G : Ghosts D) (a b : ℕ) (d e : D) → Broke G a d e → (G.tells → a ≡ b) → Broke G b d e
broke_as G a b d e broke same = record {
  counts = broke.counts;
  rose = broke.rose;
  same = broke.same;
  made = λ t. subst (λ (k : ℕ). MadeSome k (G.number d) (G.number e) (G.fails d) (G.short e)) (same t) (broke.made t);
}

-- how many calls a disk has had that failed, also where it tells nothing
few_made : {D : Type 0} (G : Ghosts D) (count : ℕ) (d e : D) → Broke G count d e → (k : ℕ) × (k ≤ count) × (G.tells → G.short e ≡ false → G.number e ≡ G.number d + k)
few_made G count d e broke = (
  min (G.number e - G.number d) count,
  omega arith,
  λ t whole. ⊎_elim
      (λ made. let low = made.0 in let high = made.1 in omega (arith, low, high))
      (λ memory. absurd (let bad : true ≡ false = sym memory ∙ whole in cc bad))
      (broke.made t),
)

-- the same of a disk that failed by one of the calls after the first so many
late_made : {D : Type 0} (G : Ghosts D) (before count : ℕ) (d e : D) → 1 ≤ count → (G.tells → G.short e ≡ false → (G.number d + before < G.number e) × (G.number e ≤ G.number d + before + count)) →
    (k : ℕ) × (before < k) × (k ≤ before + count) × (G.tells → G.short e ≡ false → G.number e ≡ G.number d + k)
late_made G before count d e some within = (
  before + 1 + min (G.number e - (G.number d + before + 1)) (count - 1),
  omega arith,
  omega (arith, some),
  λ t whole. (let both = within t whole in let low = both.0 in let high = both.1 in omega (arith, low, high, some)),
)

module _ {D : Type 0} (G : Ghosts D) (only_now : OnlyNow G) (choice : Choice) (load : Workload) (some : 1 ≤ choice.streams) (room : choice.streams ≤ most_streams (format_of choice.mode)) (workers : 1 ≤ choice.workers) (sound : IsSoundLoad load) (old new : List D) (there : choice.streams ≤ length old) (rest : drop choice.streams new ≡ drop choice.streams old)
    (o : Output) where
  abbrev n : ℕ
  n = choice.streams

  abbrev f : Format
  f = format_of choice.mode

  abbrev text : List ℕ
  text = declarations_text load.declarations

  abbrev sizes : List ℕ
  sizes = map length (images_of G.seen old n)

  abbrev with_sink : DisksAndSink D
  with_sink = record { old = old; new = new; sink = o }

  abbrev Told : Status → Type 0
  Told answer = RunSays G choice load with_sink answer

  abbrev wrote : List ℕ → Type 0
  wrote = Wrote o.hears o.held o.held'

  abbrev sink_rose : Type 0
  sink_rose = Rose o.faults o.faults'

  size_at : (j : ℕ) (d : D) → j < n → slice_get old j ≡ Some d → slice_index sizes j ≡ length (G.seen d)
  size_at j d lt was = length_at (images_of G.seen old n) j (G.seen d) (map_get G.seen (take n old) j d (get_take old n j lt ∙ was))

  -- ---- the barriers of disks that were not written

  -- what a disk must have been for its barrier
  record IsKept (d e : D) : Type 0 where
    pub only : OnlySynced G d e
    pub same : G.seen e ≡ G.seen d
    pub settled : (G.seen d ≡ [] → ⊥) → Only (G.seen e) (G.may_leave e)

  unwritten : (d e : D) → IsKept d e → IsUnwritten G (barrier_of G d e) d e
  unwritten d e kept = by (G.seen d) refl
    where
      by : (xs : List ℕ) → G.seen d ≡ xs → IsUnwritten G (moment_by (G.moment d) (G.moment e) xs) d e
      by [] none = record {
        barrier = record { low = omega arith; high = kept.only.moments.later; since_b = λ x so. inr so; entry = λ tells empty. refl };
        same = kept.same;
        only = λ x so. inr (none, ⊎_elim (λ before. only_now d x before) (λ is. is) (kept.only.moments.new_ones (G.moment d) x (omega arith) so));
      }
      by (x ∷ xs) full = record {
        barrier = record {
          low = kept.only.moments.later;
          high = omega arith;
          since_b = λ y so. ⊎_elim (λ before. inl (only_now d y before)) (λ is. inl is) (kept.only.moments.new_ones (G.moment d) y (omega arith) so);
          entry = λ tells empty. absurd (no_list (sym full ∙ empty));
        };
        same = kept.same;
        only = λ y so. inl (kept.settled (λ empty. no_list (sym full ∙ empty)) y (only_now e y so) ∙ kept.same);
      }
        where
          no_list : x ∷ xs ≡ [] → ⊥
          no_list bad = cc bad

  -- of disks in any relation to those before
  module _ (R : ℕ → D → D → Type 0) (each : EachIn (λ j. j < n) R old new) where
    abbrev barrier_from : (j : ℕ) (d : Option D) → slice_get old j ≡ d → (j < n) ⊎ (n ≤ j) → ℕ
    barrier_from j None was side = 0
    barrier_from j (Some d) was (inr high) = 0
    barrier_from j (Some d) was (inl low) = barrier_of G d (each j d low was).0

    abbrev barrier_at : ℕ → ℕ
    barrier_at j = barrier_from j (slice_get old j) refl (below_or_not j n)

    record Has (j b : ℕ) : Type 0 where
      pub disk : D
      pub was : slice_get old j ≡ Some disk
      pub now : D
      pub is : slice_get new j ≡ Some now
      pub related : R j disk now
      pub barrier_is : b ≡ barrier_of G disk now

    has_at : (j : ℕ) → j < n → Has j (barrier_at j)
    has_at j lt = by (slice_get old j) refl (below_or_not j n)
      where
        by : (d : Option D) (was : slice_get old j ≡ d) (side : (j < n) ⊎ (n ≤ j)) → Has j (barrier_from j d was side)
        by None was side = absurd (let d = some_at old j (omega (arith, lt, there)) in let bad : None ≡ Some d.0 = sym was ∙ d.1 in cc bad)
        by (Some d) was (inr high) = absurd (omega (arith, lt, high))
        by (Some d) was (inl low) = let (e, is, r) = each j d low was in record { disk = d; was = was; now = e; is = is; related = r; barrier_is = refl }

    -- what holds of each disk with its own barrier
    put : (P : ℕ → D → D → Type 0) → ((j : ℕ) (d e : D) → R j d e → P (barrier_of G d e) d e) → EachIn (λ j. j < n) (λ j. P (barrier_at j)) old new
    put P make j d low was =
        let h = has_at j low in (
          h.now,
          h.is,
          subst (λ (z : D). P (barrier_at j) z h.now) (some_is h.disk d (sym h.was ∙ was)) (subst (λ (b : ℕ). P b h.disk h.now) (sym h.barrier_is) (make j h.disk h.now h.related)),
        )

  -- the disks were at most read and synced, and what is left of each that has a barrier
  record AreBarred : Type 0 where
    pub only : EachUsed (OnlySynced G) old new n
    pub barrier : ℕ → ℕ
    pub barred : EachIn (λ j. j < n) (λ j d e. G.tells → HasBarrier G d e → IsUnwritten G (barrier j) d e) old new

  most_barred : EachUsed (AtMostRead G) old new n → AreBarred
  most_barred most = record {
    only = λ j d low was. (let (e, is, r) = most j d low was in (e, is, r.only));
    barrier = barrier_at (λ j. AtMostRead G) most;
    barred = put (λ j. AtMostRead G) most (λ b d e. G.tells → HasBarrier G d e → IsUnwritten G b d e) (λ j d e r t has. unwritten d e (kept d e r t has));
  }
    where
      more : (d e : D) → HasBarrier G d e → (G.seen d ≡ [] → ⊥) → G.number d + 1 < G.number e
      more d e has some = ⊎_elim (λ none. absurd (some none)) (λ late. late) has.1

      kept : (d e : D) → AtMostRead G d e → G.tells → HasBarrier G d e → IsKept d e
      kept d e r t has = record { only = r.only; same = r.only.same t has.0; settled = λ some. r.settled t (more d e has some) has.0 }

  -- ---- memory ran out

  pub says_memory : OnlyOpened G choice load with_sink status.NoMemory ⊎ HasRun G choice load with_sink status.NoMemory → Told status.NoMemory
  says_memory tells = record {
    tells = tells;
    kind = tt;
    disk = λ j e. absurd (cc);
    stopped = λ j e t. absurd (cc);
    clean = λ e. absurd (cc);
    sink = λ e. absurd (cc);
    opened = λ e. absurd (cc);
    bad_log = λ fault e. absurd (cc);
    read_alone = λ fault e. absurd (cc);
    rest = rest;
  }

  only_memory : AreBarred → wrote [] → Told status.NoMemory
  only_memory b silent = says_memory (inl (record { ends = silent; only = b.only; barrier = b.barrier; barred = b.barred; read = λ fault e. absurd (cc) }))

  -- ---- a disk failed

  -- one of its first so many calls was the first that was to fail, and none of a disk below it was
  record IsFailed (count j : ℕ) : Type 0 where
    pub low : j < n
    pub here : OfDisk (Broke G count) old new j
    pub clean : EachIn (λ i. i < j) (λ i. IsClean G.tells G.number G.fails) old new

  says_failed : (count j : ℕ) → IsFailed count j → OnlyOpened G choice load with_sink (status.DiskFault j) ⊎ HasRun G choice load with_sink (status.DiskFault j) → Told (status.DiskFault j)
  says_failed count j failed tells =
      let (d, e, was, is, broke) = failed.here in
      let same : (i : ℕ) → status.DiskFault j ≡ status.DiskFault i → j ≡ i = λ i f. cc in
      record {
        tells = tells;
        kind = tt;
        disk = λ i f. subst (λ (k : ℕ). (k < n) × RoseAt G.faults old new k) (same i f) (failed.low, (d, e, was, is, broke.rose));
        stopped = λ i f t. subst (λ (k : ℕ). IsFirstStopped G.tells G.number G.fails G.short old new k) (same i f)
            ((d, e, was, is, broke_stopped G count d e broke), λ i d low was. failed.clean i d low was);
        clean = λ f. absurd (cc);
        sink = λ f. absurd (cc);
        opened = λ f. absurd (cc);
        bad_log = λ fault f. absurd (cc);
        read_alone = λ fault f. absurd (cc);
        rest = rest;
      }

  only_failed : (j : ℕ) → IsFailed (calls_before_writes (slice_index sizes j)) j → EachUsed (AtMostRead G) old new n → WroteFront wrote sink_rose (fault_text (status.DiskFault j)) → Told (status.DiskFault j)
  only_failed j failed only line =
      let (d, e, was, is, broke) = failed.here in
      let few = few_made G (calls_before_writes (slice_index sizes j)) d e broke in
      let b = most_barred only in
      says_failed (calls_before_writes (slice_index sizes j)) j failed (inl (record { ends = (λ t. (few.0, few.1, (d, e, was, is, few.2 t)), line); only = b.only; barrier = b.barrier; barred = b.barred; read = λ fault e. absurd (cc) }))

  stops_reading : (j : ℕ) → StopsReading G n j old new → IsFailed (calls_before_writes (slice_index sizes j)) j
  stops_reading j (inl (low, fails)) =
      let (d, e, was, is, r) = fails.here in
      record {
        low = low;
        here = (d, e, was, is, more_broke G 1 (calls_before_writes (slice_index sizes j)) d e (omega arith) r.broke);
        clean = λ i b under before. let (c, at, q) = fails.below i b under before in (c, at, went_clean G 1 b c q.went);
      }
  stops_reading j (inr (mid, sz, are, (low, fails))) =
      let lt : j < n = omega (arith, low, are.count) in
      let (d1, e, at, is, broke) = fails.here in
      let (d, was) = some_at old j (omega (arith, lt, there)) in
      let (c, now, asked) = are.asked.each j d lt was in
      let same : c ≡ d1 = some_is c d1 (sym now ∙ at) in
      let whole : Broke G (1 + calls_to_settle (slice_index sz j)) d e = went_broke G 1 (calls_to_settle (slice_index sz j)) d d1 e (subst (λ (z : D). Went G 1 d z) same asked.went) broke in
      record {
        low = lt;
        here = (
          d,
          e,
          was,
          is,
          broke_as G (1 + calls_to_settle (slice_index sz j)) (calls_before_writes (slice_index sizes j)) d e whole (λ t. ap (λ (k : ℕ). 1 + calls_to_settle k) (are.lengths j d low was t ∙ sym (size_at j d lt was))),
        );
        clean = λ i b under before.
            let (x, at_x, r) = are.asked.each i b (omega (arith, under, lt)) before in
            let (y, at_y, q) = fails.below i x under at_x in
            (y, at_y, went_clean G (1 + calls_to_settle (slice_index sz i)) b y (went_on G 1 (calls_to_settle (slice_index sz i)) b x y r.went q.went));
      }

  -- ---- some streams were started

  read_touched : (sz : List ℕ) (starts : List StreamStart) (j : ℕ) (d e : D) → WasRead G (slice_index sz j) d e → TouchedAt G f sz starts j d e
  read_touched sz starts j d e read p at = record { mid = e; read = read; starts = λ t unborn. passes_none G.moment G.may_leave_since e _ }

  some_touched : (k : ℕ) (s : StartsSome G f n text k old new) → EachIn (λ j. j < n) (TouchedAt G f s.sizes s.starts) old new
  some_touched k s j d low was = ⊎_elim
      (λ under. let (e, is, opened) = s.below j d under was in (e, is, opened.0))
      (λ above. let (e, is, read) = s.above j d (above, low) was in (e, is, read_touched s.sizes s.starts j d e read))
      (below_or_not j k)

  stops_touched : (i : ℕ) (s : StopsStarting G f n text i old new) → EachIn (λ j. j < n) (TouchedAt G f s.sizes s.starts) old new
  stops_touched i s j d low was = elim (cases_eq j i) [
    | inl same ↦
        let (b, e, before, is, breaks) = s.here in
        let it : b ≡ d = some_is b d (sym before ∙ subst (λ (k : ℕ). slice_get old k ≡ Some d) same was) in
        (e, subst (λ (k : ℕ). slice_get new k ≡ Some e) (sym same) is, subst (λ (k : ℕ). TouchedAt G f s.sizes s.starts k d e) (sym same) (subst (λ (z : D). TouchedAt G f s.sizes s.starts i z e) it breaks.0))
    | inr other ↦ ⊎_elim
        (λ under. let (e, is, opened) = s.below j d under was in (e, is, opened.0))
        (λ above. let (e, is, read) = s.above j d (omega (arith, above, other), low) was in (e, is, read_touched s.sizes s.starts j d e read))
        (below_or_not j i)
  ]

  -- the disk failed after all its calls that read it, by one of those that open its stream
  record IsStarting (j : ℕ) : Type 0 where
    pub failed : IsFailed (opening_calls sizes j) j
    pub made : (k : ℕ) × (calls_before_writes (slice_index sizes j) < k) × (k ≤ opening_calls sizes j) × (G.tells → Made G.number G.short old new j k)

  stops_starting : (j : ℕ) → StopsStarting G f n text j old new → IsStarting j
  stops_starting j s =
      let lt = s.low in
      let (d, e, was, is, breaks) = s.here in
      let many = starts_long G f n load old there s.sizes s.starts s.begun in
      let (p, at) = some_at s.starts j (omega (arith, lt, many)) in
      let (mid, read, broke) = breaks.1 p at in
      let late = late_made G (calls_before_writes (slice_index sizes j)) (if nat_le (slice_index sizes j) 17 then 6 else 4) d e (starting_calls (slice_index sizes j)) (within j lt s d mid e was p at read broke) in
      record {
        failed = record {
          low = lt;
          here = (
            d,
            e,
            was,
            is,
            broke_as G (calls_before_writes (slice_index s.sizes j) + calls_to_reopen p.content.count) (opening_calls sizes j) d e
                (went_broke G (calls_before_writes (slice_index s.sizes j)) (calls_to_reopen p.content.count) d mid e read.went broke)
                (λ t. calls_are G f n load old there s.sizes s.starts s.begun t j d lt was p at),
          );
          clean = λ i b under before.
              let (c, now, opened) = s.below i b under before in
              let (q, at_q) = some_at s.starts i (omega (arith, under, lt, many)) in
              (c, now, went_clean G (calls_before_writes (slice_index s.sizes i) + calls_to_reopen q.content.count) b c (opened.1 q at_q));
        };
        made = (late.0, late.1, late.2, λ t. (d, e, was, is, late.3 t));
      }
    where
      starting_calls : (long : ℕ) → 1 ≤ (if nat_le long 17 then 6 else 4)
      starting_calls long = by (nat_le long 17)
        where
          by : (b : Bool) → 1 ≤ (if b then 6 else 4)
          by true = omega arith
          by false = omega arith

      within : (j : ℕ) (lt : j < n) (s : StopsStarting G f n text j old new) (d mid e : D) (was : slice_get old j ≡ Some d) (p : StreamStart) (at : slice_get s.starts j ≡ Some p) → WasRead G (slice_index s.sizes j) d mid → Broke G (calls_to_reopen p.content.count) mid e → G.tells → G.short e ≡ false →
          (G.number d + calls_before_writes (slice_index sizes j) < G.number e) × (G.number e ≤ G.number d + calls_before_writes (slice_index sizes j) + (if nat_le (slice_index sizes j) 17 then 6 else 4))
      within j lt s d mid e was p at read broke t whole =
          let size : slice_index s.sizes j ≡ slice_index sizes j = size_is G f n load old there s.sizes s.starts s.begun t j d lt was ∙ sym (size_at j d lt was) in
          let before : calls_before_writes (slice_index s.sizes j) ≡ calls_before_writes (slice_index sizes j) = ap (λ (k : ℕ). calls_before_writes k) size in
          let all : calls_before_writes (slice_index s.sizes j) + calls_to_reopen p.content.count ≡ opening_calls sizes j = calls_are G f n load old there s.sizes s.starts s.begun t j d lt was p at in
          let first = (read.went.made t).0 in
          ⊎_elim
          (λ made. let low = made.0 in let high = made.1 in (omega (arith, before, first, low), omega (arith, before, all, first, high)))
          (λ memory. absurd (let bad : true ≡ false = sym memory ∙ whole in cc bad))
          (broke.made t)

  -- ---- the log was refused

  module _ (fault : LogFault) (refuses : RefusesLog G f n text old new fault) where
    sizes_are : G.tells → refuses.sizes ≡ sizes
    sizes_are t = same_sizes G refuses.sizes (take n old) (refuses.count ∙ sym (taken_long old n there)) (λ j d at.
        refuses.lengths j d (let low = got_within (take n old) j d at in let long = taken_long old n there in let many = refuses.count in omega (arith, low, long, many)) at t)

    abbrev Read : ℕ → D → D → Type 0
    Read j = WasRead G (slice_index refuses.sizes j)

    kept : (j : ℕ) (d e : D) → Read j d e → G.tells → IsKept d e
    kept j d e read t = record { only = read.only; same = read.same t; settled = λ some. read.settled t some }

    read_barred : AreBarred
    read_barred = record {
      only = λ j d low was. (let (e, is, read) = refuses.read j d low was in (e, is, read.only));
      barrier = barrier_at Read refuses.read;
      barred = put Read refuses.read (λ b d e. G.tells → HasBarrier G d e → IsUnwritten G b d e) (λ j d e read t has. unwritten d e (kept j d e read t));
    }

    is_refused : G.tells → IsRunRefused f text (images_of G.seen old n) fault
    is_refused t = by refuses.why
      where
        by : HasRead G.tells G.seen (Some f) (take n old) (Err (refusal.Bad fault)) ⊎ ((log : Log) × (contents : List Content) × IsReadFrom G f (take n old) refuses.sizes log contents × IsRefusedOn text refuses.sizes log fault) → IsRunRefused f text (images_of G.seen old n) fault
        by (inl read) = inl (subst (λ (images : List (List ℕ)). log_of (Some f) images ≡ Err fault) (read.as_seen t) read.gives)
        by (inr (log, contents, from, on)) = inr (
          log,
          subst (λ (images : List (List ℕ)). log_of (Some f) images ≡ Ok log) (from.read.as_seen t) from.read.gives,
          subst (λ (xs : List ℕ). IsRefusedOn text xs log fault) (sizes_are t) on,
        )

    says_bad : WroteFront wrote sink_rose (fault_text (status.BadLog fault)) → Told (status.BadLog fault)
    unfolding read_barred
    says_bad line =
        let same : (other : LogFault) → status.BadLog fault ≡ status.BadLog other → fault ≡ other = λ other e. cc in
        record {
          tells = inl (record {
            ends = line;
            only = read_barred.only;
            barrier = read_barred.barrier;
            barred = read_barred.barred;
            read = λ other e. put Read refuses.read (λ b d e. G.tells → IsUnwritten G b d e) (λ j d e read t. unwritten d e (kept j d e read t));
          });
          kind = tt;
          disk = λ j e. absurd (cc);
          stopped = λ j e t. absurd (cc);
          clean = λ e. absurd (cc);
          sink = λ e. absurd (cc);
          opened = λ e. absurd (cc);
          bad_log = λ other e t. subst (λ (x : LogFault). IsRunRefused f text (images_of G.seen old n) x) (same other e) (is_refused t);
          read_alone = λ other e j d low was.
              let (c, is, read) = refuses.read j d low was in
              (c, is, λ t. subst (λ (xs : List ℕ). MadeAll (calls_before_writes (slice_index xs j)) (G.number d) (G.number c) (G.fails d) (G.short d) (G.short c)) (sizes_are t) (read.went.made t));
          rest = rest;
        }

  -- ---- the refusal, and what was told of it

  silent_memory : (r : ScanRefusal) → RefusesRun G f n text old new r → wrote [] → Told status.NoMemory
  silent_memory refusal.NoMemory (inl only) silent = only_memory (most_barred only) silent
  silent_memory refusal.NoMemory (inr (k, le, s)) silent = says_memory (inr (touched.memory_told only_now choice load some room workers sound old new there s.sizes s.starts s.begun (some_touched k s) o silent))
  silent_memory (refusal.Failed j) (inl (stop, only)) silent = only_memory (most_barred only) silent
  silent_memory (refusal.Failed j) (inr s) silent = says_memory (inr (touched.memory_told only_now choice load some room workers sound old new there s.sizes s.starts s.begun (stops_touched j s) o silent))
  silent_memory (refusal.Bad fault) refuses silent = only_memory (read_barred fault refuses) silent

  told_so : (r : ScanRefusal) → RefusesRun G f n text old new r → WroteFront wrote sink_rose (fault_text (status_at r)) → Told (status_at r)
  told_so refusal.NoMemory refuses line = silent_memory refusal.NoMemory refuses (nothing_told wrote sink_rose line)
  told_so (refusal.Failed j) (inl (stop, only)) line = only_failed j (stops_reading j stop) only line
  told_so (refusal.Failed j) (inr s) line =
      let starting = stops_starting j s in
      says_failed (opening_calls sizes j) j starting.failed
      (inr (touched.failed_told only_now choice load some room workers sound old new there s.sizes s.starts s.begun (stops_touched j s) o j starting.made line))
  told_so (refusal.Bad fault) refuses line = says_bad fault refuses line

  pub says_refused : (r : ScanRefusal) → RefusesRun G f n text old new r → (answer : Status) → TellsFault wrote sink_rose (status_at r) answer → Told answer
  says_refused r refuses answer (inr none) = subst (λ (a : Status). Told a) (sym none.0) (silent_memory r refuses none.1)
  says_refused r refuses answer (inl told) = subst (λ (a : Status). Told a) (sym told.0) (told_so r refuses told.1)
