-- What follows of all that is said of a call that was to run a workload.
use Rattle.std.proofs.Common.{ℕ, ◌+◌, ◌-◌, ◌<◌, ◌≤◌, ◌≡◌, ◌⊎◌, inl, inr, ⊎_elim, true, false, List, [], map, length, refl, sym, ap, subst, ◌∙◌, arith}
use Rattle.std.specs.Prelude.{None, Some, Ok, Err, Option, Result, slice_get, slice_index}
use Rattle.tau_base.specs.declared.format.Format.{Format}
use Rattle.tau_base.specs.Modes.{format_of}
use Rattle.tau_base.proofs.Logic.{below_or_not}
use Rattle.tau_disk.specs.declared.disk.Disk.{Ghosts}
use Rattle.tau_disk.specs.Disk.{Rose}
use Rattle.tau_disk.specs.Stages.{OnlySynced}
use Rattle.tau_disk.specs.Used.{EachIn, EachUsed, Made}
use Rattle.tau_disk.proofs.Syncing.{only_none}
use Rattle.tau_text.specs.declared.load.Workload.{Workload}
use Rattle.tau_text.specs.Canonical.{declarations_text}
use Rattle.tau_scan.specs.declared.fault.LogFault.{LogFault}
use Rattle.tau_scan.specs.declared.log.Log.{Log}
use Rattle.tau_scan.specs.Begins.{begins_fault}
use Rattle.tau_scan.specs.Reading.{◌>>=◌, contents_of, log_as, log_of, log_of_contents}
use Rattle.tau_scan.specs.Taken.{Kept}
use Rattle.tau_replay.specs.Redone.{IsOrderOf}
use Rattle.tau_begin.specs.Reading.{calls_before_writes}
use Rattle.tau_run.specs.RunFacts.{WroteFront}
use Rattle.tau_commands.specs.declared.status.Status.{Status}
use Rattle.tau_commands.specs.declared.status.Status.TheVariants as status
use Rattle.tau_engine.specs.DiskFacts.{NextClean, NotEarlier}
use Rattle.tau_commands.specs.Fault.{fault_text, is_refusal}
use Rattle.tau_engine.specs.Opening.{EmptyAreUnborn, HasBarrier, IsUnwritten, opening_calls}
use Rattle.tau_commands.specs.Outside.{FailsTold, Output, Wrote, ends_text, ends_recovery, is_before_disks}
use Rattle.tau_commands.specs.Recovery.{EndsAsBad, EndsTangled, IsTangle, IsUnfit, images_of}
use Rattle.tau_engine.proofs.Streams.{OnlyNow}
use Rattle.tau_engine.specs.Runs.{DisksAndSink}
use Rattle.tau_engine.specs.declared.run.Choice.{Choice}
use Rattle.tau_engine.specs.RunSays.{EndsRun, EndsUnwritten, HasRun, IsRunRefused, MayEnd, OnlyOpened, RunSays}

-- a run ends in one of the ways in which a recovery does
pub may_end : (s : Status) → MayEnd s → ends_recovery s ≡ true
may_end status.Ok may = refl
may_end status.NoMemory may = refl
may_end status.WriteFault may = refl
may_end (status.DiskFault j) may = refl
may_end (status.BadLog fault) may = refl
may_end status.Usage may = absurd may
may_end (status.BadText at why) may = absurd may
may_end status.ReadFault may = absurd may
may_end status.TooLong may = absurd may
may_end (status.BadFeed at) may = absurd may
may_end (status.BadReport number) may = absurd may

-- ---- the log of these images

log_there : (f : Format) (images contents : List (List ℕ)) (log : Log) → contents_of f images ≡ Ok contents → log_of_contents f contents ≡ Ok log → log_of (Some f) images ≡ Ok log
unfolding log_as
log_there f images contents log e is = ap (λ (r : Result (List (List ℕ)) LogFault). r >>= log_of_contents f) e ∙ is

module _ (f : Format) (images : List (List ℕ)) where
  same_log : (a b : Log) → log_of (Some f) images ≡ Ok a → log_of (Some f) images ≡ Ok b → a ≡ b
  same_log a b one other = (let both : Ok a ≡ Ok b = sym one ∙ other in cc)

  no_log : (fault : LogFault) (a : Log) → log_of (Some f) images ≡ Err fault → log_of (Some f) images ≡ Ok a → ⊥
  no_log fault a bad good = (let both : Err fault ≡ Ok a = sym bad ∙ good in cc both)

  no_fault : (text : List ℕ) (log : Log) (fault : LogFault) → begins_fault text (map length images) log ≡ Some fault → begins_fault text (map length images) log ≡ None → ⊥
  no_fault text log fault is none = (let both : Some fault ≡ None = sym is ∙ none in cc both)

  -- a first cause is the one that was found
  pub same_fault : (text : List ℕ) (fault other : LogFault) → IsUnfit f text images fault → IsRunRefused f text images other → other ≡ fault
  same_fault text fault other (inl bad) (inl found) = (let both : Err other ≡ Err fault = sym found ∙ bad in cc)
  same_fault text fault other (inl bad) (inr (log, reads, on)) = absurd (no_log fault log bad reads)
  same_fault text fault other (inr (log, reads, is)) (inl found) = absurd (no_log other log found reads)
  same_fault text fault other (inr (log, reads, is)) (inr (log', reads', inl found)) =
      let here = subst (λ (l : Log). begins_fault text (map length images) l ≡ Some other) (same_log log' log reads' reads) found in
      (let both : Some other ≡ Some fault = sym here ∙ is in cc)
  same_fault text fault other (inr (log, reads, is)) (inr (log', reads', inr tangled)) =
      absurd (no_fault text log fault is (subst (λ (l : Log). begins_fault text (map length images) l ≡ None) (same_log log' log reads' reads) tangled.0))

  -- of a log from which a run may go on but for its order, the cause is where it is tangled
  pub same_tangle : (text : List ℕ) (log : Log) (other : LogFault) → log_of (Some f) images ≡ Ok log → begins_fault text (map length images) log ≡ None → IsRunRefused f text images other → IsTangle log other × ((order : List Kept) → IsOrderOf log order → ⊥)
  same_tangle text log other reads none (inl found) = absurd (no_log other log found reads)
  same_tangle text log other reads none (inr (log', reads', inl found)) = absurd (no_fault text log other (subst (λ (l : Log). begins_fault text (map length images) l ≡ Some other) (same_log log' log reads' reads) found) none)
  same_tangle text log other reads none (inr (log', reads', inr (fits, tangle, stuck))) =
      subst (λ (l : Log). IsTangle l other × ((order : List Kept) → IsOrderOf l order → ⊥)) (same_log log' log reads' reads) (tangle, stuck)

-- ---- nothing was touched

-- a call that ended before its run, but not where no disk is touched, ran out of memory
pub only_memory : (s : Status) → ends_text s ≡ true → is_before_disks s ≡ false → s ≡ status.NoMemory
only_memory status.NoMemory kind behind = refl
only_memory status.Usage kind behind = absurd (cc kind)
only_memory (status.BadText at why) kind behind = absurd (cc behind)
only_memory status.ReadFault kind behind = absurd (cc behind)
only_memory status.TooLong kind behind = absurd (cc behind)
only_memory (status.BadFeed at) kind behind = absurd (cc behind)
only_memory (status.BadReport number) kind behind = absurd (cc behind)
only_memory status.Ok kind behind = absurd (cc kind)
only_memory status.WriteFault kind behind = absurd (cc kind)
only_memory (status.DiskFault j) kind behind = absurd (cc kind)
only_memory (status.BadLog fault) kind behind = absurd (cc kind)

-- the moment of a disk, if there is one
abbrev moment_of : {D : Type 0} → (D → ℕ) → Option D → ℕ
moment_of moment None = 0
moment_of moment (Some d) = moment d

module _ {D : Type 0} (G : Ghosts D) (only_now : OnlyNow G) (choice : Choice) (load : Workload) (old : List D) (o : Output) where
  abbrev as_they_were : DisksAndSink D
  as_they_were = record { old = old; new = old; sink = o }

  -- a disk that was left alone has its barrier if it has no byte
  still : (d : D) → HasBarrier G d d → IsUnwritten G (G.moment d) d d
  still d has = record {
    barrier = record { low = omega arith; high = omega arith; since_b = λ x so. inr so; entry = λ tells empty. refl };
    same = refl;
    only = λ x so. inr (none, only_now d x so);
  }
    where
      none : G.seen d ≡ []
      none = ⊎_elim (λ is. is) (λ more. absurd (omega (arith, more))) has.1

  still_at : (j : ℕ) (d : D) → slice_get old j ≡ Some d → HasBarrier G d d → IsUnwritten G (moment_of G.moment (slice_get old j)) d d
  still_at j d was has = subst (λ (b : ℕ). IsUnwritten G b d d) (sym (ap (λ (e : Option D). moment_of G.moment e) was)) (still d has)

  -- memory ran out before the disks were asked
  out_of_memory : Wrote o.hears o.held o.held' [] → RunSays G choice load as_they_were status.NoMemory
  out_of_memory silent = record {
    tells = inl (record {
      ends = silent;
      only = λ j d lt was. (d, was, only_none G d);
      barrier = λ j. moment_of G.moment (slice_get old j);
      barred = λ j d lt was. (d, was, λ t has. still_at j d was has);
      read = λ fault e. absurd (cc);
    });
    kind = tt;
    disk = λ j e. absurd (cc);
    stopped = λ j e t. absurd (cc);
    clean = λ e. absurd (cc);
    sink = λ e. absurd (cc);
    opened = λ e. absurd (cc);
    bad_log = λ fault e. absurd (cc);
    read_alone = λ fault e. absurd (cc);
    rest = refl;
  }

  pub untouched : (answer : Status) → answer ≡ status.NoMemory → (answer ≡ status.NoMemory → Wrote o.hears o.held o.held' []) → RunSays G choice load as_they_were answer
  untouched answer is silent = subst (λ (s : Status). RunSays G choice load as_they_were s) (sym is) (out_of_memory (silent is))

-- ---- what was said

module _ {D : Type 0} {G : Ghosts D} {choice : Choice} {load : Workload} {w : DisksAndSink D} {answer : Status} (says : RunSays G choice load w answer) where
  abbrev n : ℕ
  n = choice.streams

  abbrev f : Format
  f = format_of choice.mode

  abbrev text : List ℕ
  text = declarations_text load.declarations

  abbrev images : List (List ℕ)
  images = images_of G.seen w.old n

  abbrev Unwritten : Status → Type 0
  Unwritten s = EndsUnwritten G choice load w answer s

  -- the line of a refusal was written, or a first part of it if the sink failed
  abbrev LineTold : Type 0
  LineTold = WroteFront (Wrote w.sink.hears w.sink.held w.sink.held') (Rose w.sink.faults w.sink.faults') (fault_text answer)

  -- the log on which the run went on
  has_log : (run : HasRun G choice load w answer) → G.tells → log_of (Some f) images ≡ Ok run.start.log
  has_log run tells = log_there f images run.start.old run.start.log (run.contents tells) run.begins.reads

  -- ---- a refusal

  line_of : (s : Status) → Unwritten s → is_refusal s ≡ true → LineTold
  line_of (status.BadLog fault) ends e = ends
  line_of status.NoMemory ends e = absurd (cc e)
  line_of (status.DiskFault j) ends e = absurd (cc e)
  line_of status.Ok ends e = absurd ends
  line_of status.WriteFault ends e = absurd ends
  line_of status.Usage ends e = absurd ends
  line_of (status.BadText at why) ends e = absurd ends
  line_of status.ReadFault ends e = absurd ends
  line_of status.TooLong ends e = absurd ends
  line_of (status.BadFeed at) ends e = absurd ends
  line_of (status.BadReport number) ends e = absurd ends

  runs_well : (s : Status) → EndsRun s → is_refusal s ≡ true → ⊥
  runs_well status.Ok ends e = cc e
  runs_well status.NoMemory ends e = cc e
  runs_well status.WriteFault ends e = cc e
  runs_well (status.DiskFault j) ends e = cc e
  runs_well (status.BadLog fault) ends e = ends
  runs_well status.Usage ends e = ends
  runs_well (status.BadText at why) ends e = ends
  runs_well status.ReadFault ends e = ends
  runs_well status.TooLong ends e = ends
  runs_well (status.BadFeed at) ends e = ends
  runs_well (status.BadReport number) ends e = ends

  pub refusal_line : is_refusal answer ≡ true → LineTold
  refusal_line e = by says.tells
    where
      by : OnlyOpened G choice load w answer ⊎ HasRun G choice load w answer → LineTold
      by (inl only) = line_of answer only.ends e
      by (inr run) = absurd (runs_well answer run.ends e)

  pub refusal_synced : (fault : LogFault) → answer ≡ status.BadLog fault → EachUsed (OnlySynced G) w.old w.new n
  refusal_synced fault e = by says.tells
    where
      by : OnlyOpened G choice load w answer ⊎ HasRun G choice load w answer → EachUsed (OnlySynced G) w.old w.new n
      by (inl only) = only.only
      by (inr run) = absurd (subst EndsRun e run.ends)

  -- ---- a disk that failed

  calls_are : (j : ℕ) → calls_before_writes (slice_index (map length images) j) ≤ opening_calls (map length images) j
  calls_are j = omega arith

  -- its call was one of those that open its stream, or a later one
  pub opening_told : (j : ℕ) → answer ≡ status.DiskFault j → G.tells → FailsTold (opening_calls (map length images) j) (Made G.number G.short w.old w.new j) LineTold
  opening_told j e tells = by says.tells
    where
      unwritten : (s : Status) → answer ≡ s → Unwritten s → s ≡ status.DiskFault j → FailsTold (opening_calls (map length images) j) (Made G.number G.short w.old w.new j) LineTold
      unwritten (status.DiskFault i) is ends f =
          let same : i ≡ j = cc in
          let (k, le, made) = ends.0 tells in
          let few = calls_are i in
          subst (λ (x : ℕ). FailsTold (opening_calls (map length images) x) (Made G.number G.short w.old w.new x) LineTold) same (inl (k, omega (arith, le, few), made, ends.1))
      unwritten status.NoMemory is ends f = absurd (cc f)
      unwritten (status.BadLog fault) is ends f = absurd (cc f)
      unwritten status.Ok is ends f = absurd ends
      unwritten status.WriteFault is ends f = absurd ends
      unwritten status.Usage is ends f = absurd ends
      unwritten (status.BadText at why) is ends f = absurd ends
      unwritten status.ReadFault is ends f = absurd ends
      unwritten status.TooLong is ends f = absurd ends
      unwritten (status.BadFeed at) is ends f = absurd ends
      unwritten (status.BadReport number) is ends f = absurd ends

      -- none of the calls that open its stream was to fail
      after : EachIn (λ i. i < n) (λ i. NextClean G.tells G.number G.fails (opening_calls (map length images) i)) w.old w.new → (k : ℕ) × (opening_calls (map length images) j < k) × Made G.number G.short w.old w.new j k
      after clean =
          let (d, d', was, is, stop) = (says.stopped j e tells).0 in
          let (f, at, next) = clean j d (says.disk j e).0 was in
          elim (stop tells) [
            | inl memory ↦ (opening_calls (map length images) j + 1, omega arith, (d, d', was, is, λ whole. absurd (let bad : true ≡ false = sym memory ∙ whole in cc bad)))
            | inr made ↦ elim (below_or_not (G.number d + opening_calls (map length images) j) (G.number d')) [
              | inl late ↦ (G.number d' - G.number d, omega (arith, late), (d, d', was, is, λ whole. omega (arith, late)))
              | inr early ↦ absurd (let bad : true ≡ false = sym made.1 ∙ next tells (G.number d') made.0 early in cc bad)
            ]
          ]

      by : OnlyOpened G choice load w answer ⊎ HasRun G choice load w answer → FailsTold (opening_calls (map length images) j) (Made G.number G.short w.old w.new j) LineTold
      by (inl only) = unwritten answer refl only.ends e
      by (inr run) = elim (run.fails j e) [
        | inl starting ↦ (let (k, late, le, made) = starting.0 in inl (k, le, made tells, starting.1))
        | inr running ↦ inr (after running)
      ]

  -- ---- moments

  pub not_earlier : EmptyAreUnborn G w.old n → EachUsed (NotEarlier G.tells G.moment) w.old w.new n
  not_earlier unborn = by says.tells
    where
      by : OnlyOpened G choice load w answer ⊎ HasRun G choice load w answer → EachUsed (NotEarlier G.tells G.moment) w.old w.new n
      by (inl only) j d lt was = let (e, is, synced) = only.only j d lt was in (e, is, λ t. synced.moments.later)
      by (inr run) j d lt was =
          let (e, is, has) = run.barriers unborn j d lt was in
          (e, is, λ t. (let low = (has t).low in let high = (has t).high in omega (arith, low, high)))

  -- ---- a bad log

  module _ (tells : G.tells) where
    pub bad_told : (fault : LogFault) → IsUnfit f text images fault → EndsAsBad fault answer
    bad_told fault is = by says.tells
      where
        unwritten : (s : Status) → answer ≡ s → Unwritten s → EndsAsBad fault s
        unwritten status.NoMemory e ends = tt
        unwritten (status.DiskFault j) e ends = tt
        unwritten (status.BadLog other) e ends = same_fault f images text fault other is (says.bad_log other e tells)
        unwritten status.Ok e ends = absurd ends
        unwritten status.WriteFault e ends = absurd ends
        unwritten status.Usage e ends = absurd ends
        unwritten (status.BadText at why) e ends = absurd ends
        unwritten status.ReadFault e ends = absurd ends
        unwritten status.TooLong e ends = absurd ends
        unwritten (status.BadFeed at) e ends = absurd ends
        unwritten (status.BadReport number) e ends = absurd ends

        begun : (log : Log) → log_of (Some f) images ≡ Ok log → begins_fault text (map length images) log ≡ None → IsUnfit f text images fault → ⊥
        begun log reads fits (inl bad) = no_log f images fault log bad reads
        begun log reads fits (inr (log', reads', found)) = no_fault f images text log fault (subst (λ (l : Log). begins_fault text (map length images) l ≡ Some fault) (same_log f images log' log reads' reads) found) fits

        by : OnlyOpened G choice load w answer ⊎ HasRun G choice load w answer → EndsAsBad fault answer
        by (inl only) = unwritten answer refl only.ends
        by (inr run) = absurd (begun run.start.log (has_log run tells) (run.fits tells) is)

    pub tangled_told : (log : Log) → log_of (Some f) images ≡ Ok log → begins_fault text (map length images) log ≡ None → ((order : List Kept) → IsOrderOf log order → ⊥) → EndsTangled log answer
    tangled_told log reads fits none = by says.tells
      where
        unwritten : (s : Status) → answer ≡ s → Unwritten s → EndsTangled log s
        unwritten status.NoMemory e ends = tt
        unwritten (status.DiskFault j) e ends = tt
        unwritten (status.BadLog other) e ends = (same_tangle f images text log other reads fits (says.bad_log other e tells)).0
        unwritten status.Ok e ends = absurd ends
        unwritten status.WriteFault e ends = absurd ends
        unwritten status.Usage e ends = absurd ends
        unwritten (status.BadText at why) e ends = absurd ends
        unwritten status.ReadFault e ends = absurd ends
        unwritten status.TooLong e ends = absurd ends
        unwritten (status.BadFeed at) e ends = absurd ends
        unwritten (status.BadReport number) e ends = absurd ends

        by : OnlyOpened G choice load w answer ⊎ HasRun G choice load w answer → EndsTangled log answer
        by (inl only) = unwritten answer refl only.ends
        by (inr run) =
            let (order, is, redoes) = run.begins.redone in
            absurd (none order (subst (λ (l : Log). IsOrderOf l order) (same_log f images run.start.log log (has_log run tells) reads) is))

    -- a log from which a run may go on, and that has an order, is not refused
    pub not_bad : (log : Log) (order : List Kept) → log_of (Some f) images ≡ Ok log → begins_fault text (map length images) log ≡ None → IsOrderOf log order → (fault : LogFault) → answer ≡ status.BadLog fault → ⊥
    not_bad log order reads fits is fault e = (same_tangle f images text log fault reads fits (says.bad_log fault e tells)).1 order is
