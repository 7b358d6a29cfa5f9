-- What a run on streams that were opened has done, by its answer.
use Rattle.std.proofs.Common.{ℕ, ◌<◌, ◌≤◌, ◌≡◌, ◌⊎◌, inl, inr, Bool, true, false, List, [], ◌++◌, map, length, take, drop, refl, sym, ap, subst, ◌∙◌, Option, arith}
use Rattle.std.specs.Prelude.{Some, None, slice_get, slice_index}
use Rattle.std.proofs.lemmas.List.{append-nil}
use Rattle.tau_base.specs.declared.format.Format.{Format}
use Rattle.tau_base.specs.declared.value.LogMode.{LogMode}
use Rattle.tau_base.specs.Modes.{format_of}
use Rattle.tau_base.proofs.Lists.{some_at, got_mapped}
use Rattle.tau_base.proofs.Logic.{some_is, below_or_not}
use Rattle.tau_block.specs.Image.{HasContent}
use Rattle.tau_disk.specs.declared.disk.Disk.{Ghosts}
use Rattle.tau_disk.specs.Disk.{Rose, Passes}
use Rattle.tau_disk.specs.Stages.{Went}
use Rattle.tau_disk.specs.Used.{EachIn, RoseAt, IsFirstStopped}
use Rattle.tau_stream.specs.declared.writer.Writer.{Writer}
use Rattle.tau_stream.specs.Stream.{IsOldOrNew, IsUnborn}
use Rattle.tau_stream.specs.Writer.{disk_of}
use Rattle.tau_open.specs.declared.start.StreamStart.{StreamStart}
use Rattle.tau_open.proofs.Closed.{rest_back}
use Rattle.tau_model.specs.History.{Act}
use Rattle.tau_model.specs.Tables.{IsTablesOf}
use Rattle.tau_machine.specs.Hands.{Txn}
use Rattle.tau_machine.specs.Reports.{reported}
use Rattle.tau_machine.specs.State.{Core, sight}
use Rattle.tau_text.specs.declared.load.Workload.{Workload}
use Rattle.tau_text.specs.Canonical.{declarations_text}
use Rattle.tau_report.specs.declared.report.RunEnd.{RunEnd}
use Rattle.tau_report.specs.Report.{ack_lines, rest_text, report_text}
use Rattle.tau_core.specs.declared.opening.Opening.{Opening}
use Rattle.tau_core.specs.declared.state.Load.{Load}
use Rattle.tau_core.specs.View.{setting_of}
use Rattle.tau_run.specs.Run.{Run, AllAcked, IsReportOf}
use Rattle.tau_run.specs.Outside.{Outside}
use Rattle.tau_run.specs.RecoveredFacts.{IsEnded}
use Rattle.tau_run.specs.Start.{Start, IsStart, old_at, opened_at}
use Rattle.tau_run.specs.CoreRun.{IsCourse, IsLoadOn, IsRunOf, IsSoundLoad}
use Rattle.tau_run.specs.StopsLeave.{HasSomeFront, IsLeft, IsOver, NamesLowest, stops_in}
use Rattle.tau_run.specs.RunFacts.{Ending, IsCoreRun, IsCoreRunAt, RunTells, RunFacts}
use Rattle.tau_run.specs.RunFacts as ending
use Rattle.tau_run.specs.Turns.{Progress}
use Rattle.tau_run.specs.Fates.{fates_by}
use Rattle.tau_run.specs.Gives.{CameTo, came_far}
use Rattle.tau_run.specs.Heard.{Heard}
use Rattle.tau_run.specs.Writers.{EachOf, Left}
use Rattle.tau_run.proofs.Came as of
use Rattle.tau_run.proofs.Came.{BeginsOn}
use Rattle.tau_run.proofs.Imaged.{Leaves}
use Rattle.tau_begin.specs.Barrier.{IsBarrier}
use Rattle.tau_begin.specs.Opened.{IsTouched, IsOpenRun}
use Rattle.tau_begin.proofs.Barrier.{barrier_of, put_on}
use Rattle.tau_commands.specs.declared.status.Status.{Status}
use Rattle.tau_commands.specs.declared.status.Status.TheVariants as status
use Rattle.tau_engine.specs.DiskFacts.{DisksWorked, NextClean, Now, ending_of}
use Rattle.tau_engine.specs.Opening.{opening_calls, SinceBarrier, EmptyAreUnborn}
use Rattle.tau_commands.specs.Outside.{Output, Wrote}
use Rattle.tau_commands.specs.Recovery.{images_of}
use Rattle.tau_engine.specs.Runs.{DisksAndSink, TellsEnd, ran_by}
use Rattle.tau_engine.specs.declared.run.Choice.{Choice}
use Rattle.tau_engine.specs.RunSays.{EndsRun, FailsStarting, HasRun, OpenedClean, RunSays, HasSpacedOn, outside_of}
use Rattle.tau_engine.proofs.OnOpened as on
use Rattle.tau_engine.proofs.Reports.{reported_by}
use Rattle.tau_engine.proofs.Streams.{OnlyNow, Way, Joined, mapped_got, opens_clean, rose_at, clean_below, first_stopped, made_all, leaves}
use Rattle.tau_engine.proofs.Texts.{heard_front, whole_text, rest_cut, lines_cut, take_long}

module _ {D : Type 0} {G : Ghosts D} (only_now : OnlyNow G) (choice : Choice) (load : Workload) (old mid : List D) (there : choice.streams ≤ length old) (o : Opening) (ws : List (Writer D G)) (is_open : IsOpenRun G (format_of choice.mode) choice.streams (declarations_text load.declarations) old mid o ws) where
  abbrev n : ℕ
  n = choice.streams

  abbrev m : ℕ
  m = choice.workers

  abbrev mode : LogMode
  mode = choice.mode

  abbrev pub f : Format
  f = format_of mode

  abbrev pub start : Start
  start = on.start G f n load old there is_open.sizes is_open.starts is_open.begun

  pub begins : IsStart f n load start
  begins = (on.opened G f n load old there is_open.sizes is_open.starts is_open.begun).starts

  abbrev pub sizes : List ℕ
  sizes = map length (images_of G.seen old n)

  -- ---- the disk of each stream: at the entry, and once it was opened

  abbrev pub barrier_from : (j : ℕ) (d : Option D) → slice_get old j ≡ d → (j < n) ⊎ (n ≤ j) → ℕ
  barrier_from j None was side = 0
  barrier_from j (Some d) was (inr high) = 0
  barrier_from j (Some d) was (inl low) =
      let made = is_open.disks j d low was in
      let p = some_at is_open.starts j (let long = on.starts_long G f n load old there is_open.sizes is_open.starts is_open.begun in omega (arith, low, long)) in
      barrier_of G d (made.2.0 p.0 p.1).mid

  abbrev pub barrier : ℕ → ℕ
  barrier j = barrier_from j (slice_get old j) refl (below_or_not j n)

  -- the disk of stream j, its barrier, and the writer that it has become
  pub record Opens (j b : ℕ) : Type 0 where
    pub disk : D
    pub was : slice_get old j ≡ Some disk
    pub now : D
    pub writer : Writer D G
    pub writes : slice_get ws j ≡ Some writer
    pub same : disk_of writer ≡ now
    pub first : StreamStart
    pub starts : slice_get is_open.starts j ≡ Some first
    pub touched : IsTouched G f (length is_open.starts) j (slice_index is_open.sizes j) first.content.bytes first.body disk now
    pub barrier_is : b ≡ barrier_of G disk touched.mid
    pub went : Went G (opening_calls sizes j) disk now

  pub opens : (j : ℕ) → j < n → Opens j (barrier j)
  opens j lt = by (slice_get old j) refl (below_or_not j n)
    where
      by : (d : Option D) (was : slice_get old j ≡ d) (side : (j < n) ⊎ (n ≤ j)) → Opens j (barrier_from j d was side)
      by None was side = absurd (let d = some_at old j (omega (arith, lt, there)) in let bad : None ≡ Some d.0 = sym was ∙ d.1 in cc bad)
      by (Some d) was (inr high) = absurd (omega (arith, lt, high))
      by (Some d) was (inl low) =
          let made = is_open.disks j d low was in
          let p = some_at is_open.starts j (let long = on.starts_long G f n load old there is_open.sizes is_open.starts is_open.begun in omega (arith, low, long)) in
          let w = got_mapped (disk_of {D = D} {G = G}) ws j made.0 made.1 in
          record {
            disk = d;
            was = was;
            now = made.0;
            writer = w.0;
            writes = w.1;
            same = w.2;
            first = p.0;
            starts = p.1;
            touched = made.2.0 p.0 p.1;
            barrier_is = refl;
            went = on.went_as G _ (opening_calls sizes j) d made.0 (made.2.1 p.0 p.1) (λ t. on.calls_are G f n load old there is_open.sizes is_open.starts is_open.begun t j d low was p.0 p.1);
          }

  -- ---- the run

  module _ (sound : IsSoundLoad load) (l : Load) (load_is : IsLoadOn n m mode load start l) (ws' : List (Writer D G)) (new : List D) (back : new ≡ map disk_of ws' ++ mid) (acks : List (ℕ × List ℕ)) (t : CameTo (ran_by load.turns choice.style n m load) (opened_at load start) l ws ws' acks) where
    abbrev pub by : Bool → Load → Core → Progress → Type 0
    by = ran_by load.turns choice.style n m load

    abbrev pub K : List (Act Txn)
    K = t.joined

    abbrev pub s : Core
    s = t.state

    abbrev begun_on : BeginsOn n m mode load start l
    begun_on = record { begins = begins; sound = sound; load_is = load_is }

    abbrev pub run : Run
    run = of.run_of begun_on t

    abbrev pub course : IsCourse n m mode load start l K s
    course = of.course begun_on t

    abbrev pub is : IsRunOf n l K s load run
    is = of.is_run begun_on t

    abbrev pub stops : ℕ → Option ℕ
    stops j = (s.streams j).stop

    streams_are : l.streams ≡ n
    streams_are = load_is.streams

    abbrev pub writers : EachOf (λ j w w'. Left l s j (opened_at load start j) w w') ws ws'
    writers = t.writers

    abbrev pub way : Way D
    way = record { calls = opening_calls sizes; first = opened_at load start; ready = λ j d. ⊥; meanwhile = λ j x. ⊥ }

    pub all : EachIn (λ j. j < n) (Joined G n way l s) old new
    all j d lt was =
        let h = opens j lt in
        let went = writers.each j h.writer h.writes in
        let there : slice_get new j ≡ Some (disk_of went.0) = ap (λ (ds : List D). slice_get ds j) back ∙ mapped_got (disk_of {D = D} {G = G}) ws' [] mid j went.0 went.1 in (
          disk_of went.0,
          there,
          subst (λ (z : D). Joined G n way l s j z (disk_of went.0)) (some_is h.disk d (sym h.was ∙ was)) (record {
            before = h.writer;
            after = went.0;
            went = subst (λ (z : D). Went G (opening_calls sizes j) h.disk z) (sym h.same) h.went;
            opens = λ tells never. absurd never;
            left = went.2;
            is = refl;
          }),
        )

    pub rest : drop n new ≡ drop n old
    rest = rest_back n old new mid ws' (writers.count ∙ is_open.count) back ∙ is_open.rest

    -- ---- images

    module _ (tells : G.tells) (unborn : EmptyAreUnborn G old n) (j : ℕ) (lt : j < n) where
      abbrev pub h : Opens j (barrier j)
      h = opens j lt

      abbrev pub after : (w' : Writer D G) × (slice_get ws' j ≡ Some w') × Left l s j (opened_at load start j) h.writer w'
      after = writers.each j h.writer h.writes

      abbrev pub last : D
      last = disk_of after.0

      passes : Passes G.moment G.may_leave_since h.now last (HasSomeFront l.streams j (opened_at load start j) l s)
      passes = subst (λ (z : D). Passes G.moment G.may_leave_since z last (HasSomeFront l.streams j (opened_at load start j) l s)) h.same (after.2.before tells)

      long : length is_open.starts ≡ n
      long = on.starts_long G f n load old there is_open.sizes is_open.starts is_open.begun

      has : HasContent f (length is_open.starts) j h.first.content.bytes (G.seen h.disk)
      has = subst (λ (k : ℕ). HasContent f k j h.first.content.bytes (G.seen h.disk)) (sym long) (on.has_old G f n load old there is_open.sizes is_open.starts is_open.begun tells j h.disk lt h.was h.first h.starts)

      empty : G.seen h.disk ≡ [] → (h.first.content.bytes ≡ []) × IsUnborn (G.may_leave h.disk)
      empty none = (
        on.no_content f (length is_open.starts) j h.first.content.bytes (subst (λ (x : List ℕ). HasContent f (length is_open.starts) j h.first.content.bytes x) none has),
        unborn j h.disk lt h.was tells none,
      )

      put : IsBarrier G (barrier_of G h.disk h.touched.mid) h.disk last × ((x : List ℕ) → G.may_leave_since last (barrier_of G h.disk h.touched.mid) x → IsOldOrNew f (length is_open.starts) j h.first.content.bytes h.first.body x ⊎ HasSomeFront l.streams j (opened_at load start j) l s x)
      put = put_on G only_now f (length is_open.starts) j (slice_index is_open.sizes j) h.first.content.bytes h.first.body h.disk h.now tells h.touched has empty last (HasSomeFront l.streams j (opened_at load start j) l s) passes

      same_format : f ≡ format_of l.mode
      same_format = ap format_of (sym load_is.mode_is)

      sized : (c x : List ℕ) → HasContent f (length is_open.starts) j c x → HasContent (format_of l.mode) n j c x
      sized c x is = subst (λ (g : Format). HasContent g n j c x) same_format (subst (λ (k : ℕ). HasContent f k j c x) long is)

      is_left : (x : List ℕ) → IsOldOrNew f (length is_open.starts) j h.first.content.bytes h.first.body x ⊎ HasSomeFront l.streams j (opened_at load start j) l s x → IsLeft n j (old_at start j) (opened_at load start j) l s x
      is_left x (inl (inl none)) = inl (subst (λ (c : List ℕ). HasContent (format_of l.mode) n j c x) (on.old_is G f n load old there is_open.sizes is_open.starts is_open.begun j h.first h.starts) (sized h.first.content.bytes x none))
      is_left x (inl (inr whole)) =
          let is : h.first.content.bytes ++ h.first.body ≡ opened_at load start j = on.alike G f n load old there is_open.sizes is_open.starts is_open.begun j h.first h.starts in
          inr ([], record { count = 0; spelled = refl; has = subst (λ (c : List ℕ). HasContent (format_of l.mode) n j c x) (is ∙ sym (append-nil (opened_at load start j))) (sized (h.first.content.bytes ++ h.first.body) x whole) })
      is_left x (inr fronted) = inr (subst (λ (k : ℕ). HasSomeFront k j (opened_at load start j) l s x) streams_are fronted)

      pub left_since : (x : List ℕ) → G.may_leave_since last (barrier j) x → IsLeft n j (old_at start j) (opened_at load start j) l s x
      left_since x so = is_left x (put.1 x (subst (λ (b : ℕ). G.may_leave_since last b x) h.barrier_is so))

      pub barrier_put : IsBarrier G (barrier j) h.disk last
      barrier_put = subst (λ (b : ℕ). IsBarrier G b h.disk last) (sym h.barrier_is) put.0

    -- the disk of a stream at the end
    last_is : (j : ℕ) (lt : j < n) (e : D) → slice_get new j ≡ Some e → disk_of (writers.each j (opens j lt).writer (opens j lt).writes).0 ≡ e
    last_is j lt e is =
        let went = writers.each j (opens j lt).writer (opens j lt).writes in
        some_is (disk_of went.0) e (sym (ap (λ (ds : List D). slice_get ds j) back ∙ mapped_got (disk_of {D = D} {G = G}) ws' [] mid j went.0 went.1) ∙ is)

    pub past_left : EmptyAreUnborn G old n → (j : ℕ) (x : List ℕ) → j < n → SinceBarrier G barrier old new j x → IsLeft n j (old_at start j) (opened_at load start j) l s x
    past_left unborn j x lt (d, e, was, is, (tells, so)) = left_since tells unborn j lt x (subst (λ (z : D). G.may_leave_since z (barrier j) x) (sym (last_is j lt e is)) so)

    pub barriers : EmptyAreUnborn G old n → EachIn (λ j. j < n) (λ j d e. G.tells → IsBarrier G (barrier j) d e) old new
    barriers unborn j d lt was =
        let (e, is, joined) = all j d lt was in (
          e,
          is,
          λ tells. subst (λ (z : D). IsBarrier G (barrier j) z e) (some_is (opens j lt).disk d (sym (opens j lt).was ∙ was)) (subst (λ (z : D). IsBarrier G (barrier j) (opens j lt).disk z) (last_is j lt e is) (barrier_put tells unborn j lt)),
        )

    stop_low : (j at : ℕ) → stops j ≡ Some at → j < n
    stop_low j at e = subst (λ (k : ℕ). j < k) load_is.streams (t.stop_low j at e)

    pub leaves_now : Leaves n (opened_at load start) l s (Now G.tells G.may_leave old new) (RoseAt G.faults old new)
    leaves_now = leaves G n way l s streams_are old new there all stop_low

    abbrev with_sink : Output → DisksAndSink D
    with_sink out = record { old = old; new = new; sink = out }

    abbrev known : Output → Outside
    known out = outside_of G n f (with_sink out) start barrier

    facts : (out : Output) (ended : Ending) → IsCoreRunAt by n m mode load stops run ended → RunTells n mode load (known out) stops run ended → RunFacts by n m mode load (known out) ended
    facts out ended core told = of.facts_of begun_on t (known out) refl leaves_now (λ u. (u.1, λ j x lt q. past_left u.0 j x lt q)) ended core told

    pub has_ended : IsOver n s → (((j : ℕ) → j < n → stops j ≡ None) → AllAcked load run) → IsEnded n mode load (Now G.tells G.may_leave old new) (RoseAt G.faults old new) run
    has_ended over complete = of.ended_of begun_on t (Now G.tells G.may_leave old new) (RoseAt G.faults old new) leaves_now over complete

    core_run : (whole : Bool) → by whole l t.opening (came_far t) → IsCoreRun (by whole) n m mode load stops run
    core_run whole h = of.core_run begun_on t whole h

    opened_clean : EachIn (λ j. j < n) (λ j. NextClean G.tells G.number G.fails (opening_calls sizes j)) old new
    opened_clean = opens_clean G n way l s streams_are old new there all

    -- the report names none if no count rose
    none_failed : (o : Option ℕ) → NamesLowest n stops o → ((j : ℕ) → j < n → RoseAt G.faults old new j → ⊥) → o ≡ None
    none_failed None low worked = refl
    none_failed (Some j) low worked = absurd (worked j low.0 (rose_at G n way l s streams_are old new there all j low.1.0 low.0 low.1.1))

    module _ (out : Output) (answer : Status) where
      abbrev Spaces : Type 0
      Spaces = load.turns ≡ None → DisksWorked n (RoseAt G.faults old new) answer → (j : ℕ) (x : List ℕ) → j < n → Now G.tells G.may_leave old new j x → HasSpacedOn f n j load start x

      abbrev Fails : Type 0
      Fails = (j : ℕ) → answer ≡ status.DiskFault j → FailsStarting G choice load (with_sink out) answer j ⊎ OpenedClean G choice load (with_sink out) answer

      has_run : EndsRun answer → RunFacts by n m mode load (known out) (ending_of answer) → Fails → Spaces → HasRun G choice load (with_sink out) answer
      has_run ends facts fails spaced = record {
        ends = ends;
        start = start;
        begins = begins;
        contents = λ tells. on.contents_are G f n load old there is_open.sizes is_open.starts is_open.begun tells;
        fits = λ tells. on.fits_are G f n load old there is_open.sizes is_open.starts is_open.begun tells;
        barrier = barrier;
        barriers = barriers;
        facts = facts;
        fails = fails;
        spaced = spaced;
      }

    -- ---- the run went to its end

    module _ (e : RunEnd) (whole : by true l t.opening (came_far t)) (over : IsOver n s) (complete : ((j : ℕ) → j < n → stops j ≡ None) → AllAcked load run) (out : Output) (held1 : List ℕ) (faults1 : ℕ) (early : out.faults ≤ faults1) (late : faults1 ≤ out.faults')
        (heard : out.hears → Heard out.held acks e.sink_failed held1) (sink : e.sink_failed ≡ true → Rose out.faults faults1) (low : NamesLowest n (stops_in s) e.disk) (acks_are : e.report.acks ≡ acks)
        (fates : e.report.fates ≡ fates_by (length l.calls) K acks) (order : e.report.order ≡ map (λ (t : Act Txn). t.call.call.number) (reported s.ends K))
        (tables : IsTablesOf (sight (setting_of l) s).row e.report.tables) (spaced : load.turns ≡ None → e.disk ≡ None → (j : ℕ) (x : List ℕ) → j < n → Now G.tells G.may_leave old new j x → HasSpacedOn f n j load start x) where
      abbrev declared : List (List ℕ)
      declared = load.declarations.tables

      abbrev Told : Status → Type 0
      Told answer = RunSays G choice load (with_sink out) answer

      report_is : (failed : Option ℕ) → IsReportOf load run failed (report_text declared e.report failed)
      report_is failed =
          reported_by n m mode load l K s run course is e.report failed acks_are fates order tables over.rests

      heard_by : (b : Bool) → e.sink_failed ≡ b → out.hears → Heard out.held e.report.acks b held1
      heard_by b is told = subst (λ (a : List (ℕ × List ℕ)). Heard out.held a b held1) (sym acks_are) (subst (λ (x : Bool). Heard out.held acks x held1) is (heard told))

      lowest : (o : Option ℕ) → NamesLowest n (stops_in s) o → NamesLowest n stops o
      lowest None low = low
      lowest (Some j) low = low

      tells_ok : (e.disk ≡ None) → e.sink_failed ≡ false → Wrote out.hears held1 out.held' (rest_text declared e.report None) → Told status.Ok
      tells_ok none works wrote =
          let going : NamesLowest n stops None = lowest None (subst (λ (o : Option ℕ). NamesLowest n (stops_in s) o) none low) in
          record {
            tells = inr (has_run out status.Ok tt
                (facts out ending.Done (core_run true whole)
                (has_ended over complete, going, complete going, (report_text declared e.report None, report_is None, whole_text out.hears out.held held1 out.held' declared e.report None (heard_by false works) wrote)))
                (λ j f. absurd (cc)) (λ threads worked. spaced threads none));
            kind = tt;
            disk = λ j f. absurd (cc);
            stopped = λ j f tells. absurd (cc);
            clean = λ f. clean_below G n way l s streams_are old new there all n (omega arith) going;
            sink = λ f. absurd (cc);
            opened = λ f. absurd (cc);
            bad_log = λ fault f. absurd (cc);
            read_alone = λ fault f. absurd (cc);
            rest = rest;
          }

      tells_disk : (j : ℕ) → (e.disk ≡ Some j) → e.sink_failed ≡ false → Wrote out.hears held1 out.held' (rest_text declared e.report (Some j)) → Told (status.DiskFault j)
      tells_disk j names works wrote =
          let here : NamesLowest n stops (Some j) = lowest (Some j) (subst (λ (o : Option ℕ). NamesLowest n (stops_in s) o) names low) in
          let same : (i : ℕ) → status.DiskFault j ≡ status.DiskFault i → j ≡ i = λ i f. cc in
          record {
            tells = inr (has_run out (status.DiskFault j) tt
                (facts out (ending.DiskFailed j) (inl (core_run true whole))
                (inl (
                  has_ended over complete,
                  here,
                  λ i lt. made_all G n way l s streams_are old new there all i lt,
                  (report_text declared e.report (Some j), report_is (Some j), whole_text out.hears out.held held1 out.held' declared e.report (Some j) (heard_by false works) wrote),
                )))
                (λ i f. inr opened_clean) (λ threads worked. absurd worked));
            kind = tt;
            disk = λ i f. subst (λ (k : ℕ). (k < n) × RoseAt G.faults old new k) (same i f) (here.0, rose_at G n way l s streams_are old new there all j here.1.0 here.0 here.1.1);
            stopped = λ i f tells. subst (λ (k : ℕ). IsFirstStopped G.tells G.number G.fails G.short old new k) (same i f) (first_stopped G n way l s streams_are old new there all j here.1.0 here.0 here.1.1 here.2 tells);
            clean = λ f. absurd (cc);
            sink = λ f. absurd (cc);
            opened = λ f. absurd (cc);
            bad_log = λ fault f. absurd (cc);
            read_alone = λ fault f. absurd (cc);
            rest = rest;
          }

      tells_sink : Rose out.faults out.faults' → (i : ℕ) × (i < length (report_text declared e.report e.disk)) × Wrote out.hears out.held out.held' (take i (report_text declared e.report e.disk)) → Told status.WriteFault
      tells_sink rose cut = record {
        tells = inr (has_run out status.WriteFault tt
            (facts out ending.SinkFailed (core_run true whole)
            (has_ended over complete, (report_text declared e.report e.disk, e.disk, cut.0, report_is e.disk, lowest e.disk low, cut.1, cut.2)))
            (λ j f. absurd (cc)) (λ threads worked. spaced threads (none_failed e.disk (lowest e.disk low) worked)));
        kind = tt;
        disk = λ j f. absurd (cc);
        stopped = λ j f tells. absurd (cc);
        clean = λ f. absurd (cc);
        sink = λ f. rose;
        opened = λ f. opened_clean;
        bad_log = λ fault f. absurd (cc);
        read_alone = λ fault f. absurd (cc);
        rest = rest;
      }

      tells_memory : e.sink_failed ≡ false → out.held' ≡ held1 → Told status.NoMemory
      tells_memory works same = record {
        tells = inr (has_run out status.NoMemory tt
            (facts out ending.NoMemory (core_run false t.part)
            (length run.acks, inl (λ told. same ∙ heard_by false works told ∙ ap (λ (a : List (ℕ × List ℕ)). out.held ++ ack_lines a) (acks_are ∙ sym (take_long (length run.acks) run.acks (omega arith))))))
            (λ j f. absurd (cc)) (λ threads worked. absurd worked));
        kind = tt;
        disk = λ j f. absurd (cc);
        stopped = λ j f tells. absurd (cc);
        clean = λ f. absurd (cc);
        sink = λ f. absurd (cc);
        opened = λ f. absurd (cc);
        bad_log = λ fault f. absurd (cc);
        read_alone = λ fault f. absurd (cc);
        rest = rest;
      }

      pub tells_end : (answer : Status) → TellsEnd declared e out.hears held1 out.held' (Rose faults1 out.faults') answer → Told answer
      tells_end status.Ok h = tells_ok h.1 h.0 h.2
      tells_end (status.DiskFault j) h = tells_disk j h.1 h.0 h.2
      tells_end status.WriteFault (inl gone) =
          let rose = sink gone.0 in
          tells_sink (omega (arith, rose, late)) (lines_cut out.hears out.held held1 out.held' declared e.report e.disk (λ told. subst (λ (x : List ℕ). Heard out.held e.report.acks true x) (sym gone.1) (heard_by true gone.0 told)))
      tells_end status.WriteFault (inr cut) =
          let rose = cut.1 in
          tells_sink (omega (arith, rose, early)) (rest_cut out.hears out.held held1 out.held' declared e.report e.disk cut.2.0 cut.2.1 (heard_by false cut.0) cut.2.2)
      tells_end status.NoMemory h = tells_memory h.0 h.1
      tells_end status.Usage h = absurd h
      tells_end (status.BadText at why) h = absurd h
      tells_end status.ReadFault h = absurd h
      tells_end (status.BadLog fault) h = absurd h
      tells_end status.TooLong h = absurd h
      tells_end (status.BadFeed at) h = absurd h
      tells_end (status.BadReport number) h = absurd h

    -- it was out of memory before its end: one history, of which the first acknowledgements were told
    pub cuts_off : (out : Output) (held1 : List ℕ) (faults1 : ℕ) → faults1 ≤ out.faults' → (count : ℕ) (sink_failed : Bool) → (out.hears → Heard out.held (take count acks) sink_failed held1) → (sink_failed ≡ true → Rose out.faults faults1) → out.held' ≡ held1 →
        RunSays G choice load (with_sink out) status.NoMemory
    cuts_off out held1 faults1 late count sink_failed heard sink same = record {
      tells = inr (has_run out status.NoMemory tt
          (facts out ending.NoMemory (core_run false t.part) (
            count,
            heard_front out.hears out.held out.held' (Rose out.faults out.faults') (take count acks) sink_failed
                (λ told. subst (λ (h : List ℕ). Heard out.held (take count acks) sink_failed h) (sym same) (heard told))
                (λ e. (let rose = sink e in omega (arith, rose, late))),
          ))
          (λ j f. absurd (cc)) (λ threads worked. absurd worked));
      kind = tt;
      disk = λ j f. absurd (cc);
      stopped = λ j f tells. absurd (cc);
      clean = λ f. absurd (cc);
      sink = λ f. absurd (cc);
      opened = λ f. absurd (cc);
      bad_log = λ fault f. absurd (cc);
      read_alone = λ fault f. absurd (cc);
      rest = rest;
    }
