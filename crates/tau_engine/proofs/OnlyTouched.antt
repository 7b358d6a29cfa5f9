-- What is said of a call whose disks were read, and on which no more than streams were started.
use Rattle.std.proofs.Common.{ℕ, ◌<◌, ◌≤◌, ◌≡◌, ◌⊎◌, inl, inr, List, [], ◌++◌, map, length, take, refl, sym, subst, ◌∙◌, Option, arith}
use Rattle.std.specs.Prelude.{Some, None, slice_get, slice_index}
use Rattle.tau_base.specs.declared.value.LogMode.{LogMode}
use Rattle.tau_base.specs.Modes.{format_of, most_streams}
use Rattle.tau_base.proofs.Lists.{some_at}
use Rattle.tau_base.proofs.Logic.{some_is, below_or_not}
use Rattle.tau_block.specs.Image.{HasContent}
use Rattle.tau_disk.specs.declared.disk.Disk.{Ghosts}
use Rattle.tau_disk.specs.Disk.{Rose}
use Rattle.tau_disk.proofs.Passing.{passes_none}
use Rattle.tau_disk.specs.Used.{EachIn, RoseAt, Made}
use Rattle.tau_stream.specs.Stream.{IsOldOrNew, IsUnborn}
use Rattle.tau_open.specs.declared.start.StreamStart.{StreamStart}
use Rattle.tau_model.specs.Tables.{db_of_rows}
use Rattle.tau_text.specs.declared.load.Workload.{Workload}
use Rattle.tau_text.specs.Canonical.{declarations_text}
use Rattle.tau_run.specs.Outside.{Outside}
use Rattle.tau_run.specs.Start.{Start, IsStart, old_at, opened_at}
use Rattle.tau_run.specs.CoreRun.{IsSoundLoad}
use Rattle.tau_run.specs.RunFacts.{RunTells}
use Rattle.tau_run.specs.RunFacts as ending
use Rattle.tau_begin.specs.Barrier.{IsBarrier}
use Rattle.tau_begin.specs.Opened.{IsBegun, IsTouched, TouchedAt}
use Rattle.tau_begin.specs.Reading.{calls_before_writes}
use Rattle.tau_begin.proofs.Barrier.{barrier_of, put_on}
use Rattle.tau_commands.specs.declared.status.Status.{Status}
use Rattle.tau_commands.specs.declared.status.Status.TheVariants as status
use Rattle.tau_engine.specs.DiskFacts.{DisksWorked, ending_of}
use Rattle.tau_commands.specs.Fault.{fault_text}
use Rattle.tau_engine.specs.Opening.{opening_calls, SinceBarrier, EmptyAreUnborn}
use Rattle.tau_commands.specs.Outside.{Output, Wrote}
use Rattle.tau_commands.specs.Recovery.{images_of}
use Rattle.tau_engine.specs.Runs.{DisksAndSink}
use Rattle.tau_engine.specs.declared.run.Choice.{Choice}
use Rattle.tau_engine.specs.RunSays.{EndsRun, FailsStarting, HasRun, outside_of}
use Rattle.tau_engine.proofs.NoneBegun as none
use Rattle.tau_engine.proofs.OnOpened as on
use Rattle.tau_engine.proofs.Streams.{OnlyNow}

same_disk : (j i : ℕ) → status.DiskFault j ≡ status.DiskFault i → j ≡ i
same_disk j i e = cc

module _ {D : Type 0} {G : Ghosts D} (only_now : OnlyNow G) (choice : Choice) (load : Workload) (some : 1 ≤ choice.streams) (room : choice.streams ≤ most_streams (format_of choice.mode)) (workers : 1 ≤ choice.workers) (sound : IsSoundLoad load) (old new : List D) (there : choice.streams ≤ length old)
    (sizes : List ℕ) (starts : List StreamStart) (begun : IsBegun G (format_of choice.mode) (declarations_text load.declarations) (take choice.streams old) sizes starts) (each : EachIn (λ j. j < choice.streams) (TouchedAt G (format_of choice.mode) sizes starts) old new) where
  abbrev n : ℕ
  n = choice.streams

  abbrev mode : LogMode
  mode = choice.mode

  abbrev pub start : Start
  start = on.start G (format_of mode) n load old there sizes starts begun

  pub begins : IsStart (format_of mode) n load start
  begins = (on.opened G (format_of mode) n load old there sizes starts begun).starts

  long : length starts ≡ n
  long = on.starts_long G (format_of mode) n load old there sizes starts begun

  abbrev barrier_from : (j : ℕ) (d : Option D) → slice_get old j ≡ d → (j < n) ⊎ (n ≤ j) → ℕ
  barrier_from j None was side = 0
  barrier_from j (Some d) was (inr high) = 0
  barrier_from j (Some d) was (inl low) =
      let made = each j d low was in
      let p = some_at starts j (let many = long in omega (arith, low, many)) in
      barrier_of G d (made.2 p.0 p.1).mid

  abbrev barrier : ℕ → ℕ
  barrier j = barrier_from j (slice_get old j) refl (below_or_not j n)

  record Has (j b : ℕ) : Type 0 where
    pub disk : D
    pub was : slice_get old j ≡ Some disk
    pub now : D
    pub is : slice_get new j ≡ Some now
    pub first : StreamStart
    pub starts_at : slice_get starts j ≡ Some first
    pub touched : IsTouched G (format_of mode) (length starts) j (slice_index sizes j) first.content.bytes first.body disk now
    pub barrier_is : b ≡ barrier_of G disk touched.mid

  has_at : (j : ℕ) → j < n → Has j (barrier j)
  has_at j lt = by (slice_get old j) refl (below_or_not j n)
    where
      by : (d : Option D) (was : slice_get old j ≡ d) (side : (j < n) ⊎ (n ≤ j)) → Has j (barrier_from j d was side)
      by None was side = absurd (let d = some_at old j (omega (arith, lt, there)) in let bad : None ≡ Some d.0 = sym was ∙ d.1 in cc bad)
      by (Some d) was (inr high) = absurd (omega (arith, lt, high))
      by (Some d) was (inl low) =
          let made = each j d low was in
          let p = some_at starts j (let many = long in omega (arith, low, many)) in
          record { disk = d; was = was; now = made.0; is = made.1; first = p.0; starts_at = p.1; touched = made.2 p.0 p.1; barrier_is = refl }

  module _ (tells : G.tells) (unborn : EmptyAreUnborn G old n) (j : ℕ) (lt : j < n) where
    abbrev h : Has j (barrier j)
    h = has_at j lt

    has : HasContent (format_of mode) (length starts) j h.first.content.bytes (G.seen h.disk)
    has = subst (λ (k : ℕ). HasContent (format_of mode) k j h.first.content.bytes (G.seen h.disk)) (sym long) (on.has_old G (format_of mode) n load old there sizes starts begun tells j h.disk lt h.was h.first h.starts_at)

    empty : G.seen h.disk ≡ [] → (h.first.content.bytes ≡ []) × IsUnborn (G.may_leave h.disk)
    empty none = (
      on.no_content (format_of mode) (length starts) j h.first.content.bytes (subst (λ (x : List ℕ). HasContent (format_of mode) (length starts) j h.first.content.bytes x) none has),
      unborn j h.disk lt h.was tells none,
    )

    put : IsBarrier G (barrier_of G h.disk h.touched.mid) h.disk h.now × ((x : List ℕ) → G.may_leave_since h.now (barrier_of G h.disk h.touched.mid) x → IsOldOrNew (format_of mode) (length starts) j h.first.content.bytes h.first.body x ⊎ ⊥)
    put = put_on G only_now (format_of mode) (length starts) j (slice_index sizes j) h.first.content.bytes h.first.body h.disk h.now tells h.touched has empty h.now (λ x. ⊥) (passes_none G.moment G.may_leave_since h.now (λ x. ⊥))

    sized : (c x : List ℕ) → HasContent (format_of mode) (length starts) j c x → HasContent (format_of mode) n j c x
    sized c x is = subst (λ (k : ℕ). HasContent (format_of mode) k j c x) long is

    either : (x : List ℕ) → IsOldOrNew (format_of mode) (length starts) j h.first.content.bytes h.first.body x ⊎ ⊥ → HasContent (format_of mode) n j (old_at start j) x ⊎ HasContent (format_of mode) n j (opened_at load start j) x
    either x (inl (inl none)) = inl (subst (λ (c : List ℕ). HasContent (format_of mode) n j c x) (on.old_is G (format_of mode) n load old there sizes starts begun j h.first h.starts_at) (sized h.first.content.bytes x none))
    either x (inl (inr whole)) = inr (subst (λ (c : List ℕ). HasContent (format_of mode) n j c x) (on.alike G (format_of mode) n load old there sizes starts begun j h.first h.starts_at) (sized (h.first.content.bytes ++ h.first.body) x whole))
    either x (inr never) = absurd never

    put_left : (x : List ℕ) → G.may_leave_since h.now (barrier j) x → HasContent (format_of mode) n j (old_at start j) x ⊎ HasContent (format_of mode) n j (opened_at load start j) x
    put_left x so = either x (put.1 x (subst (λ (b : ℕ). G.may_leave_since h.now b x) h.barrier_is so))

    put_barrier : IsBarrier G (barrier j) h.disk h.now
    put_barrier = subst (λ (b : ℕ). IsBarrier G b h.disk h.now) (sym h.barrier_is) put.0

  past_left : EmptyAreUnborn G old n → (j : ℕ) (x : List ℕ) → j < n → SinceBarrier G barrier old new j x → HasContent (format_of mode) n j (old_at start j) x ⊎ HasContent (format_of mode) n j (opened_at load start j) x
  past_left unborn j x lt (d, e, was, is, (tells, so)) = put_left tells unborn j lt x (subst (λ (z : D). G.may_leave_since z (barrier j) x) (some_is e (has_at j lt).now (sym is ∙ (has_at j lt).is)) so)

  barriers : EmptyAreUnborn G old n → EachIn (λ j. j < n) (λ j d e. G.tells → IsBarrier G (barrier j) d e) old new
  barriers unborn j d lt was =
      let h = has_at j lt in
      (h.now, h.is, λ tells. subst (λ (z : D). IsBarrier G (barrier j) z h.now) (some_is h.disk d (sym h.was ∙ was)) (put_barrier tells unborn j lt))

  -- it is the run that made nothing
  module _ (o : Output) where
    abbrev with_sink : DisksAndSink D
    with_sink = record { old = old; new = new; sink = o }

    abbrev known : Outside
    known = outside_of G n (format_of mode) with_sink start barrier

    abbrev rows_are : db_of_rows begun.opening.rows ≡ start.base
    rows_are = (on.opening_on G (format_of mode) n load old there sizes starts begun begun.opening refl).rows

    has_nothing : (answer : Status) → EndsRun answer → none.MayEnd choice load start begun.opening.rows some room workers begins sound rows_are (ending_of answer) →
        RunTells n mode load known (λ j. None) (none.run choice load start begun.opening.rows some room workers begins sound rows_are) (ending_of answer) →
        ((j : ℕ) → answer ≡ status.DiskFault j → FailsStarting G choice load with_sink answer j) → (DisksWorked n (RoseAt G.faults old new) answer → ⊥) → HasRun G choice load with_sink answer
    has_nothing answer ends may told fails broke = record {
      ends = ends;
      start = start;
      begins = begins;
      contents = λ tells. on.contents_are G (format_of mode) n load old there sizes starts begun tells;
      fits = λ tells. on.fits_are G (format_of mode) n load old there sizes starts begun tells;
      barrier = barrier;
      barriers = barriers;
      facts = none.facts_of_nothing choice load start begun.opening.rows some room workers begins sound rows_are known refl (ending_of answer) may (λ u. (u.1, λ j x lt q. past_left u.0 j x lt q)) told;
      fails = λ j e. inl (fails j e);
      spaced = λ threads worked. absurd (broke worked);
    }

    -- what is told of it where memory ran out, and where a disk failed
    pub memory_told : Wrote o.hears o.held o.held' [] → HasRun G choice load with_sink status.NoMemory
    memory_told silent = has_nothing status.NoMemory tt tt (0, inl silent) (λ j e. absurd (cc)) (λ worked. worked)

    pub failed_told : (j : ℕ) → ((k : ℕ) × (calls_before_writes (slice_index (map length (images_of G.seen old n)) j) < k) × (k ≤ opening_calls (map length (images_of G.seen old n)) j) × (G.tells → Made G.number G.short old new j k)) →
        ending.WroteFront (Wrote o.hears o.held o.held') (Rose o.faults o.faults') (fault_text (status.DiskFault j)) → HasRun G choice load with_sink (status.DiskFault j)
    failed_told j made line =
        has_nothing (status.DiskFault j) tt tt
        (inr (
          none.no_calls choice load start begun.opening.rows some room workers begins sound rows_are,
          none.no_acks choice load start begun.opening.rows some room workers begins sound rows_are,
          (made.0, made.2, made.3),
          line,
        ))
        (λ i e. subst (λ (k : ℕ). FailsStarting G choice load with_sink (status.DiskFault j) k) (same_disk j i e) (made, line)) (λ worked. worked)
