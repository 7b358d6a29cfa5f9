-- Which calls of its disks the run of a drill has made.
use Rattle.std.proofs.Common.{ℕ, ◌+◌, ◌-◌, ◌*◌, ◌<◌, ◌≤◌, ◌≡◌, if◌then◌else◌, inl, inr, Bool, true, false, List, [], ◌++◌, map, length, length-append, refl, sym, ap, subst, ◌∙◌, arith}
use Rattle.std.specs.Prelude.{Some, None, Option, slice_get, slice_index}
use Rattle.std.proofs.lemmas.Bool.{cases_Bool}
use Rattle.tau_base.specs.declared.value.LogMode.TheVariants.{Values}
use Rattle.tau_base.specs.Modes.{format_of}
use Rattle.tau_block.specs.Image.{HasContent}
use Rattle.tau_disk.specs.Left.{MayLeaveEach}
use Rattle.tau_disk.specs.Used.{EachIn}
use Rattle.tau_disk.specs.declared.call.Tear.{Tear}
use Rattle.tau_disk.specs.declared.call.Tear.TheVariants as tear
use Rattle.tau_disk.specs.declared.disk.Disk.{Ghosts}
use Rattle.tau_stream.specs.declared.writer.Writer.{Writer}
use Rattle.tau_stream.specs.Stream.{is_through}
use Rattle.tau_stream.specs.Writer.{disk_of, has_failed}
use Rattle.tau_open.specs.Opening.{AreOpened, IsOpened, Refuses}
use Rattle.tau_open.specs.declared.refusal.OpenRefusal.TheVariants.{Failed}
use Rattle.tau_text.specs.declared.load.Workload.{Workload}
use Rattle.tau_core.specs.declared.state.Load.{Load}
use Rattle.tau_run.specs.Run.{Run}
use Rattle.tau_occ.specs.declared.style.Style.TheVariants.{Locking}
use Rattle.tau_run.specs.RunFacts.{IsCoreRunAt, chosen_by}
use Rattle.tau_run.specs.StopsLeave.{HasFront, NamesLowest}
use Rattle.tau_run.specs.Start.{catalogue_of}
use Rattle.tau_run.specs.Turns.{Progress}
use Rattle.tau_run.specs.Writers.{EachOf, Left}
use Rattle.tau_step.specs.Counts.{AreCounted, AreHalved, IsHalfFlushed, calls_to_flush, flushed_in, flushes_of}
use Rattle.tau_engine.specs.Drill.{IsPlayedBy, ending_by}
use Rattle.tau_engine.specs.Played.{ArePlayed, EndsIn, IsCutIn, calls_made}
use Rattle.tau_engine.proofs.Streams.{Joined, fresh_way, goes, has_stopped, mapped_got, rose, stopped}
use Rattle.tau_base.proofs.Lists.{got_mapped}
use Rattle.tau_base.proofs.Logic.{some_is}

-- each kind of image is one that a stop may leave
kind_left : {D : Type 0} (G : Ghosts D) (d : D) → MayLeaveEach G.tells G.may_leave G.image → G.tells → (kind : Tear) → G.may_leave d (G.image d kind)
unfolding MayLeaveEach
kind_left G d each tells kind = each d kind tells

module _ {D : Type 0} (G : Ghosts D) (n : ℕ) (catalogue : List ℕ) (l : Load) (p : Progress) (streams : l.streams ≡ n) (old mid new : List D) (many : n ≤ length old) (ws ws' : List (Writer D G)) (opened : AreOpened G n catalogue old mid ws)
    (back : new ≡ map disk_of ws' ++ mid) (all : EachOf (λ j w w'. Left l p.state j catalogue w w') ws ws') (counted : AreCounted ws ws' p.events) (halved : AreHalved ws ws' l p) (each : MayLeaveEach G.tells G.may_leave G.image) (joined : EachIn (λ j. j < n) (Joined G n (fresh_way G n catalogue) l p.state) old new) where
  -- what a half flush left, by the run
  cut_in : (j : ℕ) (w w' : Writer D G) (d : D) → G.tells → Left l p.state j catalogue w w' → IsOpened G n catalogue j d (disk_of w) →
      IsHalfFlushed G (format_of l.mode) l.streams j (slice_index p.state.plv j) (slice_index p.state.gathered j) (G.number (disk_of w) + calls_to_flush * flushes_of j (flushed_in p.events)) (G.keeps (disk_of w)) (disk_of w') →
      IsCutIn n j catalogue l p.state (is_through (G.number (disk_of w') - (G.number d + calls_made j p)) (G.keeps d (G.number (disk_of w')))) (G.image (disk_of w'))
  cut_in j w w' d tells left here half =
      subst (λ (k : ℕ). IsCutIn n j catalogue l p.state (is_through (G.number (disk_of w') - k) (G.keeps d (G.number (disk_of w')))) (G.image (disk_of w'))) before
      (subst (λ (kept : Bool). IsCutIn n j catalogue l p.state (is_through (G.number (disk_of w') - (G.number (disk_of w) + calls_to_flush * flushes_of j (flushed_in p.events))) kept) (G.image (disk_of w'))) (here.last tells (G.number (disk_of w')))
      (record {
        old = ends half.content (slice_index p.state.plv j) tear.Old half.images.old half.front;
        torn = ends half.content (slice_index p.state.plv j) tear.Torn half.images.torn half.front;
        new = newest (is_through (G.number (disk_of w') - (G.number (disk_of w) + calls_to_flush * flushes_of j (flushed_in p.events))) (G.keeps (disk_of w) (G.number (disk_of w')))) half.images.new;
      }))
    where
      before : G.number (disk_of w) + calls_to_flush * flushes_of j (flushed_in p.events) ≡ G.number d + calls_made j p
      before = let begun = (here.went.made tells).0 in omega (arith, begun)

      ends : (content : List ℕ) (position : ℕ) (kind : Tear) → HasContent (format_of l.mode) l.streams j content (G.image (disk_of w') kind) → length content ≡ position → EndsIn n j catalogue l p.state position (G.image (disk_of w') kind)
      ends content position kind has long =
          let front = left.present tells (G.image (disk_of w') kind) (kind_left G (disk_of w') each tells kind) in
          let same : Some content ≡ Some (catalogue ++ front.0) = sym has ∙ front.1.has in
          let is : content ≡ catalogue ++ front.0 = some_is content (catalogue ++ front.0) same in (
            front.0,
            subst (λ (k : ℕ). HasFront k j catalogue l p.state front.0 (G.image (disk_of w') kind)) streams front.1,
            (let size = ap (length {A = ℕ}) is in omega (arith, size, long, length-append catalogue front.0)),
          )

      newest : (through : Bool) → HasContent (format_of l.mode) l.streams j (if through then half.content ++ half.body else half.content) (G.image (disk_of w') tear.New) →
          EndsIn n j catalogue l p.state (if through then slice_index p.state.gathered j else slice_index p.state.plv j) (G.image (disk_of w') tear.New)
      newest true has = ends (half.content ++ half.body) (slice_index p.state.gathered j) tear.New has (length-append half.content half.body ∙ half.whole)
      newest false has = ends half.content (slice_index p.state.plv j) tear.New has half.front

  pub played : ArePlayed G n catalogue l old new p
  played tells j d lt was =
      let made = opened.disks j d lt was in
      let first = got_mapped (disk_of {D = D} {G = G}) ws j made.0 made.1 in
      let went = all.each j first.0 first.1 in
      let there : slice_get new j ≡ Some (disk_of went.0) = ap (λ (ds : List D). slice_get ds j) back ∙ mapped_got (disk_of {D = D} {G = G}) ws' [] mid j went.0 went.1 in
      let here : IsOpened G n catalogue j d (disk_of first.0) = subst (λ (x : D). IsOpened G n catalogue j d x) (sym first.2) made.2 in
      let h : Joined G n (fresh_way G n catalogue) l p.state j d (disk_of went.0) = record { before = first.0; after = went.0; went = here.went; opens = here.begins; left = went.2; is = refl } in
      let calls = counted j first.0 went.0 first.1 went.1 tells in
      let begun = (here.went.made tells).0 in (
        disk_of went.0,
        there,
        record {
          same = λ k. calls.same k ∙ here.went.same tells k;
          last = λ k. calls.last k ∙ here.last tells k;
          goes = λ none. (
            elim (cases_Bool (has_failed went.0)) [
              | inl fails ↦ (let stop = (went.2.stops fails).0 in absurd (let bad : None ≡ Some stop.0 = sym none ∙ stop.1 in cc bad))
              | inr works ↦ (let flushed = calls.goes works in omega (arith, begun, flushed))
            ],
            λ t. (goes G n (fresh_way G n catalogue) l p.state streams old new many joined j d (disk_of went.0) h none t).clean,
          );
          stops = λ at stop. (
            rose G n (fresh_way G n catalogue) l p.state streams old new many joined j at d (disk_of went.0) h stop,
            stopped G n (fresh_way G n catalogue) l p.state streams old new many joined j at d (disk_of went.0) h stop tells,
            elim (calls.stops refl (has_stopped G n (fresh_way G n catalogue) l p.state streams old new many joined j at d (disk_of went.0) h stop)) [
              | inl short ↦ inl short
              | inr some ↦ (let low = some.0 in let high = some.1 in inr (omega (arith, begun, low), omega (arith, begun, high)))
            ],
          );
          left = λ at stop room whole.
              cut_in j first.0 went.0 d tells went.2 here
              (halved j first.0 went.0 first.1 went.1 tells (has_stopped G n (fresh_way G n catalogue) l p.state streams old new many joined j at d (disk_of went.0) h stop) room whole);
        },
      )

-- a disk failed before the run began
pub none_played : {D : Type 0} (G : Ghosts D) (n m : ℕ) (load : Workload) (old new : List D) (j : ℕ) (stops : ℕ → Option ℕ) (run : Run) (core : IsCoreRunAt (chosen_by load.turns Locking n m load) n m Values load stops run (ending_by (Some j)))
    (none : (run.calls ≡ []) × (run.acks ≡ []) × NamesLowest n stops None) → core ≡ inr none → Refuses G n (catalogue_of load) old new (Failed j) → IsPlayedBy G n m load old new (Some j) stops run core
none_played G n m load old new j stops run core none is refused = subst (λ (c : IsCoreRunAt (chosen_by load.turns Locking n m load) n m Values load stops run (ending_by (Some j))). IsPlayedBy G n m load old new (Some j) stops run c) (sym is) refused
