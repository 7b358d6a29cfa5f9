-- The run of a drill: on streams that were opened, or one whose opening failed.
use Rattle.std.proofs.Common.{ℕ, ◌<◌, ◌≤◌, ◌≡◌, ◌⊎◌, inl, inr, Bool, true, false, List, [], ◌++◌, map, length, refl, sym, ap, subst, ◌∙◌, Option, Ok, arith}
use Rattle.std.specs.Prelude.{Some, None, slice_get}
use Rattle.std.proofs.lemmas.List.{append-nil}
use Rattle.tau_base.specs.declared.value.Key.{Key}
use Rattle.tau_base.specs.declared.value.LogMode.TheVariants.{Values}
use Rattle.tau_base.specs.declared.value.Value.{Value}
use Rattle.tau_base.specs.Database.{Db}
use Rattle.tau_base.specs.declared.format.Format.TheVariants.{One}
use Rattle.tau_block.specs.Image.{HasContent}
use Rattle.tau_block.proofs.Blocks.{short_content}
use Rattle.tau_disk.specs.declared.disk.Disk.{Ghosts}
use Rattle.tau_disk.specs.Left.{MayLeaveEach}
use Rattle.tau_disk.specs.Used.{EachIn, RoseAt, IsFirstStopped, Made}
use Rattle.tau_stream.specs.declared.writer.Writer.{Writer}
use Rattle.tau_stream.specs.Writer.{disk_of}
use Rattle.tau_open.specs.Outside.{calls_to_open}
use Rattle.tau_open.specs.Opening.{AreOpened, Begins, Refuses}
use Rattle.tau_open.specs.declared.refusal.OpenRefusal.TheVariants.{Failed}
use Rattle.tau_model.specs.Tables.{IsTablesOf}
use Rattle.tau_machine.specs.State.{Core}
use Rattle.tau_text.specs.declared.load.Workload.{Workload}
use Rattle.tau_report.specs.declared.report.RunEnd.{RunEnd}
use Rattle.tau_report.specs.Report.{ack_lines, report_text}
use Rattle.tau_core.specs.declared.state.Load.{Load}
use Rattle.tau_run.specs.Run.{Run, AllAcked, IsReportOf, last_db}
use Rattle.tau_run.specs.RecoveredFacts.{IsEnded}
use Rattle.tau_base.specs.Modes.{format_of}
use Rattle.tau_scan.specs.Sound.{IsSound}
use Rattle.tau_run.specs.Start.{fresh_start, catalogue_of, old_at, opened_at}
use Rattle.tau_run.specs.CoreRun.{IsCourse, IsLoadOn, IsRunOf, IsSoundLoad}
use Rattle.tau_run.specs.StopsLeave.{IsLeft, IsOver, NamesLowest, stops_in}
use Rattle.tau_occ.specs.declared.style.Style.TheVariants.{Locking}
use Rattle.tau_run.specs.RunFacts.{by_turns, chosen_by, IsCoreRun}
use Rattle.tau_run.proofs.Came as of
use Rattle.tau_run.proofs.Came.{came_by}
use Rattle.tau_run.specs.Turns.{Progress}
use Rattle.tau_run.proofs.Imaged.{Leaves, imaged, acknowledged}
use Rattle.tau_run.proofs.Results.{history_law}
use Rattle.tau_run.specs.Gives.{CameTo, came_far, Concluded}
use Rattle.tau_run.specs.Heard.{Heard}
use Rattle.tau_engine.specs.Bench.{IsMeasured, PlaysWell}
use Rattle.tau_step.specs.Counts.{AreCounted, AreHalved, counting}
use Rattle.tau_engine.specs.Drill.{IsPlay, IsRehearsed, PlaysOn, outside_of_drill}
use Rattle.tau_engine.specs.Played.{ArePlayed}
use Rattle.tau_engine.specs.DiskFacts.{Now, AreUnborn}
use Rattle.tau_commands.specs.Outside.{Wrote}
use Rattle.tau_engine.specs.Runs.{ran_by}
use Rattle.tau_engine.proofs.Chosen.{chosen}
use Rattle.tau_engine.proofs.NotBegun.{told_of_failed}
use Rattle.tau_engine.proofs.Playing.{none_played, played}
use Rattle.tau_engine.proofs.Ran.{as_chosen, gave}
use Rattle.tau_engine.proofs.RanTo as to
use Rattle.tau_engine.proofs.Reports.{reported_by, last_is}
use Rattle.tau_engine.proofs.Streams.{OnlyNow, fresh_way, Joined, clean_below, first_stopped, made_all, Past}

-- a run of any kind that went to its end, on these writers, where the sink has not failed
module _ {D : Type 0} {G : Ghosts D} (only_now : OnlyNow G) (n m : ℕ) (load : Workload) (old mid new : List D) (many : n ≤ length old) (ws after : List (Writer D G)) (streams : AreOpened G n (catalogue_of load) old mid ws) (back : new ≡ map disk_of after ++ mid)
    (tells : G.tells) (hears : Type 0) (held held' : List ℕ) (rose : Type 0) (end : RunEnd) (sound : IsSoundLoad load) (l : Load) (load_is : IsLoadOn n m Values load (fresh_start n) l) (how : Bool → Load → Core → Progress → Type 0) (also : (whole : Bool) (opening : Core) (p : Progress) → how whole l opening p → chosen_by load.turns Locking n m load whole l opening p) (h : Concluded how (opened_at load (fresh_start n)) l ws after hears held held' rose end) (works : end.sink_failed ≡ false) where
  abbrev t : CameTo (chosen_by load.turns Locking n m load) (opened_at load (fresh_start n)) l ws after h.acks
  t = came_by h.came also

  abbrev s : Core
  s = t.state

  abbrev pub run : Run
  run = to.run only_now n m Values load sound l load_is ws after h.acks t

  abbrev course : IsCourse n m Values load (fresh_start n) l t.joined s
  course = to.course only_now n m Values load sound l load_is ws after h.acks t

  abbrev is : IsRunOf n l t.joined s load run
  is = to.is only_now n m Values load sound l load_is ws after h.acks t

  over : IsOver n s
  over = subst (λ (k : ℕ). IsOver k s) load_is.streams h.over

  pub complete : ((j : ℕ) → j < n → (s.streams j).stop ≡ None) → AllAcked load run
  complete = of.complete (to.begun_on only_now n m Values load sound l load_is ws after h.acks t) t over h.kept

  pub lowest : NamesLowest n (stops_in s) end.disk
  lowest = subst (λ (k : ℕ). NamesLowest k (stops_in s) end.disk) load_is.streams h.disk

  abbrev core : IsCoreRun (chosen_by load.turns Locking n m load true) n m Values load (λ j. (s.streams j).stop) run
  core = record { stands_on = l; load_is = load_is; opening = t.opening; first = t.first; progress = came_far t; led = t.led; chosen = also true t.opening (came_far t) h.whole; is = is; told = refl; stopped = λ j lt. refl }

  at_leaves : Leaves n (opened_at load run.start) l s (Now G.tells G.may_leave old new) (RoseAt G.faults old new)
  at_leaves = to.at_leaves only_now n m Values load sound l load_is ws after h.acks t old mid new many streams back

  sound_start : IsSound (format_of Values) run.start.old run.start.log run.start.base
  sound_start = to.sound_start only_now n m Values load sound l load_is ws after h.acks t

  ended : IsEnded n Values load (Now G.tells G.may_leave old new) (RoseAt G.faults old new) run
  ended = to.has_ended only_now n m Values load sound l load_is ws after h.acks t old mid new many streams back over complete

  -- its rows are those of the history
  present : IsTablesOf (last_db load run) end.report.tables
  present = subst (λ (db : Db). IsTablesOf db end.report.tables) (last_is n m Values load l t.joined s run course is over.rests) h.tables

  reports : (failed : Option ℕ) → IsReportOf load run failed (report_text load.declarations.tables end.report failed)
  reports failed =
      reported_by n m Values load l t.joined s run course is end.report failed h.told h.fates h.order h.tables over.rests

  left_now : (j : ℕ) (image : List ℕ) → j < n → Now G.tells G.may_leave old new j image → IsLeft n j (old_at run.start j) (opened_at load run.start j) l s image
  left_now j image lt now = let q = at_leaves.present j image lt now in inr (q.0, q.1)

  told : hears → held' ≡ held ++ ack_lines run.acks
  told hear = subst (λ (b : Bool). Heard held h.acks b held') works (h.heard hear)

  abbrev streams_are : l.streams ≡ n
  streams_are = load_is.streams

  all : EachIn (λ j. j < n) (Joined G n (fresh_way G n (catalogue_of load)) l s) old new
  all = to.all only_now n m Values load sound l load_is ws after h.acks t old mid new many streams back

  -- where no disk failed
  abbrev went_well : NamesLowest n (stops_in s) None → IsRehearsed G n m load old new (Wrote hears held held')
  went_well going = record {
    failed = None;
    ends = clean_below G n (fresh_way G n (catalogue_of load)) l s streams_are old new many all n (omega arith) going;
    facts = record {
      run = run;
      begins = refl;
      history = history_law n m Values load l t.joined s run course is;
      stops = λ j. (s.streams j).stop;
      core = core;
      stopped = at_leaves.stopped;
      told = (ended, going, complete going, (report_text load.declarations.tables end.report None, reports None, tt));
      imaged = imaged n m Values load l t.joined s run course is (Unit {0}) (Now G.tells G.may_leave old new) (λ u. (sound_start, λ j y lt q. left_now j y lt q));
      acknowledged = acknowledged n m Values load l t.joined s run course is (Now G.tells G.may_leave old new) (RoseAt G.faults old new) at_leaves;
    };
    acked = told;
  }

  -- the disks are those of its calls
  now_played : MayLeaveEach G.tells G.may_leave G.image → AreCounted ws after h.came.events × AreHalved ws after l (came_far t) → ArePlayed G n (catalogue_of load) l old new (came_far t)
  now_played each counted = played G n (catalogue_of load) l (came_far t) streams_are old mid new many ws after streams back (to.writers only_now n m Values load sound l load_is ws after h.acks t) counted.0 counted.1 each all

  pub rehearsal : MayLeaveEach G.tells G.may_leave G.image → AreCounted ws after h.came.events × AreHalved ws after l (came_far t) → IsPlay G n m load old new (Wrote hears held held')
  rehearsal each counted = by end.disk lowest
    where
      by : (failed : Option ℕ) → NamesLowest n (stops_in s) failed → IsPlay G n m load old new (Wrote hears held held')
      by None going = record { rehearsed = went_well going; played = now_played each counted }
      by (Some j) q = record {
        rehearsed = record {
          failed = Some j;
          ends = (q.0, first_stopped G n (fresh_way G n (catalogue_of load)) l s streams_are old new many all j q.1.0 q.0 q.1.1 q.2 tells);
          facts = record {
            run = run;
            begins = refl;
            history = history_law n m Values load l t.joined s run course is;
            stops = λ i. (s.streams i).stop;
            core = inl core;
            stopped = at_leaves.stopped;
            told = inl (
              ended,
              q,
              λ i lt. (let k = made_all G n (fresh_way G n (catalogue_of load)) l s streams_are old new many all i lt in (k.0, k.1, k.2 tells)),
              (report_text load.declarations.tables end.report (Some j), reports (Some j), tt),
            );
            imaged = imaged n m Values load l t.joined s run course is (Unit {0}) (Now G.tells G.may_leave old new) (λ u. (sound_start, λ i y lt w. left_now i y lt w));
            acknowledged = acknowledged n m Values load l t.joined s run course is (Now G.tells G.may_leave old new) (RoseAt G.faults old new) at_leaves;
          };
          acked = told;
        };
        played = now_played each counted;
      }

-- the run of a drill
module _ {D : Type 0} {G : Ghosts D} (only_now : OnlyNow G) (n m : ℕ) (load : Workload) (room : n ≤ 16) (sound : IsSoundLoad load) (old mid new : List D) (many : n ≤ length old) (ws : List (Writer D G))
    (streams : AreOpened G n (catalogue_of load) old mid ws) (tells : G.tells) (hears : Type 0) (held held' : List ℕ) (rose : Type 0) (p : PlaysOn m load ws mid new hears held held' rose) where
  pub rehearsed_on : MayLeaveEach G.tells G.may_leave G.image → IsPlay G n m load old new (Wrote hears held held')
  rehearsed_on each =
      let how : Bool → Load → Core → Progress → Type 0 = counting ws p.after (chosen_by load.turns Locking n m load) in
      let g = gave (λ k. counting ws p.after (by_turns Locking k m load)) how n m Values load (λ whole l opening q x. (chosen load.turns whole n m load l opening q x.0, x.1)) ws p.after streams.count hears held held' rose (Ok p.end) p.ran in
      rehearsal only_now n m load old mid new many ws p.after streams p.back tells hears held held' rose p.end sound g.0 g.1 how (λ whole opening q x. x.0) g.2 p.heard each (g.2.whole.1 refl)

-- a run in which nothing failed, with its rows
module _ {D : Type 0} {G : Ghosts D} (only_now : OnlyNow G) (n m : ℕ) (load : Workload) (room : n ≤ 16) (sound : IsSoundLoad load) (old mid new : List D) (many : n ≤ length old) (ws : List (Writer D G))
    (streams : AreOpened G n (catalogue_of load) old mid ws) (tells : G.tells) (hears : Type 0) (held held' : List ℕ) (rose : Type 0) (rows : List (Key × Value)) (q : PlaysWell m load ws mid new hears held held' rose rows) where
  h_gave : (l : Load) × IsLoadOn n m Values load (fresh_start n) l × Concluded (chosen_by load.turns Locking n m load) (opened_at load (fresh_start n)) l ws q.after hears held held' rose q.end
  h_gave = gave (λ k. ran_by load.turns Locking k m load) (chosen_by load.turns Locking n m load) n m Values load (as_chosen load.turns n m load) ws q.after streams.count hears held held' rose (Ok q.end) q.ran

  going : NamesLowest n (stops_in h_gave.2.came.state) None
  going = subst (λ (o : Option ℕ). NamesLowest n (stops_in h_gave.2.came.state) o) q.whole (lowest only_now n m load old mid new many ws q.after streams q.back tells hears held held' rose q.end sound h_gave.0 h_gave.1 (chosen_by load.turns Locking n m load) (λ whole opening p x. x) h_gave.2 q.heard)

  pub measured_on : IsMeasured G n m load old new (Wrote hears held held') rows
  measured_on = record {
    rehearsed = went_well only_now n m load old mid new many ws q.after streams q.back tells hears held held' rose q.end sound h_gave.0 h_gave.1 (chosen_by load.turns Locking n m load) (λ whole opening p x. x) h_gave.2 q.heard going;
    all = complete only_now n m load old mid new many ws q.after streams q.back tells hears held held' rose q.end sound h_gave.0 h_gave.1 (chosen_by load.turns Locking n m load) (λ whole opening p x. x) h_gave.2 q.heard going;
    present = subst (λ (xs : List (Key × Value)). IsTablesOf (last_db load (run only_now n m load old mid new many ws q.after streams q.back tells hears held held' rose q.end sound h_gave.0 h_gave.1 (chosen_by load.turns Locking n m load) (λ whole opening p x. x) h_gave.2 q.heard)) xs) q.rows_are
        (present only_now n m load old mid new many ws q.after streams q.back tells hears held held' rose q.end sound h_gave.0 h_gave.1 (chosen_by load.turns Locking n m load) (λ whole opening p x. x) h_gave.2 q.heard);
  }

-- what a sink that tells has heard
pub heard_now : {D : Type 0} {G : Ghosts D} (n m : ℕ) (load : Workload) (old new : List D) (held held' : List ℕ) → IsPlay G n m load old new (λ lines. Unit {0} → held' ≡ held ++ lines) → IsPlay G n m load old new (λ lines. held' ≡ held ++ lines)
heard_now n m load old new held held' r = record { rehearsed = record { failed = r.rehearsed.failed; ends = r.rehearsed.ends; facts = r.rehearsed.facts; acked = r.rehearsed.acked tt }; played = r.played }

-- ---- a disk failed while the streams were opened

-- an image of a disk on which at most the catalogue was written
module _ {D : Type 0} (G : Ghosts D) (only_now : OnlyNow G) (n : ℕ) (catalogue : List ℕ) (old new : List D) (each : (j : ℕ) (d : D) → j < n → slice_get old j ≡ Some d → (e : D) × (slice_get new j ≡ Some e) × Begins G n catalogue j d e) where
  pub begun_left : AreUnborn G.tells G.may_leave old n → (j : ℕ) (x : List ℕ) → j < n → Past G old new j x → HasContent One n j [] x ⊎ HasContent One n j catalogue x
  begun_left unborn j x lt (d, e, was, is, (t, since)) =
      let h = each j d lt was in
      let same : h.0 ≡ e = (let f : Some h.0 ≡ Some e = sym h.1 ∙ is in cc) in
      let passes = h.2 t (unborn j d lt was t) in
      elim (passes.new_ones (G.moment d) x (omega arith) (subst (λ (y : D). G.may_leave_since y (G.moment d) x) (sym same) since)) [
        | inl first ↦ inl (short_content One n j x (unborn j d lt was t x (only_now d x first)))
        | inr made ↦ made
      ]

module _ {D : Type 0} (G : Ghosts D) (only_now : OnlyNow G) (counts_now : (d : D) (t : ℕ) (x : List ℕ) → t ≤ G.moment d → G.may_leave d x → G.may_leave_since d t x) (n m : ℕ) (load : Workload) (some : 1 ≤ n) (room : n ≤ 16) (workers : 1 ≤ m) (sound : IsSoundLoad load)
    (old new : List D) (tells : G.tells) (unborn : AreUnborn G.tells G.may_leave old n) (begins : EachIn (λ j. j < n) (Begins G n (catalogue_of load)) old new) (hears : Type 0) (held : List ℕ) where
  past_now : (j : ℕ) (x : List ℕ) → j < n → Now G.tells G.may_leave old new j x → Past G old new j x
  past_now j x lt (d, e, was, is, (t, now)) =
      let (f, there, begun) = begins j d lt was in
      let same : f ≡ e = (let q : Some f ≡ Some e = sym there ∙ is in cc) in
      let later : G.moment d ≤ G.moment e = subst (λ (y : D). G.moment d ≤ G.moment y) same (begun t (unborn j d lt was t)).later in
      (d, e, was, is, (t, counts_now e (G.moment d) x later now))

  pub rehearsed_none : (j : ℕ) → j < n → IsFirstStopped G.tells G.number G.fails G.short old new j → (k : ℕ) → k ≤ calls_to_open → Made G.number G.short old new j k → Refuses G n (catalogue_of load) old new (Failed j) → IsPlay G n m load old new (Wrote hears held held)
  rehearsed_none j lt stopped k few made refused =
      let told =
      told_of_failed n m Values load some room refl workers (record { short = sound.short; bytes = sound.bytes; read = sound.read }) j (outside_of_drill G n old new) refl
      (λ u i x low now. begun_left G only_now n (catalogue_of load) old new (λ a d below was. (let b = begins a d below was in (b.0, b.1, b.2))) unborn i x low (past_now i x low now))
      (inr (refl, refl, (k, few, made), inl tt)) in
      record {
        rehearsed = record {
          failed = Some j;
          ends = (lt, stopped);
          facts = told.0;
          acked = λ hear. sym (append-nil held) ∙ ap (λ (acks : List (ℕ × List ℕ)). held ++ ack_lines acks) (sym told.1);
        };
        played = none_played G n m load old new j told.0.stops told.0.run told.0.core told.2.0 told.2.1 refused;
      }
