-- The verdict of a run's own report, over what is told of a run.
use Rattle.std.proofs.Common.{ℕ, ◌<◌, ◌≤◌, ◌≡◌, ◌⊎◌, Bool, true, inl, inr, List, [], length, sym, ap, subst, ◌∙◌, arith, Option, Result, Err}
use Rattle.std.specs.Prelude.{Some, None, Ok, ◌&&◌, ◌==◌, if◌then◌else◌, slice_get, slice_index}
use Rattle.std.proofs.lemmas.Bool.{cases_Bool}
use Rattle.tau_base.specs.declared.format.Format.{Format}
use Rattle.tau_base.specs.declared.format.Format.TheVariants.{One, Two}
use Rattle.tau_base.specs.declared.value.Key.{Key}
use Rattle.tau_base.specs.declared.value.Value.{Value}
use Rattle.tau_base.specs.declared.value.LogMode.{LogMode}
use Rattle.tau_base.specs.Modes.{format_of, most_streams}
use Rattle.tau_base.proofs.Lists.{some_at, got_or, got_within}
use Rattle.tau_base.proofs.Logic.{below_or_not}
use Rattle.tau_base.proofs.Vectors.{beyond}
use Rattle.tau_block.specs.declared.fault.ImageFault.{ImageFault}
use Rattle.tau_block.specs.Image.{Reading as ImageReading, bytes_of, image_of, is_in, is_of, HasContent}
use Rattle.tau_machine.proofs.Results.{run_theorem}
use Rattle.tau_machine.specs.State.{Core}
use Rattle.tau_model.specs.Tables.{IsTablesOf}
use Rattle.tau_text.specs.declared.load.Workload.{Workload}
use Rattle.tau_core.specs.declared.state.Load.{Load}
use Rattle.tau_core.specs.View.{setting_of}
use Rattle.tau_scan.specs.declared.fault.LogCause.TheVariants as cause
use Rattle.tau_scan.specs.declared.fault.LogFault.{LogFault}
use Rattle.tau_scan.specs.declared.log.Log.{Log}
use Rattle.tau_scan.specs.Epochs.{marks_of}
use Rattle.tau_scan.specs.Reading.{counted, formatted, log_of, opened}
use Rattle.tau_run.specs.CoreRun.{IsCourse, IsSoundLoad}
use Rattle.tau_run.specs.Outside.{Outside}
use Rattle.tau_run.specs.RecoveredFacts.{WaitsWithin, AreFrom, IsEnded}
use Rattle.tau_run.specs.Run.{Run, last_db}
use Rattle.tau_run.specs.RunFacts.{Ending, IsCoreRun, RunFacts, in_any_order}
use Rattle.tau_run.specs.Start.{Start, fresh_start, IsStart}
use Rattle.tau_run.specs.Turns.{Progress}
use Rattle.tau_run.proofs.Fresh.{fresh_begins}
use Rattle.tau_run.proofs.Waits.{waits_for}
use Rattle.tau_inspect.specs.declared.verdict.Verdict.{Verdict}
use Rattle.tau_inspect.specs.declared.verdict.Verdict.TheVariants as verdict
use Rattle.tau_inspect.specs.Audit.{IsVerdict}
use Rattle.tau_inspect_laws.specs.Laws.{case_of_run, AreNotOlder, EndIsLong, EndedReportFits, IsLogOfRun, IsLongEnough, RunReportFits}
use Rattle.tau_inspect_laws.proofs.Fitting.{contents_wide, held}
use Rattle.tau_inspect_laws.proofs.Ordering.{index_is}
use Rattle.tau_inspect_laws.proofs.Unmarked.{no_epochs}
use Rattle.tau_inspect_laws.proofs.Verdicts.{yes_or_cut}
use Rattle.tau_inspect_laws.proofs.Whole.{image_read, one_is, whole_is_long}

-- the run of a core is one of its courses
course_of : (n m : ℕ) (mode : LogMode) (load : Workload) (stops : ℕ → Option ℕ) (run : Run) → IsSoundLoad load → n ≤ most_streams (format_of mode) → run.start ≡ fresh_start n →
    (r : IsCoreRun (in_any_order true) n m mode load stops run) → IsCourse n m mode load run.start r.stands_on r.progress.joined r.progress.state
course_of n m mode load stops run sound room fresh r = record {
  room = subst (λ (k : LogMode). n ≤ most_streams (format_of k)) (sym r.load_is.mode_is) room;
  begins = subst (λ (b : Start). IsStart (format_of r.stands_on.mode) n load b) (sym fresh) (fresh_begins (format_of r.stands_on.mode) n load);
  load_is = r.load_is;
  sound = sound;
  inv = run_theorem (setting_of r.stands_on) r.opening r.progress.events r.progress.joined r.progress.state r.led;
  waits = waits_for n m mode load run.start r.stands_on r.opening r.progress.events r.progress.joined r.progress.state r.load_is r.led r.first;
}

pub run_report_fits : RunReportFits
run_report_fits n m mode load stops run sound room r images log o long rows present v h =
    let c = course_of n m mode load stops run sound room o.fresh r in
    let none : marks_of log ≡ [] = no_epochs n m mode load r.stands_on r.progress.joined r.progress.state run c r.is images log o in
    yes_or_cut n m mode load run images log rows o none long present v h

-- ---- what is told of a run

-- however its events were chosen
any_order : (by : Load → Core → Progress → Type 0) (n m : ℕ) (mode : LogMode) (load : Workload) (stops : ℕ → Option ℕ) (run : Run) → IsCoreRun by n m mode load stops run → IsCoreRun (in_any_order true) n m mode load stops run
any_order by n m mode load stops run r = record {
  stands_on = r.stands_on;
  load_is = r.load_is;
  opening = r.opening;
  first = r.first;
  progress = r.progress;
  led = r.led;
  chosen = tt;
  is = r.is;
  told = r.told;
  stopped = r.stopped;
}

abbrev refused : ℕ → ℕ → ℕ → Result (List ℕ) LogFault
refused n j found = Err (record { stream = j; cause = cause.Count n found })

abbrev given : List ℕ → Result (List ℕ) LogFault
given bytes = Ok bytes

opened_counted : (n j : ℕ) (count : Option ℕ) (bytes content : List ℕ) → counted n j count bytes ≡ Ok content → (if is_of n count then Some bytes else None) ≡ Some content
opened_counted n j None bytes content e = ap (λ (b : List ℕ). Some b) (one_is bytes content e)
opened_counted n j (Some found) bytes content e = elim (cases_Bool (found == n)) [
  | inl is ↦ rw is (ap (λ (b : List ℕ). Some b) (one_is bytes content (subst (λ (t : Bool). (if t then given bytes else refused n j found) ≡ Ok content) is e)))
  | inr no' ↦ absurd (let f : refused n j found ≡ Ok content = subst (λ (t : Bool). (if t then given bytes else refused n j found) ≡ Ok content) no' e in cc f)
]

opened_formatted : (f : Format) (n j : ℕ) (format : Option Format) (count : Option ℕ) (bytes content : List ℕ) → formatted f j format (counted n j count bytes) ≡ Ok content →
    (if is_in f format && is_of n count then Some bytes else None) ≡ Some content
opened_formatted f n j None count bytes content e = opened_counted n j count bytes content e
opened_formatted One n j (Some One) count bytes content e = opened_counted n j count bytes content e
opened_formatted One n j (Some Two) count bytes content e = absurd (cc e)
opened_formatted Two n j (Some One) count bytes content e = absurd (cc e)
opened_formatted Two n j (Some Two) count bytes content e = opened_counted n j count bytes content e

has_opened : (f : Format) (n j : ℕ) (r : Result ImageReading ImageFault) (content : List ℕ) → opened f n j r ≡ Ok content → bytes_of f n r ≡ Some content
has_opened f n j (Ok r) content e = opened_formatted f n j r.format r.count r.bytes content e
has_opened f n j (Err fault) content e = absurd cc

-- a log of images that are not older than the end of their run
module _ (n m : ℕ) (mode : LogMode) (load : Workload) (run : Run) (images : List (List ℕ)) (log : Log) (o : IsLogOfRun n m mode load run images log) (images_late : AreNotOlder n mode run images) where
  durable_within : (j : ℕ) → j < n → slice_index images_late.durable j ≤ slice_index log.elv j
  durable_within j lt =
      let r = o.recovered in
      let h = held n m mode load run images log [] o in
      let wide = contents_wide n m mode load run images log [] o in
      let x = some_at r.contents j (omega (arith, wide, lt)) in
      let w = image_read (format_of mode) images r.contents r.have j x.0 x.1 in
      let has : HasContent (format_of mode) n j x.0 w.0 = has_opened (format_of mode) n j (image_of j w.0) x.0 (ap (λ (k : ℕ). opened (format_of mode) k j (image_of j w.0)) (sym o.count) ∙ w.2) in
      let low = images_late.least j w.0 x.0 lt w.1 has in
      let size : slice_index log.elv j ≡ length x.0 = ap (λ (v : List ℕ). slice_index v j) h.elv ∙ index_is r.contents j ∙ ap length (got_or r.contents j x.0 [] x.1) in
      omega (arith, low, size)

  waits_within : WaitsWithin log.elv run
  waits_within c t j = elim (below_or_not j n) [
    | inl lt ↦ elim (images_late.waits c t j) [
      | inl le ↦ (let low = durable_within j lt in inl (omega (arith, le, low)))
      | inr record' ↦ inr record'
    ]
    | inr le ↦ (let wide = o.history.widths c t in let none = beyond c.place.dep j (omega (arith, wide, le)) in inl (omega (arith, none)))
  ]

pub end_is_long : EndIsLong
end_is_long n m mode load run images log o late = waits_within n m mode load run images log o late

pub ended_report_fits : EndedReportFits
ended_report_fits n m mode load stops run sound room r images log o late rows present v h =
    run_report_fits n m mode load stops run sound room r images log o (inr (end_is_long n m mode load run images log o late)) rows present v h

-- images that a stop now may leave of a run that began on streams without a byte
module _ {by : Bool → Load → Core → Progress → Type 0} {n m : ℕ} {mode : LogMode} {load : Workload} {o : Outside} {ending : Ending} (f : RunFacts by n m mode load o ending) (fresh : o.start ≡ fresh_start n) (in_order : o.began_in_order)
    (images : List (List ℕ)) (since : AreFrom o.may_have_left n images) (still : AreFrom o.may_leave n images) (log : Log) (reads : log_of None images ≡ Ok log) where
  -- their log is one of the run
  pub of_facts : IsLogOfRun n m mode load f.run images log
  of_facts = record { history = f.history; fresh = f.begins ∙ fresh; recovered = f.imaged.each in_order images since; acknowledged = f.acknowledged images still log reads; count = still.0; reads = reads }

  module _ (ended : IsEnded n mode load o.may_leave o.disk_rose f.run) where
    image_low : (j : ℕ) (image : List ℕ) → slice_get images j ≡ Some image → j < n
    image_low j image g = subst (λ (k : ℕ). j < k) still.0 (got_within images j image g)

    -- it is long enough if no disk failed
    pub long_if_flushed : ((j : ℕ) → j < n → o.disk_rose j → ⊥) → IsLongEnough log.elv f.run
    long_if_flushed none = inl (whole_is_long n m mode load f.run images log of_facts (λ j image g. (let lt = image_low j image g in ended.flushed j image lt (none j lt) (still.1 j image g))))

    -- images that a stop may leave at the end are not older than it
    not_older : AreNotOlder n mode f.run images
    not_older = record { durable = ended.durable; waits = ended.waits; least = λ j image content lt g has. ended.least j image content lt (still.1 j image g) has }

    -- the report of the run is found whole or cut
    pub report_fits : IsSoundLoad load → n ≤ most_streams (format_of mode) → IsCoreRun (by true) n m mode load f.stops f.run →
        (rows : List (Key × Value)) → IsTablesOf (last_db load f.run) rows → (v : Verdict) → IsVerdict (case_of_run m load f.run rows log) v → (v ≡ verdict.Yes) ⊎ (v ≡ verdict.Cut)
    report_fits sound room core rows present v h =
        ended_report_fits n m mode load f.stops f.run sound room (any_order (by true) n m mode load f.stops f.run core) images log of_facts not_older rows present v h
