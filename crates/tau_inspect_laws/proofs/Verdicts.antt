-- The verdict of a run's own report beside a log of its images.
use Rattle.std.proofs.Common.{ℕ, ◌≡◌, ◌⊎◌, inl, inr, List, [], refl}
use Rattle.tau_base.specs.declared.value.Key.{Key}
use Rattle.tau_base.specs.declared.value.Value.{Value}
use Rattle.tau_base.specs.declared.value.LogMode.{LogMode}
use Rattle.tau_model.specs.Tables.{IsTablesOf}
use Rattle.tau_text.specs.declared.load.Workload.{Workload}
use Rattle.tau_scan.specs.declared.log.Log.{Log}
use Rattle.tau_scan.specs.Epochs.{marks_of}
use Rattle.tau_run.specs.Run.{Run, last_db}
use Rattle.tau_inspect.specs.declared.verdict.Check.TheVariants as check
use Rattle.tau_inspect.specs.declared.verdict.Verdict.{Verdict}
use Rattle.tau_inspect.specs.declared.verdict.Verdict.TheVariants as verdict
use Rattle.tau_inspect.specs.Audit.{IsVerdict}
use Rattle.tau_inspect.proofs.OneVerdict.{finds_none}
use Rattle.tau_inspect_laws.specs.Laws.{case_of_run, IsLogOfRun, IsLongEnough, OwnReportFits, VerdictsOfRun}
use Rattle.tau_inspect_laws.proofs.Told.{told_as_executed}
use Rattle.tau_inspect_laws.proofs.Fitting.{fresh_base, records_fit}
use Rattle.tau_inspect_laws.proofs.Surviving.{taken_fits}
use Rattle.tau_inspect_laws.proofs.Ordering.{order_fits}
use Rattle.tau_inspect_laws.proofs.Reaching.{reach_images}

pub verdicts_of_run : VerdictsOfRun
verdicts_of_run n m mode load run images log rows o present verdict.Yes v = inl refl
verdicts_of_run n m mode load run images log rows o present verdict.Cut v = inr (inl refl)
verdicts_of_run n m mode load run images log rows o present (verdict.No check.Epoch k) v = inr (inr (inl (k, refl, v.1.0)))
verdicts_of_run n m mode load run images log rows o present (verdict.No check.Fate k) v = absurd (finds_none _ _ _ k v.1 (told_as_executed n m load run rows log o.history (fresh_base n m mode load run images log rows o) present).0)
verdicts_of_run n m mode load run images log rows o present (verdict.No check.Reply k) v = absurd (finds_none _ _ _ k v.1 (told_as_executed n m load run rows log o.history (fresh_base n m mode load run images log rows o) present).1)
verdicts_of_run n m mode load run images log rows o present (verdict.No check.Row k) v = absurd (v.1.0 (told_as_executed n m load run rows log o.history (fresh_base n m mode load run images log rows o) present).2)
verdicts_of_run n m mode load run images log rows o present (verdict.No check.Record k) v = absurd (finds_none _ _ _ k v.1 (records_fit n m mode load run images log rows o))
verdicts_of_run n m mode load run images log rows o present (verdict.No check.Ack k) v = absurd (finds_none _ _ _ k v.1 (taken_fits n m mode load run images log rows o).0)
verdicts_of_run n m mode load run images log rows o present (verdict.No check.Closed k) v = absurd (finds_none _ _ _ k v.1 (taken_fits n m mode load run images log rows o).1)
verdicts_of_run n m mode load run images log rows o present (verdict.No check.Order k) v =
    inr (inr (inr (k, refl, λ long. finds_none _ _ _ k v.1.1 (order_fits n m mode load run images log rows o long v.1.0))))

-- where there is no epoch record and the log is long enough
pub yes_or_cut : (n m : ℕ) (mode : LogMode) (load : Workload) (run : Run) (images : List (List ℕ)) (log : Log) (rows : List (Key × Value)) → IsLogOfRun n m mode load run images log → marks_of log ≡ [] → IsLongEnough log.elv run →
    IsTablesOf (last_db load run) rows → (v : Verdict) → IsVerdict (case_of_run m load run rows log) v → (v ≡ verdict.Yes) ⊎ (v ≡ verdict.Cut)
yes_or_cut n m mode load run images log rows o none long present v h = elim (verdicts_of_run n m mode load run images log rows o present v h) [
  | inl whole ↦ inl whole
  | inr more ↦ elim more [
    | inl cut ↦ inr cut
    | inr no' ↦ elim no' [
      | inl epoch ↦ absurd (epoch.2 none)
      | inr order ↦ absurd (order.2 long)
    ]
  ]
]

pub own_report_fits : OwnReportFits
own_report_fits n m mode load l K s run c is fresh images count present log reads rows tables v h =
    let w = reach_images n m mode load l K s run c is fresh images count present log reads in
    yes_or_cut n m mode load run images log rows w.0 w.1 (inr w.2) tables v h
