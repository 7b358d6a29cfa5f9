-- The laws on runs.
use Rattle.std.proofs.Common.{◌≡◌, [], ◌++◌, sym, ap, subst, ◌∙◌}
use Rattle.std.specs.Prelude.{Ok, slice_index_or}
use Rattle.tau_scan.specs.Sound.{IsSound}
use Rattle.tau_scan.specs.Taken.{kept_in}
use Rattle.tau_base.specs.declared.value.LogMode.{LogMode}
use Rattle.tau_base.specs.Modes.{format_of}
use Rattle.tau_core.specs.View.{setting_of}
use Rattle.tau_run.specs.Run.{records_in}
use Rattle.tau_scan.specs.Reading.{log_of_contents}
use Rattle.tau_run.specs.RecoveredFacts.{IsRecovered}
use Rattle.tau_run.specs.Laws.{RunIsThere, RunIsHistory, ContentsAreRecords, ImagesAreRecovered, AckedIsTaken, EndsWell, NothingIsLost}
use Rattle.tau_run.proofs.Acked.{whole, acked_taken}
use Rattle.tau_run.proofs.Ended.{acked_is, uncovered_is, flushed_is, opened_is}
use Rattle.tau_run.proofs.Complete.{kept_there}
use Rattle.tau_run.proofs.Kept.{kept_acked}
use Rattle.tau_run.proofs.Recovered.{recovered}
use Rattle.tau_run.proofs.Sound.{declared, history_is}
use Rattle.tau_run.proofs.RunExists.{run_there}

pub run_law : RunIsThere
run_law n m mode load p K h st start at count acks are = run_there n m mode load p K h st start at count acks are

pub history_law : RunIsHistory
history_law n m mode load l K s run c is = history_is n m mode load l K s run c is

pub contents_law : ContentsAreRecords
contents_law n m mode load l K s run c is =
    let course = declared n m mode load l K s run c in
    let w = whole n m mode load l K s run course is in (
      λ j content e. opened_is n m mode load l K s run course is j content e,
      (
        w.0,
        subst (λ (k : LogMode). log_of_contents (format_of k) run.contents ≡ Ok w.0) c.load_is.mode_is w.1,
        λ j lt. w.2 j lt ∙ ap (λ (k : LogMode). kept_in j (slice_index_or run.start.log.streams j []) ++ records_in k load run j) c.load_is.mode_is,
      ),
    )

pub images_law : ImagesAreRecovered
images_law n m mode load l K s run c is ok images count left =
    subst (λ (k : LogMode). IsRecovered n k load run images) c.load_is.mode_is
    (recovered n m mode load l K s run (declared n m mode load l K s run c) is (subst (λ (k : LogMode). IsSound (format_of k) run.start.old run.start.log run.start.base) (sym c.load_is.mode_is) ok) images count left)

pub acked_law : AckedIsTaken
acked_law n m mode load l K s run c is images count present log reads x q e = acked_taken n m mode load l K s run (declared n m mode load l K s run c) is images count present log reads x q e

pub ends_law : EndsWell
ends_law n m mode load l K s run c is over = (
  λ d q. acked_is n m mode load l K s run (declared n m mode load l K s run c) is over d q,
  λ d q j lt gap. uncovered_is n m mode load l K s run (declared n m mode load l K s run c) is over d q j lt gap,
  λ j lt going image bytes f reach. flushed_is n m mode load l K s run (declared n m mode load l K s run c) is over j lt going image bytes f reach,
)

pub lost_law : NothingIsLost
lost_law n m mode load l K s run c is opening events led keep wait over going =
    kept_acked n m mode load l K s run c is over (λ k low high. (let w = wait k low high in (w.0, kept_there (setting_of l) opening events K s led keep k w.0 w.1))) going
