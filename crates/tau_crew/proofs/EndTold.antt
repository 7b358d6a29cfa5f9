-- What the clerk has told when the run ends.
use Rattle.std.proofs.Common.{ℕ, ◌<◌, ◌≡◌, Bool, true, false, Option, List, [], ◌∷◌, ◌++◌, length, take, sym, ap, subst, ◌∙◌, arith, slice_index}
use Rattle.std.specs.Prelude.{None, Some}
use Rattle.std.proofs.lemmas.List.{append-nil, take_all}
use Rattle.std.proofs.Math.Seq.{take-append_seam}
use Rattle.tau_disk.specs.declared.disk.Disk.{Ghosts}
use Rattle.tau_stream.specs.declared.writer.Writer.{Writer}
use Rattle.tau_core.specs.State.{Plain}
use Rattle.tau_occ.specs.declared.style.Style.{Style}
use Rattle.tau_run.specs.Gives.{CutOff}
use Rattle.tau_run.specs.Heard.{Heard}
use Rattle.tau_report.specs.Report.{ack_lines}
use Rattle.tau_crew_facts.specs.Threads.{lasting}
use Rattle.tau_crew_facts.proofs.Came.{came}
use Rattle.tau_crew.specs.declared.clerk.ClerkJob.{ClerkJob}
use Rattle.tau_crew.specs.declared.told.Told.{Told}
use Rattle.tau_crew.specs.Clerking.{IsSoFar, IsToldSoFar, all_told, with_missing}
use Rattle.tau_crew.specs.EndCloses.{ClosesRun}
use Rattle.tau_crew.proofs.Clerking.{lines_append}

-- where no line waits all were written, or the sink has failed
pub all_heard : (base : List ℕ) (acks : List (ℕ × List ℕ)) (failed : Bool) (held : List ℕ) → IsSoFar base acks [] failed held → Heard base acks failed held
all_heard base acks false held w =
    w.held_is ∙ ap (λ (l : List ℕ). base ++ l) (sym (append-nil (ack_lines w.told)) ∙ ap (λ (l : List ℕ). ack_lines w.told ++ l) w.lines_are ∙ sym (lines_append w.told w.more) ∙ ap ack_lines (sym w.is))
all_heard base acks true held w = w

-- those that were told are the first ones, without one that is missing
pub first_told : (acks : List (ℕ × List ℕ)) (missing : Option (ℕ × List ℕ)) → take (length acks) (with_missing acks missing) ≡ acks
first_told acks None = take_all (length acks) acks (omega arith)
first_told acks (Some a) = take-append_seam acks (a ∷ [])

pub short_heard : (base : List ℕ) (t : Told) (held : List ℕ) → t.lines.items ≡ [] → IsToldSoFar base t held → Heard base (take (length t.acks) (all_told t)) t.sink_failed held
short_heard base t held none so =
    subst (λ (acks : List (ℕ × List ℕ)). Heard base acks t.sink_failed held) (sym (first_told t.acks t.missing))
    (all_heard base t.acks t.sink_failed held (subst (λ (ls : List ℕ). IsSoFar base t.acks ls t.sink_failed held) none so))

-- out of memory
pub ends_short : {D : Type 0} {G : Ghosts D} (first : Plain) {style : Style} (bases : ℕ → List ℕ) (ws ws' : List (Writer D G)) (telling : ClerkJob) (result : Plain) (hears : Type 0) (held held' : List ℕ) (sink_rose : Type 0) → ((j : ℕ) → j < first.load.streams → length (bases j) ≡ slice_index first.load.opening.ends j) → ClosesRun first style bases ws ws' telling result → telling.told.lines.items ≡ [] →
    (hears → IsToldSoFar held telling.told held') → (telling.told.sink_failed ≡ true → sink_rose) → CutOff (lasting style ws') bases first.load ws ws' hears held held' sink_rose
ends_short first bases ws ws' telling result hears held held' sink_rose long c none heard sink = record {
  acks = all_told telling.told;
  came = came bases first long c.state ws ws' (all_told telling.told) c.came;
  count = length telling.told.acks;
  sink_failed = telling.told.sink_failed;
  heard = λ h. short_heard held telling.told held' none (heard h);
  sink = sink;
}
