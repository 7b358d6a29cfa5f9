-- Which records known epochs leave out, from where they stand.
use Rattle.std.specs.Prelude.{ℕ, suc, ◌&&◌, Bool, true, false, List, [], ◌∷◌, ◌++◌, drop, length, Option, Some, None, if◌then◌else◌}
use Rattle.tau_record.specs.declared.entry.Placed.{Placed}
use Rattle.tau_record.specs.Record.{epoch_after}
use Rattle.tau_epoch.specs.Epochs.{Mark}
use Rattle.tau_scan.specs.declared.fault.LogCause.TheVariants as cause
use Rattle.tau_scan.specs.declared.fault.LogFault.{LogFault}
use Rattle.tau_scan.specs.Reading.{or_else}
use Rattle.tau_follow_laws.specs.Following.{is_left_out}
use Rattle.tau_follow.specs.declared.stage.Stage.{Stage}
use Rattle.tau_follow.specs.declared.stage.Stage.TheVariants.{Open, Out, Applied, Other}
use Rattle.tau_follow.specs.Applying.{dep_of, first_stages}

abbrev pub is_applied_stage : Stage → Bool
is_applied_stage Open = false
is_applied_stage Out = false
is_applied_stage Applied = true
is_applied_stage Other = false

-- where a record stands once these epochs are known, which stands so after an epoch with number k
abbrev pub judged_stage : List Mark → ℕ → Placed → Stage → Stage
judged_stage known k p Open = if is_left_out known k (dep_of p.entry) then Out else Open
judged_stage known k p Out = Out
judged_stage known k p Applied = Applied
judged_stage known k p Other = Other

abbrev pub judged_in : List Mark → ℕ → List Placed → List Stage → List Stage
judged_in known k [] stages = []
judged_in known k (p ∷ ps) [] = []
judged_in known k (p ∷ ps) (s ∷ stages) = judged_stage known k p s ∷ judged_in known (epoch_after k p.entry) ps stages

abbrev pub judged_from : List Mark → List (List Placed) → List (List Stage) → List (List Stage)
judged_from known [] all = []
judged_from known (ps ∷ streams) [] = []
judged_from known (ps ∷ streams) (stages ∷ all) = judged_in known 0 ps stages ∷ judged_from known streams all

-- with those of the records that are more, of which these epochs leave some out
abbrev pub with_judged : List Mark → ℕ → List Placed → List Stage → List Stage
with_judged known k ps ss = ss ++ judged_in known k (drop (length ss) ps) (first_stages (drop (length ss) ps))

-- the start of the first applied record that a known epoch leaves out
abbrev pub late_of : List Mark → ℕ → List Placed → List Stage → Option ℕ
late_of known k [] stages = None
late_of known k (p ∷ ps) [] = None
late_of known k (p ∷ ps) (s ∷ stages) =
    if (is_applied_stage s && is_left_out known k (dep_of p.entry)) then Some p.start else late_of known (epoch_after k p.entry) ps stages

-- the same in the order of streams: the fault of the first one
abbrev pub late_one : ℕ → Option ℕ → Option LogFault
late_one j None = None
late_one j (Some at) = Some (record { stream = j; cause = cause.Late at })

abbrev pub late_from : List Mark → ℕ → List (List Placed) → List (List Stage) → Option LogFault
late_from known j [] all = None
late_from known j (ps ∷ streams) [] = None
late_from known j (ps ∷ streams) (stages ∷ all) = or_else (late_one j (late_of known 0 ps stages)) (late_from known (suc j) streams all)
