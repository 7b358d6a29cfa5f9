-- What became of the calls of a run, by the calls that committed and those that were told.
use Rattle.std.specs.Prelude.{ℕ, ◌+◌, ◌≤◌, ◌==◌, Bool, Option, Some, None, if◌then◌else◌, List, [], ◌∷◌, map}
use Rattle.std.specs.List.{list_any}
use Rattle.tau_proc.specs.declared.reply.Reply.{Reply}
use Rattle.tau_model.specs.History.{Act}
use Rattle.tau_model.specs.declared.committed.Committed.{Committed}
use Rattle.tau_machine.specs.Hands.{Txn}
use Rattle.tau_report.specs.declared.report.Fate.{Fate}
use Rattle.tau_run.specs.Run.{below, fate}

-- the number of one of so many calls
abbrev pub IsNumberOf : ℕ → ℕ → Type 0
IsNumberOf calls n = (1 ≤ n) × (n ≤ calls)

-- whether the call with this number was told
abbrev pub is_told : List (ℕ × List ℕ) → ℕ → Bool
is_told told k = list_any (λ a. a.0 == k) told

-- the reply of the committed call with this number
abbrev pub reply_at : ℕ → List (Act Txn) → Option Reply
reply_at k [] = None
reply_at k (t ∷ ts) = if t.call.call.number == k then Some t.effect.reply else reply_at k ts

-- what became of each of so many calls
abbrev pub fates_by : ℕ → List (Act Txn) → List (ℕ × List ℕ) → List Fate
fates_by calls order told = map (λ k. fate (reply_at (k + 1) order) (is_told told (k + 1))) (below calls)

-- ---- the same of the calls that a core has

-- the reply of the first of these calls that has this number
abbrev pub reply_in : ℕ → List Committed → Option Reply
reply_in k [] = None
reply_in k (c ∷ cs) = if c.number == k then Some c.reply else reply_in k cs

-- of each of so many calls, whether it was told
abbrev pub marks_in : ℕ → List (ℕ × List ℕ) → List Bool
marks_in calls told = map (λ k. is_told told (k + 1)) (below calls)

-- and what became of it
abbrev pub fates_in : ℕ → List Committed → List (ℕ × List ℕ) → List Fate
fates_in calls committed told = map (λ k. fate (reply_in (k + 1) committed) (is_told told (k + 1))) (below calls)
