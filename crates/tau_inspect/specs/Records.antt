-- The records of calls, lent from a log.
use Rattle.std.specs.Prelude.{ℕ, ◌<◌, ◌≤◌, List, [], ◌∷◌, length, All, Option, Some, None}
use Rattle.tau_base.specs.declared.limits.TheConstants.{MAX_LSN, MAX_STREAMS}
use Rattle.tau_model.specs.Redo.{Content, Written, Command}
use Rattle.tau_scan.specs.Taken.{Kept}
use Rattle.tau_inspect.specs.declared.records.Work.{Work}
use Rattle.tau_inspect.specs.declared.records.Work.TheVariants as work

abbrev pub content_of : Work → Content
content_of (work.Writes writes) = Written writes.now
content_of (work.Call call) = Command call.now

-- the record, if there is one
abbrev pub if_any : Option Kept → List Kept
if_any None = []
if_any (Some r) = r ∷ []

-- the positions of a vector
pub record IsLv (v : List ℕ) : Type 0 where
  pub low : 1 ≤ length v
  pub high : length v ≤ MAX_STREAMS
  pub small : All (λ p. p < MAX_LSN) v

-- the record of a stream, with a vector
pub record IsPlaced (r : Kept) : Type 0 where
  pub stream : r.place.stream ≤ 255
  pub vector : IsLv r.place.dep
