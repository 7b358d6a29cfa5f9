-- What holds of every follower.
use Rattle.std.specs.Prelude.{ℕ, ◌≡◌, ◌↔◌, false, List, [], ◌∷◌, ◌++◌, map, None, Ok}
use Rattle.tau_base.specs.declared.format.Format.{Format}
use Rattle.tau_model.specs.History.{Member}
use Rattle.tau_model.specs.Logged.{Orderly}
use Rattle.tau_record.specs.declared.entry.Placed.{Placed}
use Rattle.tau_scan.specs.declared.log.Log.{Log}
use Rattle.tau_scan.specs.Reading.{log_of_contents}
use Rattle.tau_scan.specs.Taken.{Kept, kept_from, taken}
use Rattle.tau_follow_laws.specs.Following.{Followed, is_among, with_read, IsApplied}
use Rattle.tau_follow_laws.specs.Fed.{fronts_of}
use Rattle.tau_follow_laws.specs.Feeding.{late_in, read_now, HasFed, Piece, with_piece, BeginWith, IsFollower}
use Rattle.tau_epoch_laws.specs.Marked.{AreMarked}
use Rattle.tau_model.specs.History.{Act, Closed}
use Rattle.tau_follow_laws.specs.Histories.{has_record, HoldsHistory, Recorded, place_of, logs_of}

-- no two of them start at one place
abbrev pub AreApart : List Kept → Type 0
AreApart [] = Unit {0}
AreApart (r ∷ rs) = (is_among rs r ≡ false) × AreApart rs

-- what is applied was read, each record once, and stands in an orderly order
pub record IsInOrder (s : Followed) : Type 0 where
  pub orderly : Orderly (map (λ (r : Kept). r.place) s.order)
  pub read : (r : Kept) → Member r s.order → Member r (kept_from 0 s.streams)
  pub once : AreApart s.order

-- Whatever the bytes are.
abbrev pub AppliedInOrder : Type 0
AppliedInOrder = (f : Format) (n : ℕ) (fed : List (List ℕ)) (s : Followed) → IsFollower f n fed s → IsInOrder s

-- A feed applies more: what was applied stands in front, and what is applied then is the least set that is closed.
abbrev pub AppliedIsLeast : Type 0
AppliedIsLeast = (f : Format) (n : ℕ) (fed : List (List ℕ)) (s t : Followed) (p : Piece) → IsFollower f n fed s → (h : HasFed f (with_piece fed p) s t) →
    ((news : List Kept) × (t.order ≡ s.order ++ news)) × ((r : Kept) → Member r t.order ↔ IsApplied (with_read s h.streams) r)

-- On contents that begin with what was fed, and whose epochs stand as runs leave them, recovery takes whatever is applied.
abbrev pub OnlyTaken : Type 0
OnlyTaken = (f : Format) (n : ℕ) (fed contents : List (List ℕ)) (s : Followed) (log : Log) → IsFollower f n fed s → BeginWith contents fed → log_of_contents f contents ≡ Ok log → AreMarked log.streams →
    (r : Kept) → Member r s.order → Member r (taken log)

-- and no feed meets a record that was applied too early
abbrev pub NeverLate : Type 0
NeverLate = (f : Format) (n : ℕ) (fed contents : List (List ℕ)) (s : Followed) (log : Log) (p : Piece) (streams : List (List Placed)) → IsFollower f n fed s → BeginWith contents (with_piece fed p) → log_of_contents f contents ≡ Ok log → AreMarked log.streams →
    fronts_of f (with_piece fed p) ≡ Ok streams → late_in streams s.order ≡ None

-- No feed of such contents is bad, however they are cut.
abbrev pub NeverBad : Type 0
NeverBad = (f : Format) (n : ℕ) (fed contents : List (List ℕ)) (s : Followed) (log : Log) (p : Piece) → IsFollower f n fed s → BeginWith contents (with_piece fed p) → log_of_contents f contents ≡ Ok log → AreMarked log.streams →
    (streams : List (List Placed)) × (read_now f (with_piece fed p) s.order ≡ Ok streams)

-- The applied calls are closed in every history of which the contents hold the log.
abbrev pub AppliedIsClosed : Type 0
AppliedIsClosed = (f : Format) (n : ℕ) (fed contents : List (List ℕ)) (s : Followed) (log : Log) → IsFollower f n fed s → BeginWith contents fed → log_of_contents f contents ≡ Ok log → AreMarked log.streams →
    (ends : List ℕ) (acts : List (Act Recorded)) → HoldsHistory place_of logs_of ends acts log → Closed acts (has_record place_of logs_of s.order)
