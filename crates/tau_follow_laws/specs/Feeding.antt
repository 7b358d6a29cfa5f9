-- What a follower answers, and how it is then.
use Rattle.std.specs.Prelude.{ℕ, ◌≡◌, List, [], ◌∷◌, ◌++◌, replicate, Option, Some, None, Result, Ok, slice_set, slice_index_or}
use Rattle.std.specs.List.{filter}
use Rattle.tau_base.specs.declared.format.Format.{Format}
use Rattle.tau_record.specs.declared.entry.Placed.{Placed}
use Rattle.tau_scan.specs.declared.fault.LogCause.TheVariants as cause
use Rattle.tau_scan.specs.declared.fault.LogFault.{LogFault}
use Rattle.tau_scan.specs.Reading.{◌>>=◌, unless, or_else, catalogue_in, epoch_fault}
use Rattle.tau_scan.specs.Taken.{Kept}
use Rattle.tau_follow_laws.specs.Fed.{fronts_of}
use Rattle.tau_follow_laws.specs.Following.{Followed, is_among, left_out, Applies, NoneReady, with_read, begun}

abbrev pub late_at : List Kept → Option LogFault
late_at [] = None
late_at (r ∷ rs) = Some (record { stream = r.place.stream; cause = cause.Late r.place.start })

-- the first applied record, by stream and place, that an epoch leaves out
abbrev pub late_in : List (List Placed) → List Kept → Option LogFault
late_in streams order = late_at (filter (is_among order) (left_out streams))

-- What is read of the streams of which these bytes were fed, where these records are applied; or the first cause why the
-- feed is bad: a bad record, then another catalogue, then an epoch with another vector, then a record applied too early.
abbrev pub read_now : Format → List (List ℕ) → List Kept → Result (List (List Placed)) LogFault
read_now f fed order = do
  streams ← fronts_of f fed
  catalogue ← catalogue_in streams
  unless (or_else (epoch_fault streams) (late_in streams order)) streams

-- the follower then: it has read the streams, and has applied what was ready until nothing was
pub record HasFed (f : Format) (fed : List (List ℕ)) (s t : Followed) : Type 0 where
  pub streams : List (List Placed)
  pub read : read_now f fed s.order ≡ Ok streams
  pub news : List Kept
  pub applies : Applies (with_read s streams) news t
  pub through : NoneReady t

-- bytes that are fed to a stream
pub record Piece : Type 0 where
  pub stream : ℕ
  pub bytes : List ℕ

-- what is fed of each stream then
abbrev pub with_piece : List (List ℕ) → Piece → List (List ℕ)
with_piece fed p = slice_set fed p.stream (slice_index_or fed p.stream [] ++ p.bytes)

-- these pieces are fed, one after another, and no feed is bad
abbrev pub Feeds : Format → List (List ℕ) → Followed → List Piece → List (List ℕ) → Followed → Type 0
Feeds f fed s [] now t = (now ≡ fed) × (t ≡ s)
Feeds f fed s (p ∷ ps) now t = (m : Followed) × HasFed f (with_piece fed p) s m × Feeds f (with_piece fed p) m ps now t

-- a follower of n streams that was fed these bytes, however they were cut
abbrev pub IsFollower : Format → ℕ → List (List ℕ) → Followed → Type 0
IsFollower f n fed s = (pieces : List Piece) × Feeds f (replicate n []) (begun n) pieces fed s

-- each of these contents begins with what was fed of its stream
abbrev pub BeginWith : List (List ℕ) → List (List ℕ) → Type 0
BeginWith [] [] = Unit {0}
BeginWith (content ∷ contents) (bytes ∷ fed) = ((more : List ℕ) × (content ≡ bytes ++ more)) × BeginWith contents fed
BeginWith _ _ = ⊥
