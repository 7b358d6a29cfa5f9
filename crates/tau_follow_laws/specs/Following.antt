-- What a follower applies of the records that it has read.
use Rattle.std.specs.Prelude.{ℕ, suc, ◌≡◌, ◌<◌, ◌==◌, ◌&&◌, Bool, true, false, not, List, [], ◌∷◌, ◌++◌, map, replicate, slice_index}
use Rattle.std.specs.List.{filter, list_any}
use Rattle.tau_base.specs.Vectors.{AtMost}
use Rattle.tau_model.specs.History.{Member}
use Rattle.tau_record.specs.declared.entry.Placed.{Placed}
use Rattle.tau_record.specs.Record.{epoch_after}
use Rattle.tau_epoch.specs.Epochs.{Mark, least_above}
use Rattle.tau_epoch_laws.specs.Marked.{last_past}
use Rattle.tau_scan.specs.Epochs.{marks_from, is_below}
use Rattle.tau_scan.specs.Taken.{Kept, kept_as, kept_in, kept_from}

-- ---- which records are left out

-- the data and command records of a stream after an epoch with number k whose epoch and vector pass a test
abbrev pub chosen_in : (ℕ → List ℕ → Bool) → ℕ → ℕ → List Placed → List Kept
chosen_in test j k [] = []
chosen_in test j k (p ∷ ps) = filter (λ r. test k r.place.dep) (kept_as j p p.entry) ++ chosen_in test j (epoch_after k p.entry) ps

-- those of all streams from this number on
abbrev pub chosen_from : (ℕ → List ℕ → Bool) → ℕ → List (List Placed) → List Kept
chosen_from test j [] = []
chosen_from test j (ps ∷ streams) = chosen_in test j 0 ps ++ chosen_from test (suc j) streams

-- whether a known epoch judges a record of epoch k with this vector, and does not cover the vector
abbrev pub is_left_out : List Mark → ℕ → List ℕ → Bool
is_left_out known k dep = not (is_below dep (least_above k known))

-- the records that the epochs among all these leave out, by stream and place
abbrev pub left_out : List (List Placed) → List Kept
left_out streams = chosen_from (is_left_out (marks_from streams)) 0 streams

-- ---- how far the streams are followed

-- What is read of each stream, which records have been left out, and which were applied, in this order. What was left out
-- once stays left out.
pub record Followed : Type 0 where
  pub streams : List (List Placed)
  pub out : List Kept
  pub order : List Kept

-- whether one of these records starts there
abbrev pub starts_among : List Kept → ℕ → ℕ → Bool
starts_among rs j start = list_any (λ (r : Kept). (r.place.stream == j) && (r.place.start == start)) rs

abbrev pub is_among : List Kept → Kept → Bool
is_among rs r = starts_among rs r.place.stream r.place.start

-- whether it is neither left out nor applied
abbrev pub is_open : List Kept → List Kept → Kept → Bool
is_open out order r = not (is_among out r) && not (is_among order r)

-- To where a stream is read: 0 where that is its catalogue alone, since a run that goes on may have written the catalogue,
-- and with it its epoch.
abbrev pub read_to : List Placed → ℕ
read_to [] = 0
read_to (p ∷ []) = 0
read_to (p ∷ q ∷ ps) = last_past q.past ps

-- the start of the first of these, or this place where there is none
abbrev pub first_start : ℕ → List Kept → ℕ
first_start at [] = at
first_start at (r ∷ rs) = r.place.start

-- how far a stream is followed: up to its first open record
abbrev pub reach : List Kept → List Kept → ℕ → List Placed → ℕ
reach out order j ps = first_start (read_to ps) (filter (is_open out order) (kept_in j ps))

abbrev pub reach_from : List Kept → List Kept → ℕ → List (List Placed) → List ℕ
reach_from out order j [] = []
reach_from out order j (ps ∷ streams) = reach out order j ps ∷ reach_from out order (suc j) streams

-- the recovered vector of a follower
abbrev pub rlv : Followed → List ℕ
rlv s = reach_from s.out s.order 0 s.streams

-- ---- what is applied

-- the record was read, is open, and its vector is covered by the recovered one
pub record IsReady (s : Followed) (r : Kept) : Type 0 where
  pub read : Member r (kept_from 0 s.streams)
  pub open_still : is_open s.out s.order r ≡ true
  pub covered : AtMost r.place.dep (rlv s)

abbrev pub NoneReady : Followed → Type 0
NoneReady s = (r : Kept) → IsReady s r → ⊥

abbrev pub applied : Followed → Kept → Followed
applied s r = record { streams = s.streams; out = s.out; order = s.order ++ r ∷ [] }

-- these records are applied, one after another, each when it is ready
abbrev pub Applies : Followed → List Kept → Followed → Type 0
Applies s [] t = t ≡ s
Applies s (r ∷ rs) t = IsReady s r × Applies (applied s r) rs t

-- once these streams are read
abbrev pub with_read : Followed → List (List Placed) → Followed
with_read s streams = record { streams = streams; out = s.out ++ left_out streams; order = s.order }

-- of n streams nothing is read
abbrev pub begun : ℕ → Followed
begun n = record { streams = replicate n []; out = []; order = [] }

-- The least set that holds what was applied before, and each record that was read and is not left out, where its stream
-- and those that it names are read to where its vector asks, and which holds all that starts before that and is not left out.
pub data IsApplied (s : Followed) : Kept → Type 0 where
  before : {r : Kept} → Member r s.order → IsApplied s r
  next : {r : Kept} → Member r (kept_from 0 s.streams) → is_among s.out r ≡ false → AtMost r.place.dep (map read_to s.streams) →
      ((q : Kept) → Member q (kept_from 0 s.streams) → is_among s.out q ≡ false → q.place.start < slice_index r.place.dep q.place.stream → IsApplied s q) → IsApplied s r
