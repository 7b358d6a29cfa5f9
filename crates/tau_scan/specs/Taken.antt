-- Which records of a log recovery takes.
use Rattle.std.specs.Prelude.{ℕ, suc, Bool, false, List, [], ◌∷◌, ◌++◌, take, Option, Some, None, slice_get}
use Rattle.std.specs.List.{filter}
use Rattle.tau_base.specs.Vectors.{covers}
use Rattle.tau_model.specs.Logged.{Place}
use Rattle.tau_model.specs.Redo.{Content, Written as Writes, Command as Executes}
use Rattle.tau_record.specs.declared.entry.Entry.{Entry}
use Rattle.tau_record.specs.declared.entry.Entry.TheVariants.{Written, Command, Anchor, Catalogue, Epoch}
use Rattle.tau_record.specs.declared.entry.Placed.{Placed}
use Rattle.tau_record.specs.Record.{epoch_after}
use Rattle.tau_record.specs.Content.{last_epoch}
use Rattle.tau_scan.specs.declared.log.Log.{Log}
use Rattle.tau_scan.specs.Epochs.{judge_of}

-- whether it is a data or command record whose vector this judging vector covers
abbrev pub is_taken_by : List ℕ → Entry → Bool
is_taken_by judge (Written number anchor dep writes) = covers judge dep
is_taken_by judge (Command number anchor dep call) = covers judge dep
is_taken_by judge (Anchor lv) = false
is_taken_by judge (Catalogue text) = false
is_taken_by judge (Epoch number lv) = false

abbrev pub is_taken_one : List ℕ → Option Placed → Bool
is_taken_one judge None = false
is_taken_one judge (Some p) = is_taken_by judge p.entry

-- whether the record at this index is taken, where the records of each epoch are judged by its vector; that of a record is
-- the last one before it
abbrev pub is_taken_in : (ℕ → List ℕ) → Option (List Placed) → ℕ → Bool
is_taken_in judge None i = false
is_taken_in judge (Some ps) i = is_taken_one (judge (last_epoch 0 (take i ps))) (slice_get ps i)

-- whether recovery takes the record at this index of the stream
abbrev pub is_taken_at : Log → ℕ → ℕ → Bool
is_taken_at log j i = is_taken_in (judge_of log) (slice_get log.streams j) i

-- a data or command record: the number of its call, its place, and what it holds
pub record Kept : Type 0 where
  pub number : ℕ
  pub place : Place
  pub content : Content

abbrev pub kept_as : ℕ → Placed → Entry → List Kept
kept_as j p (Written number anchor dep writes) = record { number = number; place = record { stream = j; start = p.start; past = p.past; dep = dep }; content = Writes writes } ∷ []
kept_as j p (Command number anchor dep call) = record { number = number; place = record { stream = j; start = p.start; past = p.past; dep = dep }; content = Executes call } ∷ []
kept_as j p (Anchor lv) = []
kept_as j p (Catalogue text) = []
kept_as j p (Epoch number lv) = []

-- the data and command records of a stream, in order of their places
abbrev pub kept_in : ℕ → List Placed → List Kept
kept_in j [] = []
kept_in j (p ∷ ps) = kept_as j p p.entry ++ kept_in j ps

-- those of all streams from this number on
abbrev pub kept_from : ℕ → List (List Placed) → List Kept
kept_from j [] = []
kept_from j (ps ∷ streams) = kept_in j ps ++ kept_from (suc j) streams

-- the taken records of a stream after an epoch with number k: those whose vector that of their epoch covers
abbrev pub taken_in : (ℕ → List ℕ) → ℕ → ℕ → List Placed → List Kept
taken_in judge j k [] = []
taken_in judge j k (p ∷ ps) = filter (λ r. covers (judge k) r.place.dep) (kept_as j p p.entry) ++ taken_in judge j (epoch_after k p.entry) ps

-- those of all streams from this number on
abbrev pub taken_from : (ℕ → List ℕ) → ℕ → List (List Placed) → List Kept
taken_from judge j [] = []
taken_from judge j (ps ∷ streams) = taken_in judge j 0 ps ++ taken_from judge (suc j) streams

-- the taken records, by stream and place: those whose vector the judging vector of their epoch covers
abbrev pub taken : Log → List Kept
taken log = taken_from (judge_of log) 0 log.streams
