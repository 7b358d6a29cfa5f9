-- The epochs of a log, and the vectors against which its records are judged.
use Rattle.std.specs.Prelude.{ℕ, Bool, true, List, [], ◌∷◌, ◌++◌, Option, Some, None, nat_lt, nat_le, if◌then◌else◌}
use Rattle.tau_base.specs.Vectors.{covers}
use Rattle.tau_record.specs.declared.entry.Entry.{Entry}
use Rattle.tau_record.specs.declared.entry.Entry.TheVariants.{Written, Command, Anchor, Catalogue, Epoch}
use Rattle.tau_record.specs.declared.entry.Placed.{Placed}
use Rattle.tau_epoch.specs.Epochs.{Mark, judging}
use Rattle.tau_epoch.specs.Known.{with_mark}
use Rattle.tau_scan.specs.declared.log.Log.{Log}

-- the mark that the record is, if it is one
abbrev pub mark_of : Entry → List Mark
mark_of (Written number anchor dep writes) = []
mark_of (Command number anchor dep call) = []
mark_of (Anchor lv) = []
mark_of (Catalogue text) = []
mark_of (Epoch number lv) = record { number = number; lv = lv } ∷ []

-- the marks of a stream, in order of their places
abbrev pub marks_in : List Placed → List Mark
marks_in [] = []
marks_in (p ∷ ps) = mark_of p.entry ++ marks_in ps

-- the marks of all streams, one stream after the other
abbrev pub marks_from : List (List Placed) → List Mark
marks_from [] = []
marks_from (ps ∷ streams) = marks_in ps ++ marks_from streams

abbrev pub marks_of : Log → List Mark
marks_of log = marks_from log.streams

-- the vector against which the records of the epoch with this number are judged
abbrev pub judge_of : Log → ℕ → List ℕ
judge_of log k = judging log.elv (marks_of log) k

-- what judges the records of a log: the lengths of its contents, and its known epochs
pub record Judges : Type 0 where
  pub elv : List ℕ
  pub known : List Mark

-- the vector against which they have the records of an epoch judged
abbrev pub vector_by : Judges → ℕ → List ℕ
vector_by judge k = judging judge.elv judge.known k

-- these known epochs with those of the marks whose numbers are not known yet
abbrev pub with_marks : List Mark → List Mark → List Mark
with_marks known [] = known
with_marks known (m ∷ ms) = with_marks (with_mark m known) ms

-- the smaller one
abbrev pub smaller : ℕ → Option ℕ → ℕ
smaller n None = n
smaller n (Some o) = if nat_le n o then n else o

-- the smallest number above k, of those of the marks and this one
abbrev pub least_number : ℕ → List Mark → Option ℕ → Option ℕ
least_number k [] least = least
least_number k (m ∷ ms) least = if nat_lt k m.number then Some (smaller m.number (least_number k ms least)) else least_number k ms least

-- whether the vector of the mark covers these positions; without a mark it does
abbrev pub is_below : List ℕ → Option Mark → Bool
is_below dep None = true
is_below dep (Some m) = covers m.lv dep
