-- What an inspection tells of a log: the end-of-log vector, and each record by stream and place.
use Rattle.std.specs.Prelude.{ℕ, suc, ◌<◌, ◌≤◌, ◌≡◌, ◌↔◌, true, List, [], ◌∷◌, ◌++◌, codes, Option, Some, None, nat_le, slice_index, if◌then◌else◌}
use Rattle.std.specs.Fmt.{decimal}
use Rattle.tau_base.specs.Vectors.{covers}
use Rattle.tau_record.specs.declared.entry.Entry.{Entry}
use Rattle.tau_record.specs.declared.entry.Entry.TheVariants.{Written, Command, Anchor, Catalogue, Epoch}
use Rattle.tau_record.specs.declared.entry.Placed.{Placed}
use Rattle.tau_record.specs.Record.{epoch_after}
use Rattle.tau_scan.specs.declared.log.Log.{Log}
use Rattle.tau_scan.specs.Epochs.{judge_of}
use Rattle.tau_report.specs.Lines.{line, vector_text, end_line}
use Rattle.tau_report.specs.Recovery.{elv_line}

-- the first of these components, which begin with number j, that a judging vector does not cover
abbrev pub uncovered_from : ℕ → List ℕ → List ℕ → Option ℕ
uncovered_from j judge [] = None
uncovered_from j judge (a ∷ dep) = if nat_le a (slice_index judge j) then uncovered_from (suc j) judge dep else Some j

-- the lowest component of a vector that the judging vector does not cover
abbrev pub lowest_uncovered : List ℕ → List ℕ → Option ℕ
lowest_uncovered judge dep = uncovered_from 0 judge dep

abbrev pub judged_words : Option ℕ → List (List ℕ)
judged_words None = codes "taken" ∷ []
judged_words (Some j) = codes "out" ∷ decimal j ∷ []

-- the record's stream and place
abbrev pub place_words : List ℕ → ℕ → Placed → List (List ℕ) → List (List ℕ)
place_words word j p words = word ∷ decimal j ∷ decimal p.start ∷ decimal p.past ∷ words

abbrev pub call_words : List ℕ → List ℕ → ℕ → Placed → ℕ → List ℕ → List (List ℕ)
call_words word judge j p number dep = place_words word j p (decimal number ∷ vector_text dep ∷ judged_words (lowest_uncovered judge dep))

-- a record of stream j, that is judged against this vector
abbrev pub record_words : List ℕ → ℕ → Placed → Entry → List (List ℕ)
record_words judge j p (Written number anchor dep writes) = call_words (codes "data") judge j p number dep
record_words judge j p (Command number anchor dep call) = call_words (codes "command") judge j p number dep
record_words judge j p (Anchor lv) = place_words (codes "anchor") j p (vector_text lv ∷ [])
record_words judge j p (Catalogue text) = place_words (codes "catalogue") j p []
record_words judge j p (Epoch number lv) = place_words (codes "epoch") j p (decimal number ∷ vector_text lv ∷ [])

abbrev pub record_line : List ℕ → ℕ → Placed → List ℕ
record_line judge j p = line (record_words judge j p p.entry)

-- the records of a stream after an epoch with number k
abbrev pub stream_lines : (ℕ → List ℕ) → ℕ → ℕ → List Placed → List ℕ
stream_lines judge j k [] = []
stream_lines judge j k (p ∷ ps) = record_line (judge k) j p ++ stream_lines judge j (epoch_after k p.entry) ps

-- those of all streams from this number on
abbrev pub streams_lines : (ℕ → List ℕ) → ℕ → List (List Placed) → List ℕ
streams_lines judge j [] = []
streams_lines judge j (ps ∷ streams) = stream_lines judge j 0 ps ++ streams_lines judge (suc j) streams

abbrev pub inspect_text : Log → List ℕ
inspect_text log = elv_line log.elv ++ streams_lines (judge_of log) 0 log.streams ++ end_line None

-- of a vector that is covered no component is told; else the one that is told is above the judging vector, and each lower one is not
pub record TellsLowest (judge dep : List ℕ) : Type 0 where
  pub taken : (covers judge dep ≡ true) ↔ (lowest_uncovered judge dep ≡ None)
  pub lowest : (j : ℕ) → lowest_uncovered judge dep ≡ Some j → (slice_index judge j < slice_index dep j) × ((i : ℕ) → i < j → slice_index dep i ≤ slice_index judge i)

-- An inspection tells a record as taken exactly if recovery takes it, and else the lowest component that is not covered.
abbrev pub UncoveredIsLowest : Type 0
UncoveredIsLowest = (judge dep : List ℕ) → TellsLowest judge dep
