-- The measured job: the generated calls are run on new disks and recovered from them, and what is told is a function of
-- the first row and of how many calls there are.
use Rattle.std.specs.Prelude.{ℕ, pos, ◌<◌, ◌≡◌, false, Some, None, Ok, List, [], ◌∷◌, ◌++◌, codes, length, take, map}
use Rattle.std.specs.List.{filter, sum_by}
use Rattle.std.specs.Prelude.{◌==◌}
use Rattle.std.specs.Fmt.{decimal}
use Rattle.sha2.specs.Sha256.{sha256}
use Rattle.hex.specs.Hex.{encode_lower}
use Rattle.tau_base.specs.declared.format.Format.TheVariants.{One}
use Rattle.tau_base.specs.declared.value.Key.{Key}
use Rattle.tau_base.specs.declared.value.Value.{Value}
use Rattle.tau_base.specs.declared.value.Value.TheVariants.{Int}
use Rattle.tau_base.specs.declared.value.LogMode.TheVariants.{Values}
use Rattle.tau_disk.specs.declared.disk.Disk.{Ghosts}
use Rattle.tau_disk.specs.declared.memory.MemDisk.{MemDisk}
use Rattle.tau_disk.specs.Memory.{seen_by}
use Rattle.tau_stream.specs.declared.writer.Writer.{Writer}
use Rattle.tau_stream.specs.Writer.{disk_of}
use Rattle.tau_model.specs.Tables.{IsTablesOf}
use Rattle.tau_occ.specs.declared.style.Style.TheVariants.{Locking}
use Rattle.tau_text.specs.declared.load.Workload.{Workload}
use Rattle.tau_gen.specs.Generated.{generated}
use Rattle.tau_gen.specs.Sums.{rows_of}
use Rattle.tau_report.specs.declared.report.RunEnd.{RunEnd}
use Rattle.tau_report.specs.Lines.{line, end_line}
use Rattle.tau_report.specs.Report.{row_lines}
use Rattle.tau_run.specs.Gives.{GaveNew}
use Rattle.tau_run.specs.Run.{AllAcked, last_db}
use Rattle.tau_scan.specs.declared.log.Log.{Log}
use Rattle.tau_scan.specs.Reading.{log_of}
use Rattle.tau_replay.specs.Redone.{IsRedone}
use Rattle.tau_engine.specs.Drill.{IsRehearsed}
use Rattle.tau_engine.specs.Runs.{ran_by}
use Rattle.tau_commands.specs.declared.status.Status.{Status}
use Rattle.tau_commands.specs.declared.status.Status.TheVariants as status

-- ---- what it tells

-- the number of a row; what calls add is above 0, so no number of a row is below
abbrev pub number_in : Value → ℕ
number_in (Int (pos n)) = n
number_in _ = 0

-- the sum of the numbers of all rows
abbrev pub sum_of : List (Key × Value) → ℕ
sum_of rows = sum_by (λ (r : Key × Value). number_in r.1) rows

-- the digest of the lines of the rows, in lower-case digits
abbrev pub digest_of : List (List ℕ) → List (Key × Value) → List ℕ
digest_of tables rows = encode_lower (sha256 (row_lines tables rows))

-- a line of a word and a number
abbrev pub number_line : List ℕ → ℕ → List ℕ
number_line word number = line (word ∷ decimal number ∷ [])

-- how many calls there are, how many were acknowledged, how many rows they left, and the sum of these
abbrev pub count_lines : ℕ → ℕ → ℕ → ℕ → List ℕ
count_lines calls acked rows sum = number_line (codes "calls") calls ++ number_line (codes "acked") acked ++ number_line (codes "rows") rows ++ number_line (codes "sum") sum

-- the digests of the rows of the run and of those that recovery found, and the end
abbrev pub digest_lines : List ℕ → List ℕ → List ℕ
digest_lines tables recovered = line (codes "tables" ∷ tables ∷ []) ++ line (codes "recovered" ∷ recovered ∷ []) ++ end_line None

abbrev pub measured_text : List (List ℕ) → ℕ → ℕ → List (Key × Value) → List (Key × Value) → List ℕ
measured_text tables calls acked rows recovered = count_lines calls acked (length rows) (sum_of rows) ++ digest_lines (digest_of tables rows) (digest_of tables recovered)

-- what the measured job tells of so many calls whose rows begin there
abbrev pub bench_text : ℕ → ℕ → List ℕ
bench_text start calls = measured_text (generated start calls).declarations.tables calls calls (rows_of start calls) (rows_of start calls)

-- what it has written, by its answer
abbrev pub BenchTells : ℕ → ℕ → (List ℕ → Type 0) → Status → Type 0
BenchTells start calls wrote status.Ok = wrote (bench_text start calls)
BenchTells start calls wrote status.WriteFault = (k : ℕ) × (k < length (bench_text start calls)) × wrote (take k (bench_text start calls))
BenchTells start calls wrote status.NoMemory = wrote []
BenchTells start calls wrote other = Unit {0}

-- ---- its run

-- the run on these writers went to its end, no disk and no sink failed, and these are its rows
pub record PlaysWell {D : Type 0} {G : Ghosts D} (m : ℕ) (load : Workload) (ws : List (Writer D G)) (rest now : List D) (hears : Type 0) (held held' : List ℕ) (rose : Type 0) (rows : List (Key × Value)) : Type 0 where
  pub after : List (Writer D G)
  pub back : now ≡ map disk_of after ++ rest
  pub end : RunEnd
  pub ran : GaveNew (ran_by load.turns Locking (length ws) m load) m Values load ws after hears held held' rose (Ok end)
  pub heard : end.sink_failed ≡ false
  pub whole : end.disk ≡ None
  pub rows_are : end.report.tables ≡ rows

-- The run of the workload on these disks, of which none failed: each call is acknowledged, and these are the rows of
-- its history.
pub record IsMeasured {D : Type 0} (G : Ghosts D) (n m : ℕ) (load : Workload) (old new : List D) (wrote : List ℕ → Type 0) (rows : List (Key × Value)) : Type 0 where
  pub rehearsed : IsRehearsed G n m load old new wrote
  pub all : AllAcked load rehearsed.facts.run
  pub present : IsTablesOf (last_db load rehearsed.facts.run) rows

-- how many lines there are
abbrev pub lines_in : List ℕ → ℕ
lines_in text = length (filter (λ b. b == 10) text)

-- these are the rows that redoing the log of these disks, which is in format 1, gives
pub record AreFound (disks : List MemDisk) (rows : List (Key × Value)) : Type 0 where
  pub log : Log
  pub reads : log_of (Some One) (map seen_by disks) ≡ Ok log
  pub redone : IsRedone log rows
