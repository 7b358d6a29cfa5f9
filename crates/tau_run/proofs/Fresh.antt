-- A run on streams that hold nothing.
use Rattle.std.proofs.Common.{ℕ, zero, suc, ◌≡◌, inl, List, [], ◌∷◌, map, length, replicate, refl, sym, ap, ◌∙◌, arith}
use Rattle.std.specs.Prelude.{slice_index_or}
use Rattle.std.specs.List.{AllZip}
use Rattle.std.proofs.lemmas.List.{append-nil, length-replicate}
use Rattle.tau_base.specs.declared.format.Format.{Format}
use Rattle.tau_base.specs.declared.value.LogMode.{LogMode}
use Rattle.tau_model.specs.Tables.{db_of_rows}
use Rattle.tau_text.specs.declared.load.Workload.{Workload}
use Rattle.tau_record.specs.declared.entry.Placed.{Placed}
use Rattle.tau_record.specs.Vector.{ArePlaces}
use Rattle.tau_record.specs.Content.{anchors_of}
use Rattle.tau_core.specs.declared.state.Load.{Load}
use Rattle.tau_core.specs.Opens.{IsFresh}
use Rattle.tau_scan.specs.Reading.{first_undeclared, IsReading}
use Rattle.tau_scan.specs.Sound.{IsSound}
use Rattle.tau_epoch_laws.specs.Continues.{none_in}
use Rattle.tau_epoch_laws.proofs.Fresh.{fresh_sound}
use Rattle.tau_run.specs.Start.{fresh_start, catalogue_of, opened_with, old_at, opened_at, IsStart}
use Rattle.tau_run.specs.CoreRun.{IsLoadOn}

pub none_there : (n : ℕ) → none_in (replicate n [])
none_there zero = tt
none_there (suc n) = (refl, none_there n)

zeros_are : (n : ℕ) → ArePlaces (replicate n 0)
zeros_are zero = tt
zeros_are (suc n) = (omega arith, zeros_are n)

reads_nothing : (f : Format) (n : ℕ) → IsReading f n [] []
unfolding first_undeclared
reads_nothing f n = record { spelled = refl; declared = refl }

zip_nothing : (f : Format) (n k : ℕ) → AllZip (IsReading f n) (replicate k []) (replicate k [])
zip_nothing f n zero = tt
zip_nothing f n (suc k) = (reads_nothing f n, zip_nothing f n k)

-- a run may begin on them
pub fresh_begins : (f : Format) (n : ℕ) (load : Workload) → IsStart f n load (fresh_start n)
fresh_begins f n load =
    let s = fresh_sound f n in
    let first = s.redone.ordered in
    record {
      count = length-replicate n [];
      reads = s.reads;
      read = zip_nothing f n n;
      redone = (first.0, first.1, s.redone.alike first.0 first.1);
      declared = inl (none_there n);
      epoch = inl (none_there n, refl);
      small = omega arith;
      places = zeros_are n;
    }

pub fresh_is_sound : (f : Format) (n : ℕ) → IsSound f (fresh_start n).old (fresh_start n).log (fresh_start n).base
fresh_is_sound f n = fresh_sound f n

empty_at : (n j : ℕ) → slice_index_or {A = List ℕ} (replicate n []) j [] ≡ []
empty_at zero j = refl
empty_at (suc n) zero = refl
empty_at (suc n) (suc j) = empty_at n j

-- they held nothing, and are given the catalogue alone
pub fresh_olds : (n : ℕ) → old_at (fresh_start n) ≡ λ j. []
fresh_olds n = λ i j. empty_at n j i

pub fresh_opened : (n : ℕ) (load : Workload) → opened_at load (fresh_start n) ≡ λ j. catalogue_of load
fresh_opened n load = λ i j. (ap (opened_with load (fresh_start n)) (empty_at n j) ∙ append-nil (catalogue_of load)) i

ends_are : (load : Workload) (n k : ℕ) → replicate k (length (catalogue_of load)) ≡ map (λ (old : List ℕ). length (opened_with load (fresh_start n) old)) (replicate k [])
ends_are load n zero = refl
ends_are load n (suc k) =
    let one : length (catalogue_of load) ≡ length (opened_with load (fresh_start n) []) = sym (ap length (append-nil (catalogue_of load))) in
    λ i. one i ∷ ends_are load n k i

anchors_are : (k : ℕ) → replicate k 0 ≡ map (λ (ps : List Placed). length (anchors_of ps)) (replicate k [])
anchors_are zero = refl
anchors_are (suc k) = ap (λ (xs : List ℕ). 0 ∷ xs) (anchors_are k)

-- what a core stands on that was opened on them
pub fresh_load : (n m : ℕ) (mode : LogMode) (load : Workload) (l : Load) → l.procs ≡ load.declarations.procs → l.calls ≡ load.calls → l.mode ≡ mode → l.workers ≡ m → l.streams ≡ n → IsFresh n (length (catalogue_of load)) l.opening →
    IsLoadOn n m mode load (fresh_start n) l
fresh_load n m mode load l procs calls mode_is workers streams fresh = record {
  procs = procs;
  calls = calls;
  mode_is = mode_is;
  workers = workers;
  streams = streams;
  opening = record { rows = ap db_of_rows fresh.rows; floor = fresh.floor; ends = fresh.ends ∙ ends_are load n n; anchors = fresh.anchors ∙ anchors_are n };
}
