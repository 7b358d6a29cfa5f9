-- Empty contents hold a sound log.
use Rattle.std.proofs.Common.{ℕ, zero, suc, ◌≡◌, List, [], ◌∷◌, map, length, replicate, Result, Ok, refl, sym, ap, subst, ◌∙◌}
use Rattle.std.specs.Prelude.{None}
use Rattle.tau_base.specs.Database.{empty_db}
use Rattle.tau_base.specs.declared.format.Format.{Format}
use Rattle.tau_model.specs.History.{Member, Reordered}
use Rattle.tau_epoch.specs.Epochs.{Mark}
use Rattle.tau_record.specs.declared.entry.Placed.{Placed}
use Rattle.tau_record.specs.Content.{records_at, content_at}
use Rattle.tau_scan.specs.declared.fault.LogFault.{LogFault}
use Rattle.tau_scan.specs.Epochs.{marks_from, judge_of}
use Rattle.tau_scan.specs.Reading.{◌>>=◌, in_front, each_from, catalogue_of, none_declared, first_undeclared, records_of, recorded, catalogue_from, catalogue_in, declared_in, streams_of, log_of_contents}
use Rattle.tau_scan.specs.Taken.{Kept, taken}
use Rattle.tau_scan.proofs.Marks.{no_epoch_fault}
use Rattle.tau_epoch_laws.specs.Continues.{none_in}
use Rattle.tau_scan.specs.Sound.{fresh_log, redo_in}
use Rattle.tau_epoch_laws.specs.Laws.{FreshSound}
use Rattle.tau_epoch_laws.proofs.Stays.{none_taken}

nothing_read : (f : Format) (n : ℕ) → records_of f n [] ≡ Ok []
unfolding records_of content_at records_at first_undeclared
nothing_read f n = refl

each_empty : (f : Format) (m j n : ℕ) → each_from (λ j content. recorded j (records_of f m content)) j (replicate n []) ≡ Ok (replicate n [])
each_empty f m j zero = refl
each_empty f m j (suc n) =
    ap (λ (r : Result (List Placed) LogFault). r >>= λ y. in_front y (each_from (λ j content. recorded j (records_of f m content)) (suc j) (replicate n []))) (ap (recorded j) (nothing_read f m))
    ∙ ap (λ (r : Result (List (List Placed)) LogFault). in_front [] r) (each_empty f m (suc j) n)

streams_empty : (f : Format) (n : ℕ) → streams_of f (replicate n []) ≡ Ok (replicate n [])
unfolding streams_of
streams_empty f n = each_empty f (length (replicate n [])) 0 n

pub none_of : (j n : ℕ) → catalogue_from j (map catalogue_of (replicate n [])) ≡ Ok None
none_of j zero = refl
none_of j (suc n) = none_of (suc j) n

declared_empty : (n : ℕ) → declared_in (replicate n []) ≡ Ok none_declared
unfolding declared_in catalogue_in
declared_empty n = rw (none_of 0 n) refl

no_marks : (n : ℕ) → marks_from (replicate n []) ≡ []
no_marks zero = refl
no_marks (suc n) = no_marks n

abbrev no_contents : ℕ → List (List ℕ)
no_contents n = replicate n []

lengths : (n : ℕ) → map length (no_contents n) ≡ replicate n 0
lengths zero = refl
lengths (suc n) = ap (λ (l : List ℕ). 0 ∷ l) (lengths n)

none_there : (n : ℕ) → none_in (replicate n [])
none_there zero = tt
none_there (suc n) = (refl, none_there n)

reads : (f : Format) (n : ℕ) → log_of_contents f (replicate n []) ≡ Ok (fresh_log n)
reads f n = rw (streams_empty f n, declared_empty n, no_epoch_fault (replicate n []) (no_marks n), lengths n) refl

pub fresh_sound : FreshSound
fresh_sound f n =
    let nothing : taken (fresh_log n) ≡ [] = none_taken (judge_of (fresh_log n)) 0 (replicate n []) (none_there n) in
    record {
      reads = reads f n;
      fit = λ m h. absurd (subst (λ (l : List Mark). Member m l) (no_marks n) h);
      redone = record {
        ordered = ([], record { each_once = subst (λ (l : List Kept). Reordered l []) (sym nothing) refl; orderly = tt });
        alike = λ order is.
            (let empty : order ≡ [] = subst (λ (l : List Kept). Reordered l order) nothing is.each_once in
            ap (λ (l : List Kept). redo_in (fresh_log n) l empty_db) empty);
      };
    }
