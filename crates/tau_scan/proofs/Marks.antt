-- Marks of records and streams, one record or stream more at a time.
use Rattle.std.proofs.Common.{ℕ, zero, suc, ◌+◌, ◌≤◌, ◌≡◌, List, [], ◌∷◌, ◌++◌, take, drop, length, refl, ap, ◌∙◌, add-one}
use Rattle.std.specs.Prelude.{Option, Some, None, slice_get}
use Rattle.std.proofs.lemmas.List.{drop_all}
use Rattle.tau_base.proofs.Lists.{drop_at}
use Rattle.tau_epoch.specs.Epochs.{Mark}
use Rattle.tau_epoch.specs.Known.{vector_of}
use Rattle.tau_record.specs.declared.entry.Placed.{Placed}
use Rattle.tau_record.specs.Record.{epoch_after}
use Rattle.tau_record.specs.Content.{last_epoch}
use Rattle.tau_scan.specs.declared.fault.LogFault.{LogFault}
use Rattle.tau_scan.specs.declared.fault.LogRefusal.{LogRefusal}
use Rattle.tau_scan.specs.declared.fault.LogRefusal.TheVariants as refusals
use Rattle.tau_scan.specs.Epochs.{mark_of, marks_in, marks_from, with_marks, least_number}
use Rattle.tau_scan.specs.Reading.{unless, or_else, marks_fault, epochs_fault, epoch_fault}
use Rattle.tau_scan.specs.Found.{Lost, IsFault}
use Rattle.tau_scan.proofs.Known.{first_of, vector_append, with_marks_append, least_append}

pub marks_here : (ps : List Placed) (i : ℕ) (p : Placed) → slice_get ps i ≡ Some p → marks_in (drop i ps) ≡ mark_of p.entry ++ marks_in (drop (i + 1) ps)
marks_here ps i p here = rw (drop_at ps i p here, add-one i) refl

pub streams_here : (streams : List (List Placed)) (j : ℕ) (ps : List Placed) → slice_get streams j ≡ Some ps → marks_from (drop j streams) ≡ marks_in ps ++ marks_from (drop (j + 1) streams)
streams_here streams j ps here = rw (drop_at streams j ps here, add-one j) refl

-- ---- known epochs

pub known_more : (known : List Mark) (ps : List Placed) (i : ℕ) (p : Placed) → slice_get ps i ≡ Some p → with_marks known (marks_in (drop i ps)) ≡ with_marks (with_marks known (mark_of p.entry)) (marks_in (drop (i + 1) ps))
known_more known ps i p here = ap (with_marks known) (marks_here ps i p here) ∙ with_marks_append known (mark_of p.entry) (marks_in (drop (i + 1) ps))

pub known_stream : (known : List Mark) (streams : List (List Placed)) (j : ℕ) (ps : List Placed) → slice_get streams j ≡ Some ps →
    with_marks known (marks_from (drop j streams)) ≡ with_marks (with_marks known (marks_in ps)) (marks_from (drop (j + 1) streams))
known_stream known streams j ps here = ap (with_marks known) (streams_here streams j ps here) ∙ with_marks_append known (marks_in ps) (marks_from (drop (j + 1) streams))

-- ---- the vector of a number

pub vector_here : (number : ℕ) (ps : List Placed) (i : ℕ) (p : Placed) (v : List ℕ) → slice_get ps i ≡ Some p → vector_of number (mark_of p.entry) ≡ Some v → vector_of number (marks_in (drop i ps)) ≡ Some v
vector_here number ps i p v here is =
    ap (vector_of number) (marks_here ps i p here) ∙ vector_append number (mark_of p.entry) (marks_in (drop (i + 1) ps)) ∙ ap (λ (o : Option (List ℕ)). first_of o (vector_of number (marks_in (drop (i + 1) ps)))) is

pub no_vector_here : (number : ℕ) (ps : List Placed) (i : ℕ) (p : Placed) → slice_get ps i ≡ Some p → vector_of number (mark_of p.entry) ≡ None → vector_of number (marks_in (drop i ps)) ≡ vector_of number (marks_in (drop (i + 1) ps))
no_vector_here number ps i p here is =
    ap (vector_of number) (marks_here ps i p here) ∙ vector_append number (mark_of p.entry) (marks_in (drop (i + 1) ps)) ∙ ap (λ (o : Option (List ℕ)). first_of o (vector_of number (marks_in (drop (i + 1) ps)))) is

pub no_vector_left : (number : ℕ) (ps : List Placed) (i : ℕ) → length ps ≤ i → vector_of number (marks_in (drop i ps)) ≡ None
no_vector_left number ps i le = ap (λ (qs : List Placed). vector_of number (marks_in qs)) (drop_all i ps le)

pub vector_there : (number : ℕ) (streams : List (List Placed)) (j : ℕ) (ps : List Placed) (v : List ℕ) → slice_get streams j ≡ Some ps → vector_of number (marks_in ps) ≡ Some v → vector_of number (marks_from (drop j streams)) ≡ Some v
vector_there number streams j ps v here is =
    ap (vector_of number) (streams_here streams j ps here) ∙ vector_append number (marks_in ps) (marks_from (drop (j + 1) streams)) ∙ ap (λ (o : Option (List ℕ)). first_of o (vector_of number (marks_from (drop (j + 1) streams)))) is

pub no_vector_there : (number : ℕ) (streams : List (List Placed)) (j : ℕ) (ps : List Placed) → slice_get streams j ≡ Some ps → vector_of number (marks_in ps) ≡ None →
    vector_of number (marks_from (drop j streams)) ≡ vector_of number (marks_from (drop (j + 1) streams))
no_vector_there number streams j ps here is =
    ap (vector_of number) (streams_here streams j ps here) ∙ vector_append number (marks_in ps) (marks_from (drop (j + 1) streams)) ∙ ap (λ (o : Option (List ℕ)). first_of o (vector_of number (marks_from (drop (j + 1) streams)))) is

pub no_vector_more : (number : ℕ) (streams : List (List Placed)) (j : ℕ) → length streams ≤ j → vector_of number (marks_from (drop j streams)) ≡ None
no_vector_more number streams j le = ap (λ (qs : List (List Placed)). vector_of number (marks_from qs)) (drop_all j streams le)

-- ---- the lowest stream with a number

-- ---- the first fault

pub fault_lost : {A : Type 0} (e : LogRefusal) (found : Option LogFault) (x : A) → IsFault e found → Lost e (unless found x)
fault_lost refusals.NoMemory found x is = tt
fault_lost (refusals.Bad fault) found x is = rw is refl

-- ---- the number of an epoch

epoch_next : (ps : List Placed) (k i : ℕ) (p : Placed) → slice_get ps i ≡ Some p → last_epoch k (take (suc i) ps) ≡ epoch_after (last_epoch k (take i ps)) p.entry
epoch_next [] k i p here = absurd cc
epoch_next (q ∷ ps) k zero p here = (let same : q ≡ p = cc in ap (λ (z : Placed). epoch_after k z.entry) same)
epoch_next (q ∷ ps) k (suc i) p here = epoch_next ps (epoch_after k q.entry) i p here

pub epoch_more : (ps : List Placed) (k i : ℕ) (p : Placed) → slice_get ps i ≡ Some p → last_epoch k (take (i + 1) ps) ≡ epoch_after (last_epoch k (take i ps)) p.entry
epoch_more ps k i p here = ap (λ (n : ℕ). last_epoch k (take n ps)) (add-one i) ∙ epoch_next ps k i p here

-- ---- the least number

pub least_there : (above : ℕ) (streams : List (List Placed)) (j : ℕ) (ps : List Placed) (o : Option ℕ) → slice_get streams j ≡ Some ps →
    least_number above (marks_from (drop j streams)) o ≡ least_number above (marks_in ps) (least_number above (marks_from (drop (j + 1) streams)) o)
least_there above streams j ps o here = ap (λ (ms : List Mark). least_number above ms o) (streams_here streams j ps here) ∙ least_append above (marks_in ps) (marks_from (drop (j + 1) streams)) o

-- ---- streams without marks

pub none_first : {A : Type 0} (xs ys : List A) → xs ++ ys ≡ [] → xs ≡ []
none_first [] ys none = refl
none_first (x ∷ xs) ys none = absurd cc

pub none_second : {A : Type 0} (xs ys : List A) → xs ++ ys ≡ [] → ys ≡ []
none_second [] ys none = none
none_second (x ∷ xs) ys none = absurd cc

no_faults : (streams : List (List Placed)) (j : ℕ) (rest : List (List Placed)) → marks_from rest ≡ [] → epochs_fault streams j rest ≡ None
no_faults streams j [] none = refl
no_faults streams j (ps ∷ rest) none =
    ap (λ (ms : List Mark). or_else (marks_fault streams j ms) (epochs_fault streams (suc j) rest)) (none_first (marks_in ps) (marks_from rest) none)
    ∙ no_faults streams (suc j) rest (none_second (marks_in ps) (marks_from rest) none)

pub no_epoch_fault : (streams : List (List Placed)) → marks_from streams ≡ [] → epoch_fault streams ≡ None
unfolding epoch_fault
no_epoch_fault streams none = no_faults streams 0 streams none

-- streams of which none has a mark
pub no_marks : (streams : List (List Placed)) → ((i : ℕ) (ps : List Placed) → slice_get streams i ≡ Some ps → marks_in ps ≡ []) → marks_from streams ≡ []
no_marks [] all = refl
no_marks (ps ∷ streams) all = ap (λ (ms : List Mark). ms ++ marks_from streams) (all 0 ps refl) ∙ no_marks streams (λ i qs at. all (suc i) qs at)
