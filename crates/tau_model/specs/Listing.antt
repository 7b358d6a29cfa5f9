-- How the reported history is listed: records first, then each read-only call in front of the record before which it is covered first.
use Rattle.std.specs.Prelude.{ℕ, suc, ◌+◌, ◌≤◌, ◌<◌, ◌==◌, ◌≡◌, Bool, false, cond, List, [], ◌∷◌, ◌++◌, Some, None, length, map, slice_index, slice_index_or, slice_set}
use Rattle.std.specs.List.{filter}
use Rattle.tau_base.specs.Vectors.{AtMost, covers}
use Rattle.tau_model.specs.declared.committed.Committed.{Committed}
use Rattle.tau_model.specs.Logged.{Place}
use Rattle.tau_model.specs.Committed.{place_of}
use Rattle.tau_model.specs.Reported.{take_record, next_start, emitted}

-- what the listing keeps of a call: where its record starts, its number and its vector
pub record Entry : Type 0 where
  pub start : ℕ
  pub number : ℕ
  pub dep : List ℕ

abbrev pub entry_of : Committed → Entry
entry_of c = record { start = (place_of c).start; number = c.number; dep = (place_of c).dep }

abbrev pub entry_number : Entry → ℕ
entry_number e = e.number

abbrev pub entry_start : Entry → ℕ
entry_start e = e.start

-- the listing knows no more of its place
abbrev pub entry_place : Entry → Place
entry_place e = record { stream = 0; start = e.start; past = 0; dep = e.dep }

abbrev pub covered_by : List ℕ → Entry → Bool
covered_by v e = covers v e.dep

-- the records of a stream that ends here, in the order of their starts
abbrev pub IsQueue : ℕ → List Entry → Type 0
IsQueue end [] = Unit {0}
IsQueue end (e ∷ es) = (e.start ≤ next_start entry_place es end) × IsQueue end es

-- the records of each stream
pub record AreQueues (ends : List ℕ) (streams : List (List Entry)) : Type 0 where
  pub count : length streams ≡ length ends
  pub each : (j : ℕ) → IsQueue (slice_index ends j) (slice_index_or streams j [])

-- whether there is a first element, and it passes
abbrev pub first_passes : {A : Type 0} → (A → Bool) → List A → Bool
first_passes p [] = false
first_passes p (x ∷ xs) = p x

-- the next record of this stream is the one that is listed next
pub record IsNext (v : List ℕ) (streams : List (List Entry)) (j : ℕ) : Type 0 where
  pub entry : Entry
  pub rest : List Entry
  pub within : j < length streams
  pub front : slice_index_or streams j [] ≡ entry ∷ rest
  pub taken : take_record (covered_by v) streams ≡ Some (entry, slice_set streams j rest)

-- how many records are left
abbrev pub lengths : {A : Type 0} → List (List A) → ℕ
lengths [] = 0
lengths (s ∷ streams) = length s + lengths streams

-- the record with this number is listed next, which leaves these records, and raises what is emitted
pub record IsListed (ends : List ℕ) (streams left : List (List Entry)) (before after : List ℕ) (number : ℕ) : Type 0 where
  pub entry : Entry
  pub taken : take_record (covered_by before) streams ≡ Some (entry, left)
  pub is : number ≡ entry.number
  pub queues : AreQueues ends left
  pub emitted_is : after ≡ emitted entry_place left ends
  pub fewer : lengths left < lengths streams

-- the records with these numbers are listed from these streams one after another until none is covered, and this is emitted before each of them and after the last
abbrev pub IsListing : List ℕ → List (List Entry) → List (List ℕ) → List ℕ → Type 0
IsListing ends streams [] numbers = ⊥
IsListing ends streams (v ∷ reached) [] = (v ≡ emitted entry_place streams ends) × (reached ≡ []) × (take_record (covered_by v) streams ≡ None)
IsListing ends streams (v ∷ reached) (n ∷ numbers) = (v ≡ emitted entry_place streams ends) ×
    ((e : Entry) × (rest : List (List Entry)) × (take_record (covered_by v) streams ≡ Some (e, rest)) × (n ≡ e.number) × IsListing ends rest reached numbers)

-- the records with these numbers are listed from these streams one after another until none is covered
abbrev pub AreListed : List ℕ → List (List Entry) → List ℕ → Type 0
AreListed ends streams numbers = (reached : List (List ℕ)) × IsListing ends streams reached numbers

-- the place of the first of these vectors that covers the dep, or their count
abbrev pub slot_of : List (List ℕ) → List ℕ → ℕ
slot_of [] dep = 0
slot_of (v ∷ reached) dep = cond (covers v dep) 0 (suc (slot_of reached dep))

-- the numbers of the calls with this slot
abbrev pub bucket : List (List ℕ) → List Entry → ℕ → List ℕ
bucket reached readers k = map entry_number (filter (λ e. slot_of reached e.dep == k) readers)

-- each bucket, and after each but the last the next record
abbrev pub woven : List (List ℕ) → List ℕ → List ℕ
woven [] numbers = []
woven (b ∷ buckets) [] = b
woven (b ∷ buckets) (n ∷ numbers) = b ++ n ∷ woven buckets numbers

-- these vectors only rise
abbrev pub AreRising : List (List ℕ) → Type 0
AreRising reached = (i j : ℕ) → i ≤ j → j < length reached → AtMost (slice_index_or reached i []) (slice_index_or reached j [])
