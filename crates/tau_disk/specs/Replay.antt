-- A disk by its calls.
use Rattle.std.specs.Prelude.{◌≡◌, ◌⊎◌, ℕ, zero, suc, ◌+◌, ◌<◌, ◌≤◌, max, List, [], ◌∷◌, ◌++◌, length, take, drop, replicate, slice_index, Bool, false, ◌||◌, ◌==◌, nat_le, Option, Some, None}
use Rattle.std.specs.List.{list_any}
use Rattle.std.proofs.Common.{inr, arith}
use Rattle.tau_disk.specs.declared.call.DiskCall.{DiskCall}
use Rattle.tau_disk.specs.declared.call.DiskCall.TheVariants.{Wrote, Lost, Synced}

-- the content after the last successful sync; what a read gives; the same with each byte written since that sync reading 7;
-- and the ranges written since, the newest first
pub record DiskState : Type 0 where
  pub synced : List ℕ
  pub seen : List ℕ
  pub torn : List ℕ
  pub tears : List (ℕ × ℕ)

-- a disk with these bytes, all of them synced
abbrev pub opened : List ℕ → DiskState
opened bytes = record { synced = bytes; seen = bytes; torn = bytes; tears = [] }

-- these bytes written at this offset
abbrev pub over : ℕ → List ℕ → List ℕ → List ℕ
over at bytes file = take at file ++ bytes ++ drop (at + length bytes) file

-- so many bytes that read 7
abbrev pub sevens : ℕ → List ℕ
sevens count = replicate count 7

-- after a write of these bytes
abbrev pub wrote : DiskState → ℕ → List ℕ → DiskState
wrote s at bytes = record { synced = s.synced; seen = over at bytes s.seen; torn = over at (sevens (length bytes)) s.torn; tears = (at, length bytes) ∷ s.tears }

-- after a write of so many bytes of which nothing more is known
abbrev pub lost : DiskState → ℕ → ℕ → DiskState
lost s at count = record { synced = s.synced; seen = s.seen; torn = s.torn; tears = (at, count) ∷ s.tears }

abbrev pub after_call : DiskState → DiskCall → DiskState
after_call s (Wrote at bytes) = wrote s at bytes.items
after_call s (Lost at count) = lost s at count
after_call s Synced = record { synced = s.seen; seen = s.seen; torn = s.seen; tears = [] }

abbrev pub replayed : DiskState → List DiskCall → DiskState
replayed s [] = s
replayed s (call ∷ calls) = replayed (after_call s call) calls

-- k is in none of the ranges
abbrev pub IsOutside : ℕ → List (ℕ × ℕ) → Type 0
IsOutside k [] = Unit {0}
IsOutside k (tear ∷ tears) = ((k < tear.0) ⊎ (tear.0 + tear.1 ≤ k)) × IsOutside k tears

-- the greatest length that the ranges reach
abbrev pub reach : ℕ → List (ℕ × ℕ) → ℕ
reach len [] = len
reach len (tear ∷ tears) = max (tear.0 + tear.1) (reach len tears)

-- A stop may leave it: outside the ranges written since, it agrees with the content after the last successful
-- sync; each range and the part past the old end hold any bytes; the length is anything from old to new.
pub record IsImage (synced : List ℕ) (tears : List (ℕ × ℕ)) (x : List ℕ) : Type 0 where
  pub same : (k : ℕ) → k < length synced → IsOutside k tears → slice_index x k ≡ slice_index synced k
  pub no_shorter : length synced ≤ length x
  pub no_longer : length x ≤ reach (length synced) tears

-- a stop may leave it in this state
abbrev pub leaves : DiskState → List ℕ → Type 0
leaves s x = IsImage s.synced s.tears x

-- a stop at some moment from the t-th call on might have left it
abbrev pub leaves_since : DiskState → List DiskCall → ℕ → List ℕ → Type 0
leaves_since s [] t x = leaves s x
leaves_since s (call ∷ calls) zero x = leaves s x ⊎ leaves_since (after_call s call) calls zero x
leaves_since s (call ∷ calls) (suc t) x = leaves_since (after_call s call) calls t x

-- the laws of time

pub since_now : (s : DiskState) (calls : List DiskCall) (t : ℕ) (x : List ℕ) → t ≤ length calls → leaves (replayed s calls) x → leaves_since s calls t x
since_now s [] t x le now = now
since_now s (call ∷ calls) zero x le now = inr (since_now (after_call s call) calls zero x (omega arith) now)
since_now s (call ∷ calls) (suc t) x le now = since_now (after_call s call) calls t x (omega arith) now

pub since_only : (s : DiskState) (calls : List DiskCall) (x : List ℕ) → leaves_since s calls (length calls) x → leaves (replayed s calls) x
since_only s [] x since = since
since_only s (call ∷ calls) x since = since_only (after_call s call) calls x since

-- whether the number is this one or a later one
abbrev pub is_from : ℕ → ℕ → Bool
is_from from k = nat_le from k

-- whether the number is in the list
abbrev pub is_in : List ℕ → ℕ → Bool
is_in numbers k = list_any (λ n. n == k) numbers

-- whether the call with this number is to fail: it is in the list, or at the stop or later
abbrev pub is_planned : List ℕ → Option ℕ → ℕ → Bool
is_planned failing None k = list_any (λ n. n == k) failing
is_planned failing (Some from) k = list_any (λ n. n == k) failing || is_from from k

-- whether the call with this number is the one at the stop
abbrev pub is_stop : Option ℕ → ℕ → Bool
is_stop None k = false
is_stop (Some from) k = from == k
