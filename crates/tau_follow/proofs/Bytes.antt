-- Bytes that are fed are bytes.
use Rattle.std.proofs.Common.{ℕ, zero, suc, ◌<◌, List, [], ◌∷◌, ◌++◌, replicate, set, arith, slice_index}
use Rattle.std.specs.Prelude.{slice_index_or}
use Rattle.tau_follow_laws.specs.Feeding.{Piece, with_piece}
use Rattle.tau_follow.specs.State.{AreBytes}

abbrev IsBytes : List ℕ → Type 0
IsBytes xs = (i : ℕ) → slice_index xs i < 256

append_bytes : (xs ys : List ℕ) → IsBytes xs → IsBytes ys → IsBytes (xs ++ ys)
append_bytes [] ys h g i = g i
append_bytes (x ∷ xs) ys h g zero = h 0
append_bytes (x ∷ xs) ys h g (suc i) = append_bytes xs ys (λ k. h (suc k)) g i

set_bytes : (fed : List (List ℕ)) (k : ℕ) (x : List ℕ) → AreBytes fed → IsBytes x → AreBytes (set fed k x)
set_bytes [] k x h g j i = omega arith
set_bytes (b ∷ fed) zero x h g zero i = g i
set_bytes (b ∷ fed) zero x h g (suc j) i = h (suc j) i
set_bytes (b ∷ fed) (suc k) x h g zero i = h 0 i
set_bytes (b ∷ fed) (suc k) x h g (suc j) i = set_bytes fed k x (λ m l. h (suc m) l) g j i

pub bytes_then : (fed : List (List ℕ)) (p : Piece) → AreBytes fed → ((i : ℕ) → slice_index p.bytes i < 256) → AreBytes (with_piece fed p)
bytes_then fed p h g = set_bytes fed p.stream (slice_index_or fed p.stream [] ++ p.bytes) h (append_bytes (slice_index_or fed p.stream []) p.bytes (h p.stream) g)

pub no_bytes : (n : ℕ) → AreBytes (replicate n [])
no_bytes zero j i = omega arith
no_bytes (suc n) zero i = omega arith
no_bytes (suc n) (suc j) i = no_bytes n j i
