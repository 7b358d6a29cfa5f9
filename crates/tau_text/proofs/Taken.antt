-- Calls that their procedures take.
use Rattle.std.proofs.Common.{List, [], ◌∷◌, ◌++◌, ℤ, IsTrue}
use Rattle.tau_base.specs.declared.value.Value.{Value}
use Rattle.tau_base.specs.declared.value.Value.TheVariants.{Absent, Int, Text}
use Rattle.tau_proc.specs.Takes.{takes_row, takes_put, takes_add}

pub put_taken : (vs : List Value) (v : Value) → IsTrue (takes_row vs) → IsTrue (takes_put (vs ++ v ∷ []))
put_taken [] v h = absurd cc
put_taken (Int t ∷ []) v h = absurd cc
put_taken (Int t ∷ Int r ∷ []) v h = h
put_taken (Int t ∷ Int r ∷ x ∷ xs) v h = absurd cc
put_taken (Int t ∷ Absent ∷ xs) v h = absurd cc
put_taken (Int t ∷ Text s ∷ xs) v h = absurd cc
put_taken (Absent ∷ xs) v h = absurd cc
put_taken (Text s ∷ xs) v h = absurd cc

pub add_taken : (vs : List Value) (n : ℤ) → IsTrue (takes_row vs) → IsTrue (takes_add (vs ++ Int n ∷ []))
add_taken [] n h = absurd cc
add_taken (Int t ∷ []) n h = absurd cc
add_taken (Int t ∷ Int r ∷ []) n h = h
add_taken (Int t ∷ Int r ∷ x ∷ xs) n h = absurd cc
add_taken (Int t ∷ Absent ∷ xs) n h = absurd cc
add_taken (Int t ∷ Text s ∷ xs) n h = absurd cc
add_taken (Absent ∷ xs) n h = absurd cc
add_taken (Text s ∷ xs) n h = absurd cc
