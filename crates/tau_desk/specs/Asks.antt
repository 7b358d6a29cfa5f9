-- What is asked of the head.
use Rattle.std.specs.Prelude.{ℕ, ◌≡◌, Option, Some, None, List, length, slice_get}
use Rattle.std.specs.List.{filter}
use Rattle.tau_base.specs.Vectors.{covers}
use Rattle.tau_model.specs.declared.committed.Committed.{Committed}
use Rattle.tau_desk.specs.Shares.{PlainWork}

-- nothing is out
abbrev pub AreThere : {A : Type 0} → List (Option A) → Type 0
AreThere xs = (i : ℕ) → slice_get xs i ≡ Some None → ⊥

-- a worker that is there has no call in hand
abbrev pub IsIdle : Option PlainWork → Type 0
IsIdle None = Unit {0}
IsIdle (Some o) = o.txn.hand ≡ None

abbrev pub AreIdle : List (Option PlainWork) → Type 0
AreIdle works = (w : ℕ) (o : Option PlainWork) → slice_get works w ≡ Some o → IsIdle o

-- how many of these calls the positions cover
abbrev pub covered_calls : List ℕ → List Committed → ℕ
covered_calls positions calls = length (filter (λ (call : Committed). covers positions call.lv) calls)
