-- What the generated calls leave, in whatever order they are executed.
use Rattle.std.specs.Prelude.{ℕ, zero, suc, pos, ◌+◌, ◌==◌, ◌≡◌, ◌≤◌, if◌then◌else◌, List, [], ◌∷◌, map, true}
use Rattle.std.specs.List.{range_with_len, flat_map}
use Rattle.tau_base.specs.declared.limits.TheConstants.{MAX_CALLS}
use Rattle.tau_base.specs.declared.value.Key.{Key}
use Rattle.tau_base.specs.declared.value.Value.{Value}
use Rattle.tau_base.specs.declared.value.Value.TheVariants.{Int}
use Rattle.tau_base.specs.Database.{empty_db}
use Rattle.tau_proc.specs.declared.proc.Proc.{Proc}
use Rattle.tau_model.specs.History.{Numbered, Act, Member, Reordered, exec, trace, means, updates}
use Rattle.tau_model.specs.Tables.{IsTablesOf}
use Rattle.tau_gen.specs.Generated.{row_of, amount_of, call_of}

-- what call k adds to a row
abbrev pub adds_to : ℕ → ℕ → ℕ → ℕ
adds_to start row k = if row_of start k == row then amount_of k else 0

-- what the first `count` calls add to a row
unfoldable pub added : ℕ → ℕ → ℕ → ℕ
added start zero row = 0
added start (suc count) row = adds_to start row (suc count) + added start count row

-- the row of this number, where something was added to it
abbrev pub row_with : ℕ → ℕ → List (Key × Value)
row_with row zero = []
row_with row (suc n) = (record { table = 0; row = pos row }, Int (pos (suc n))) ∷ []

-- the rows that `count` calls leave, ascending
unfoldable pub rows_of : ℕ → ℕ → List (Key × Value)
rows_of start count = flat_map (λ row. row_with row (added start count row)) (range_with_len 0 1000)

-- the numbers of so many calls, the last one first
abbrev pub numbers : ℕ → List ℕ
numbers zero = []
numbers (suc count) = suc count ∷ numbers count

-- these are the generated calls, in some order
pub record AreGenerated (start count : ℕ) (calls : List Numbered) : Type 0 where
  pub each : (c : Numbered) → Member c calls → c.call ≡ call_of start c.number
  pub once : Reordered (numbers count) (map (λ (c : Numbered). c.number) calls)

-- In whatever order the generated calls are executed, they leave these rows, and each of them writes.
abbrev pub AnyOrder : Type 0
AnyOrder = (start count : ℕ) (procs : List Proc) (calls : List Numbered) → count ≤ MAX_CALLS → AreGenerated start count calls →
    IsTablesOf (exec (means procs) calls empty_db) (rows_of start count)
    × ((x : Act Numbered) → Member x (trace (means procs) calls empty_db) → updates x.effect ≡ true)
