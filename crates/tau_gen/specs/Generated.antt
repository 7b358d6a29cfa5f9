-- The generated workload.
use Rattle.std.specs.Prelude.{ℕ, pos, ◌+◌, ◌*◌, ◌%◌, List, [], ◌∷◌, codes, map, None}
use Rattle.std.specs.List.{range_with_len}
use Rattle.tau_base.specs.declared.value.Call.{Call}
use Rattle.tau_base.specs.declared.value.Value.TheVariants.{Int}
use Rattle.tau_proc.specs.declared.procs.TheConstants.{ADD}
use Rattle.tau_text.specs.declared.load.Workload.{Workload}

-- the row of call k
abbrev pub row_of : ℕ → ℕ → ℕ
row_of start k = (start + 37 * k) % 1000

-- what call k adds
abbrev pub amount_of : ℕ → ℕ
amount_of k = 1 + k % 10

-- call k is `add acct R A`, where table 0 is `acct`
abbrev pub call_of : ℕ → ℕ → Call
call_of start k = record { proc = ADD; args = record { items = Int (pos 0) ∷ Int (pos (row_of start k)) ∷ Int (pos (amount_of k)) ∷ [] } }

-- calls are numbered from 1
abbrev pub calls_of : ℕ → ℕ → List Call
calls_of start count = map (call_of start) (range_with_len 1 count)

abbrev pub generated : ℕ → ℕ → Workload
generated start count = record {
  declarations = record { tables = codes "acct" ∷ []; procs = [] };
  calls = calls_of start count;
  turns = None;
}
