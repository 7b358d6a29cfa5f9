-- One more call of a history that is executed.
use Rattle.std.proofs.Common.{ℕ, ◌+◌, ◌-◌, ◌<◌, ◌≡◌, List, [], ◌∷◌, ◌++◌, length, take, get_or, refl, ap, ◌∙◌}
use Rattle.std.specs.Prelude.{zero, suc, Option, None, Some, slice_get, slice_index_or}
use Rattle.std.proofs.lemmas.List.{take_more, map-append}
use Rattle.tau_base.specs.declared.value.Call.{Call}
use Rattle.tau_base.specs.Database.{Db, written, empty_db}
use Rattle.tau_proc.specs.declared.proc.Proc.{Proc}
use Rattle.tau_proc.specs.Effect.{Effect}
use Rattle.tau_proc.specs.Meaning.{meaning}
use Rattle.tau_model.specs.History.{Numbered, means, trace, exec}
use Rattle.tau_inspect.specs.Executed.{no_call, call_of, numbered, history, acts_of, rows_after, effects}

-- an element that is there is the one that the list has at its index
pub slice_get_or : {A : Type 0} (xs : List A) (i : ℕ) (d x : A) → slice_get xs i ≡ Some x → slice_index_or xs i d ≡ x
slice_get_or [] i d x is = absurd (none_some is)
  where
    none_some : {A : Type 0} {x : A} → ◌≡◌ {A = Option A} None (Some x) → ⊥
    none_some e = cc
slice_get_or (y ∷ ys) zero d x is = cc
slice_get_or (y ∷ ys) (suc i) d x is = slice_get_or ys i d x is

module _ (meaning : Numbered → Db → Effect) where
  exec_more : (cs : List Numbered) (c : Numbered) (db : Db) → exec meaning (cs ++ c ∷ []) db ≡ written (meaning c (exec meaning cs db)).writes (exec meaning cs db)
  exec_more [] c db = refl
  exec_more (x ∷ xs) c db = exec_more xs c (written (meaning x db).writes db)

  effects_more : (cs : List Numbered) (c : Numbered) (db : Db) → effects (trace meaning (cs ++ c ∷ []) db) ≡ effects (trace meaning cs db) ++ meaning c (exec meaning cs db) ∷ []
  effects_more [] c db = refl
  effects_more (x ∷ xs) c db = ap (λ l. meaning x db ∷ l) (effects_more xs c (written (meaning x db).writes db))

module _ (procs : List Proc) (calls : List Call) where
  history_more : (order : List ℕ) (i : ℕ) → i < length order → history calls (take (i + 1) order) ≡ history calls (take i order) ++ numbered calls (get_or order i 0) ∷ []
  history_more order i lt = ap (history calls) (take_more order i 0 lt) ∙ map-append (numbered calls) (take i order) (get_or order i 0 ∷ [])

  pub rows_more : (order : List ℕ) (i : ℕ) (c : Call) → i < length order → call_of calls (get_or order i 0) ≡ c →
      rows_after procs calls (take (i + 1) order) ≡ written (meaning procs c (rows_after procs calls (take i order))).writes (rows_after procs calls (take i order))
  rows_more order i c lt is =
      ap (λ cs. exec (means procs) cs empty_db) (history_more order i lt) ∙ exec_more (means procs) (history calls (take i order)) (numbered calls (get_or order i 0)) empty_db
      ∙ ap (λ (x : Call). written (meaning procs x (rows_after procs calls (take i order))).writes (rows_after procs calls (take i order))) is

  pub acts_more : (order : List ℕ) (i : ℕ) (c : Call) → i < length order → call_of calls (get_or order i 0) ≡ c →
      effects (acts_of procs calls (take (i + 1) order)) ≡ effects (acts_of procs calls (take i order)) ++ meaning procs c (rows_after procs calls (take i order)) ∷ []
  acts_more order i c lt is =
      ap (λ cs. effects (trace (means procs) cs empty_db)) (history_more order i lt) ∙ effects_more (means procs) (history calls (take i order)) (numbered calls (get_or order i 0)) empty_db
      ∙ ap (λ (x : Call). effects (acts_of procs calls (take i order)) ++ meaning procs x (rows_after procs calls (take i order)) ∷ []) is

-- the call at a place, as its index gives it
pub call_there : (calls : List Call) (number : ℕ) (c : Call) → slice_get calls (number - 1) ≡ Some c → call_of calls number ≡ c
call_there calls number c is = slice_get_or calls (number - 1) no_call c is
