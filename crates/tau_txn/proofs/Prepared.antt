-- Records that were made.
use Rattle.std.proofs.Common.{ℕ, zero, suc, ◌≤◌, ◌≡◌, false, List, [], ◌∷◌, ◌++◌, length, refl, sym, ap, subst, ◌∙◌, arith}
use Rattle.std.specs.Prelude.{Some, Result, Ok, Err, OnOk, replicate}
use Rattle.tau_base.specs.Vectors.{AtMost, join}
use Rattle.tau_base.proofs.Vectors.{join_from}
use Rattle.tau_base.specs.Modes.{format_of}
use Rattle.tau_base.specs.declared.format.Format.{Format}
use Rattle.tau_base.specs.declared.value.LogMode.{LogMode}
use Rattle.tau_base.specs.declared.value.NoMemory.{NoMemory}
use Rattle.tau_proc.specs.declared.proc.Proc.{Proc}
use Rattle.tau_proc.specs.Progress.{Progress, next_want}
use Rattle.tau_record.specs.declared.entry.Entry.{Entry}
use Rattle.tau_record.specs.Record.{base_of, Spells}
use Rattle.tau_machine.specs.Hands.{Hand}
use Rattle.tau_txn.specs.Hand.{PlainHand}
use Rattle.tau_txn.specs.Next.{act_at}
use Rattle.tau_txn.specs.Progress.{IsRunBy, IsFinished}
use Rattle.tau_txn.specs.Record.{entry_of}
use Rattle.tau_txn.specs.Steps.{record_of}
use Rattle.tau_txn.specs.Txn.{shown}
use Rattle.tau_txn.proofs.Txns.{record_is}

-- some list of vectors has this one at this number
base_at : (k : ℕ) (v : List ℕ) → base_of (replicate k [] ++ v ∷ []) k ≡ v
base_at zero v = refl
base_at (suc k) v = base_at k v

spelled_some : (f : Format) (n number : ℕ) (anchor : List ℕ) (e : Entry) (bytes : List ℕ) → ((vectors : List (List ℕ)) → base_of vectors number ≡ anchor → Spells f n vectors false e bytes) → 1 ≤ length bytes
spelled_some f n number anchor e bytes spells =
    let s = spells (replicate number [] ++ anchor ∷ []) (base_at number anchor) in
    let long = ap length s.text in omega (arith, long)

module _ (w width : ℕ) (mode : LogMode) (h new : PlainHand) (number : ℕ) (anchor : List ℕ) where
  abbrev Raised : Type 0
  Raised = new ≡ record h { dep = join h.dep anchor; anchor = number; bytes = new.bytes }

  abbrev Spelled : Type 0
  Spelled = (vectors : List (List ℕ)) → base_of vectors number ≡ anchor → Spells (format_of mode) (length h.dep) vectors false (record_of mode new) new.bytes

  pub prepared_sized : (r : Result (Unit {0}) NoMemory) → OnOk r Spelled → OnOk r (1 ≤ length new.bytes)
  prepared_sized (Ok u) s = spelled_some (format_of mode) (length h.dep) number anchor (record_of mode new) new.bytes s
  prepared_sized (Err e) s = tt

  pub prepared_bytes : (r : Result (Unit {0}) NoMemory) → OnOk r Raised → OnOk r Spelled → length h.dep ≡ width → IsFinished (next_want h.machine) → ((procs : List Proc) → IsRunBy procs h → IsRunBy procs new) →
      OnOk r ((procs : List Proc) (hand : Hand) (start : ℕ) (vectors : List (List ℕ)) → IsRunBy procs h → shown procs w new.standing new ≡ Some hand → base_of vectors number ≡ anchor →
      Spells (format_of mode) width vectors false (entry_of mode (act_at procs (record { worker = w; width = width; mode = mode; hand = Some new }) start hand)) new.bytes)
  prepared_bytes (Err e) raised s wide finished runs = tt
  prepared_bytes (Ok u) raised s wide finished runs = λ procs hand start vectors run is base.
      let finished' = subst (λ (m : Progress). IsFinished (next_want m)) (sym (ap (λ (a : PlainHand). a.machine) raised)) finished in
      subst (λ (n : ℕ). Spells (format_of mode) n vectors false (entry_of mode (act_at procs (record { worker = w; width = width; mode = mode; hand = Some new }) start hand)) new.bytes) wide
      (subst (λ (e : Entry). Spells (format_of mode) (length h.dep) vectors false e new.bytes) (record_is procs w width mode start new hand (runs procs run) finished' is) (s vectors base))

-- a vector that covers another is their join
join_covered : (v w : List ℕ) → length w ≡ length v → AtMost w v → v ≡ join v w
join_covered v w wide covers = join_from v v w (omega (arith, wide)) (λ k. let a = covers k in omega (arith, a))

pub prepared_covering : (h new : PlainHand) (number : ℕ) (anchor : List ℕ) (r : Result (Unit {0}) NoMemory) → length anchor ≡ length h.dep → AtMost anchor h.dep →
    OnOk r (new ≡ record h { anchor = number; bytes = new.bytes }) → OnOk r (new ≡ record h { dep = join h.dep anchor; anchor = number; bytes = new.bytes })
prepared_covering h new number anchor (Err e) wide covers raised = tt
prepared_covering h new number anchor (Ok u) wide covers raised =
    raised ∙ ap (λ (v : List ℕ). record h { dep = v; anchor = number; bytes = new.bytes }) (join_covered h.dep anchor wide covers)
