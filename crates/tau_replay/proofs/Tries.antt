-- A call that is executed on values that were read one after another.
use Rattle.std.proofs.Common.{ℕ, ◌+◌, ◌≡◌, ◌<◌, List, [], ◌∷◌, ◌++◌, length, take, get_or, refl, sym, ap, subst, ◌∙◌}
use Rattle.std.proofs.lemmas.List.{append-nil, take_more}
use Rattle.std.specs.Prelude.{slice_get}
use Rattle.tau_base.specs.declared.value.Call.{Call}
use Rattle.tau_base.specs.declared.value.Key.{Key}
use Rattle.tau_base.specs.declared.value.Value.{Value}
use Rattle.tau_base.specs.Database.{Db}
use Rattle.tau_proc.specs.declared.machine.Stop.{Stop}
use Rattle.tau_proc.specs.declared.machine.Stop.TheVariants.{Row, End}
use Rattle.tau_proc.specs.declared.proc.Proc.{Proc}
use Rattle.tau_proc.specs.declared.reply.Reply.{Reply}
use Rattle.tau_proc.specs.declared.reply.Want.TheVariants.{Read}
use Rattle.tau_proc.specs.declared.step.Step.{Step}
use Rattle.tau_proc.specs.Effect.{Effect, Agrees}
use Rattle.tau_proc.specs.Meaning.{Running}
use Rattle.tau_proc.specs.Progress.{Progress, IsAt, IsRead, ahead, at_stop, next_want, want_of, buffered}
use Rattle.tau_proc.specs.Stage.{Stage, Wants, Ends, Asked, stage, values}
use Rattle.tau_proc.proofs.Stages.{meaning_from_stage}
use Rattle.tau_replay.specs.Result.{IsTrying, Executes}
use Rattle.tau_model.proofs.Wants.{values_push, no_read}

wants_row : (s : Stage) (n : ℕ) (key : Key) → want_of s n ≡ Read key → s ≡ Wants key
wants_row (Wants k) n key e = let same : k ≡ key = cc in ap Wants same
wants_row (Ends ws reply) n key e = absurd (no_read (slice_get ws n) reply key e)

asked_push : (at : List Value → Stage) (reads : List (Key × Value)) (key : Key) (v : Value) → Asked at reads → at (values reads) ≡ Wants key → Asked at (reads ++ (key, v) ∷ [])
asked_push at [] key v asked wants = (wants, tt)
asked_push at (r ∷ reads) key v asked wants = (asked.0, asked_push (λ vs. at (r.1 ∷ vs)) reads key v asked.1 wants)

-- where the machine wants no row, it ends with what it has written
ended_at : (args : List Value) (steps : List Step) (done : ℕ) (r : Running) (s : Stop) (n : ℕ) → (IsRead (want_of (at_stop args steps done r s []) n) → ⊥) → (reply : Reply) × (at_stop args steps done r s [] ≡ Ends r.writes reply)
ended_at args steps done r (Row key then) n none = absurd (none tt)
ended_at args steps done r (End reply) n none = (reply, refl)

ended : (m : Progress) → (IsRead (next_want m) → ⊥) → (reply : Reply) × (ahead m [] ≡ Ends (buffered m) reply)
ended m none = ended_at m.args m.steps m.done m.running m.stop m.granted none

module _ (procs : List Proc) (call : Call) where
  stands : (reads : List (Key × Value)) (m : Progress) (t : IsTrying procs call reads m) → ahead m [] ≡ stage procs call (values reads)
  stands reads m t = t.at.stands [] ∙ ap (stage procs call) (append-nil (values reads))

  pub trying_begins : (m : Progress) → IsAt procs call [] 0 m → IsTrying procs call [] m
  trying_begins m at = record { asked = tt; count = 0; at = at }

  pub trying_read : (reads : List (Key × Value)) (m : Progress) (key : Key) (v : Value) (next : Progress) → IsTrying procs call reads m → next_want m ≡ Read key →
      ((vs : List Value) → ahead next vs ≡ ahead m (v ∷ vs)) → next.granted ≡ m.granted → IsTrying procs call (reads ++ (key, v) ∷ []) next
  trying_read reads m key v next t want goes granted = record {
    asked = asked_push (stage procs call) reads key v t.asked (sym (stands reads m t) ∙ wants_row (ahead m []) m.granted key want);
    count = t.count;
    at = record {
      stands = λ vs. goes vs ∙ t.at.stands (v ∷ vs) ∙ ap (stage procs call) (sym (values_push reads (key, v) vs));
      granted = granted ∙ t.at.granted;
    };
  }

  pub trying_ends : (reads : List (Key × Value)) (m : Progress) → IsTrying procs call reads m → (IsRead (next_want m) → ⊥) → Executes procs call reads (buffered m)
  trying_ends reads m t none db agrees =
      let end = ended m none in
      ap (λ (e : Effect). e.writes) (meaning_from_stage procs call db reads (buffered m) end.0 t.asked agrees (sym (stands reads m t) ∙ end.1))

pub agrees_push : (reads : List (Key × Value)) (r : Key × Value) (db : Db) → Agrees reads db → db r.0 ≡ r.1 → Agrees (reads ++ r ∷ []) db
agrees_push [] r db agrees is = (is, tt)
agrees_push (x ∷ reads) r db agrees is = (agrees.0, agrees_push reads r db agrees.1 is)

pub agrees_more : (reads : List (Key × Value)) (i : ℕ) (x : Key × Value) (db : Db) → i < length reads → x ≡ get_or reads i x → Agrees (take i reads) db → db x.0 ≡ x.1 → Agrees (take (i + 1) reads) db
agrees_more reads i x db lt is agrees same =
    subst (λ rs. Agrees rs db) (ap (λ z. take i reads ++ z ∷ []) is ∙ sym (take_more reads i x lt)) (agrees_push (take i reads) x db agrees same)

-- one more row is copied
pub copied_more : (rows copies after : List (Key × Value)) (i : ℕ) (x : Key × Value) (v : Value) → i < length rows → x ≡ get_or rows i x → copies ≡ take i rows → v ≡ x.1 → after ≡ copies ++ (x.0, v) ∷ [] → after ≡ take (i + 1) rows
copied_more rows copies after i x v lt is so_far same pushed =
    pushed ∙ (λ k. so_far k ++ (x.0, same k) ∷ []) ∙ ap (λ z. take i rows ++ z ∷ []) is ∙ sym (take_more rows i x lt)
