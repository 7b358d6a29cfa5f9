-- A record that is put after those before it.
use Rattle.std.proofs.Common.{◌≡◌, ℕ, ◌+◌, ◌-◌, ◌≤◌, Bool, true, false, cond, eqb, List, [], ◌∷◌, ◌++◌, length, Result, Ok, Err, refl, sym, ap, subst, arith}
use Rattle.std.proofs.lemmas.List.{length-append}
use Rattle.tau_record.specs.declared.entry.Entry.{Entry}
use Rattle.tau_record.specs.declared.entry.Placed.{Placed}
use Rattle.tau_record.specs.declared.fault.FieldError.{FieldError}
use Rattle.tau_record.specs.declared.fault.FieldError.TheVariants as errors
use Rattle.tau_record.specs.declared.fault.RecordCause.{RecordCause}
use Rattle.tau_record.specs.declared.fault.RecordCause.TheVariants.{BadLength}
use Rattle.tau_record.specs.Field.{◌>>=◌, Fails}
use Rattle.tau_record.specs.Format.{Format}
use Rattle.tau_record.specs.Record.{framed, epoch_after, fields_at, body_at, frame_at, record_at}
use Rattle.tau_record.specs.Content.{named_after, placed, put_at, puts, Joined}
use Rattle.tau_record.proofs.FieldLaws.{IsBytes, bind_ok, ok_is}
use Rattle.tau_record.proofs.ItemLaws.{guard_held}
use Rattle.tau_record.proofs.RecordLaws.{frame_takes}

pub frame_shorter : (first : Bool) (bytes : List ℕ) (kind : ℕ) (fields after : List ℕ) → IsBytes bytes → frame_at first bytes ≡ Ok ((kind, fields), after) → length after ≤ length bytes
frame_shorter first bytes kind fields after fits e =
    let t = frame_takes first bytes ((kind, fields), after) fits e in
    omega (arith, ap length t.0.parts, length-append (framed kind fields) after)

reads : (format : Format) (n at k kind : ℕ) (vectors : List (List ℕ)) (bytes fields after : List ℕ) (x : Entry × List ℕ)
    → frame_at (eqb at 0) bytes ≡ Ok ((kind, fields), after) → fields_at format n k vectors kind fields ≡ Ok x → eqb (length x.1) 0 ≡ true → record_at format n k vectors (eqb at 0) bytes ≡ Ok (x.0, after)
unfolding record_at body_at
reads format n at k kind vectors bytes fields after x frame read whole = rw (frame, read, whole) refl

pub joined : (format : Format) (n at k number kind past : ℕ) (vectors names : List (List ℕ)) (bytes fields after : List ℕ) (before now : List Placed)
    → frame_at (eqb at 0) bytes ≡ Ok ((kind, fields), after) → puts (fields_at format n k vectors kind fields) vectors k before at past ≡ Ok (now, names, number) → past ≡ at + (length bytes - length after)
    → Joined format n at k number vectors names bytes after before now
joined format n at k number kind past vectors names bytes fields after before now frame put is =
    let b = bind_ok (fields_at format n k vectors kind fields) (put_at vectors k before at past) (now, names, number) put in
    let made : List Placed × List (List ℕ) × ℕ = (before ++ placed b.0.0 at past ∷ [], named_after vectors b.0.0, epoch_after k b.0.0) in
    let g = guard_held (eqb (length b.0.1) 0) BadLength (Ok made) (now, names, number) b.2 in
    let same : made ≡ (now, names, number) = ok_is made (now, names, number) g.1 in
    record {
      entry = b.0.0;
      read = reads format n at k kind vectors bytes fields after b.0 frame b.1 g.0;
      behind = subst (λ (p : ℕ). now ≡ before ++ placed b.0.0 at p ∷ []) is (sym (ap (λ (p : List Placed × List (List ℕ) × ℕ). p.0) same));
      names_are = sym (ap (λ (p : List Placed × List (List ℕ) × ℕ). p.1) same);
      number_is = sym (ap (λ (p : List Placed × List (List ℕ) × ℕ). p.2) same);
    }

-- what makes no record of its fields makes none

abbrev good : {A : Type 0} → A → Result A RecordCause
good x = Ok x

abbrev bad : {A : Type 0} → RecordCause → Result A RecordCause
bad cause = Err cause

whole_bad : {A B : Type 0} (whole : Bool) (x : A) (y : B) (cause : RecordCause) → cond whole (good x) (bad BadLength) ≡ bad cause → cond whole (good y) (bad BadLength) ≡ bad cause
whole_bad true x y cause h = absurd cc
whole_bad false x y cause h = let is : BadLength ≡ cause = cc in ap (λ (c : RecordCause). Err c) is

body_bad : (r : Result (Entry × List ℕ) RecordCause) (cause : RecordCause) (at k past : ℕ) (vectors : List (List ℕ)) (before : List Placed)
    → puts r vectors k before at past ≡ Err cause → (r >>= λ x. cond (eqb (length x.1) 0) (Ok x.0) (Err BadLength)) ≡ Err cause
body_bad (Err d) cause at k past vectors before e = let is : d ≡ cause = cc in ap (λ (c : RecordCause). Err c) is
body_bad (Ok x) cause at k past vectors before e = whole_bad (eqb (length x.1) 0) (before ++ placed x.0 at past ∷ [], named_after vectors x.0, epoch_after k x.0) x.0 cause e

fails : (format : Format) (n at k kind : ℕ) (vectors : List (List ℕ)) (bytes fields after : List ℕ) (cause : RecordCause)
    → frame_at (eqb at 0) bytes ≡ Ok ((kind, fields), after) → body_at format n k vectors kind fields ≡ Err cause → record_at format n k vectors (eqb at 0) bytes ≡ Err cause
unfolding record_at
fails format n at k kind vectors bytes fields after cause frame h = rw (frame, h) refl

pub not_joined : (e : FieldError) (format : Format) (n at k kind past : ℕ) (vectors : List (List ℕ)) (bytes fields after : List ℕ) (before : List Placed)
    → frame_at (eqb at 0) bytes ≡ Ok ((kind, fields), after) → Fails e (puts (fields_at format n k vectors kind fields) vectors k before at past) → Fails e (record_at format n k vectors (eqb at 0) bytes)
unfolding body_at
not_joined errors.Memory format n at k kind past vectors bytes fields after before frame h = tt
not_joined (errors.Bad cause) format n at k kind past vectors bytes fields after before frame h =
    fails format n at k kind vectors bytes fields after cause frame (body_bad (fields_at format n k vectors kind fields) cause at k past vectors before h)
