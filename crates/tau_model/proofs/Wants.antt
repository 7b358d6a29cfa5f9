-- Running a call on a database, want by want.
use Rattle.std.proofs.Common.{ℕ, ◌+◌, ◌≡◌, List, [], ◌∷◌, ◌++◌, refl, sym, ap, subst, ◌∙◌, append_assoc, Option}
use Rattle.std.proofs.lemmas.List.{append-nil}
use Rattle.std.specs.Prelude.{Some, None, slice_get}
use Rattle.tau_base.specs.declared.value.Call.{Call}
use Rattle.tau_base.specs.declared.value.Key.{Key}
use Rattle.tau_base.specs.declared.value.Value.{Value}
use Rattle.tau_base.specs.Database.{Db}
use Rattle.tau_proc.specs.declared.proc.Proc.{Proc}
use Rattle.tau_proc.specs.declared.reply.Reply.{Reply}
use Rattle.tau_proc.specs.declared.reply.Want.TheVariants.{Read, Finished}
use Rattle.tau_proc.specs.Effect.{Agrees}
use Rattle.tau_proc.specs.Meaning.{meaning}
use Rattle.tau_proc.specs.Progress.{Progress, IsAt, ahead, next_want, want_of_write, buffered}
use Rattle.tau_proc.specs.Stage.{values}
use Rattle.tau_proc.proofs.Courses.{wants_are_meaning}
use Rattle.tau_proc.proofs.Sound.{meaning_sound}

-- the machine was given the first values that the call reads on the database
pub record Underway (procs : List Proc) (c : Call) (db : Db) (m : Progress) : Type 0 where
  pub front : List (Key × Value)
  pub back : List (Key × Value)
  pub count : ℕ
  pub reads : (meaning procs c db).reads ≡ front ++ back
  pub at : IsAt procs c (values front) count m

seen_behind : (front : List (Key × Value)) (r : Key × Value) (back : List (Key × Value)) (db : Db) → Agrees (front ++ r ∷ back) db → db r.0 ≡ r.1
seen_behind [] r back db h = h.0
seen_behind (f ∷ front) r back db h = seen_behind front r back db h.1

pub values_push : (front : List (Key × Value)) (r : Key × Value) (vs : List Value) → values (front ++ r ∷ []) ++ vs ≡ values front ++ r.1 ∷ vs
values_push [] r vs = refl
values_push (f ∷ front) r vs = ap (λ l. f.1 ∷ l) (values_push front r vs)

pub no_read : (o : Option (Key × Value)) (reply : Reply) (key : Key) → want_of_write o reply ≡ Read key → ⊥
no_read None reply key e = cc
no_read (Some w) reply key e = cc

module _ (procs : List Proc) (c : Call) (db : Db) (m : Progress) where
  -- where all was read
  whole : (u : Underway procs c db m) → u.back ≡ [] → IsAt procs c (values (meaning procs c db).reads) u.count m
  whole u none = subst (λ rs. IsAt procs c (values rs) u.count m) (sym (u.reads ∙ ap (λ l. u.front ++ l) none ∙ append-nil u.front)) u.at

  pub read_given : (u : Underway procs c db m) (key : Key) (v : Value) (next : Progress) → next_want m ≡ Read key → v ≡ db key →
      ((vs : List Value) → ahead next vs ≡ ahead m (v ∷ vs)) → next.granted ≡ m.granted → Underway procs c db next
  read_given u key v next want is stands granted = by_rest u.back refl
    where
      by_rest : (back : List (Key × Value)) → u.back ≡ back → Underway procs c db next
      by_rest [] e = absurd (no_read (slice_get (meaning procs c db).writes u.count) (meaning procs c db).reply key (sym ((wants_are_meaning procs c db m).1 u.count (whole u e)).0 ∙ want))
      by_rest (r ∷ back) e =
          let reads : (meaning procs c db).reads ≡ u.front ++ r ∷ back = u.reads ∙ ap (λ l. u.front ++ l) e in
          let wanted : Read r.0 ≡ Read key = sym ((wants_are_meaning procs c db m).0 u.front r back u.count reads u.at) ∙ want in
          let same : r.0 ≡ key = cc in
          let seen : db r.0 ≡ r.1 = seen_behind u.front r back db (subst (λ rs. Agrees rs db) reads ((meaning_sound procs).seen c db)) in
          let given : v ≡ r.1 = is ∙ ap db (sym same) ∙ seen in record {
            front = u.front ++ r ∷ [];
            back = back;
            count = u.count;
            reads = reads ∙ sym (append_assoc u.front (r ∷ []) back);
            at = record {
              stands = λ vs. stands vs ∙ u.at.stands (v ∷ vs) ∙ rw (given, values_push u.front r vs) refl;
              granted = granted ∙ u.at.granted;
            };
          }

  pub write_granted : (u : Underway procs c db m) (next : Progress) → ((vs : List Value) → ahead next vs ≡ ahead m vs) → next.granted ≡ m.granted + 1 → Underway procs c db next
  write_granted u next stands granted = record {
    front = u.front;
    back = u.back;
    count = u.count + 1;
    reads = u.reads;
    at = record { stands = λ vs. stands vs ∙ u.at.stands vs; granted = granted ∙ ap (λ n. n + 1) u.at.granted };
  }

  pub finished_meaning : (u : Underway procs c db m) (reply : Reply) → next_want m ≡ Finished reply → (reply ≡ (meaning procs c db).reply) × (buffered m ≡ (meaning procs c db).writes)
  finished_meaning u reply want = by_rest u.back refl
    where
      replied : (o : Option (Key × Value)) (r : Reply) → want_of_write o r ≡ Finished reply → reply ≡ r
      replied None r e = cc
      replied (Some w) r e = cc

      by_rest : (back : List (Key × Value)) → u.back ≡ back → (reply ≡ (meaning procs c db).reply) × (buffered m ≡ (meaning procs c db).writes)
      by_rest [] e =
          let end = (wants_are_meaning procs c db m).1 u.count (whole u e) in
          (replied (slice_get (meaning procs c db).writes u.count) (meaning procs c db).reply (sym end.0 ∙ want), end.1)
      by_rest (r ∷ back) e =
          let wanted : Read r.0 ≡ Finished reply = sym ((wants_are_meaning procs c db m).0 u.front r back u.count (u.reads ∙ ap (λ l. u.front ++ l) e) u.at) ∙ want in cc
