-- A call that runs on a database, with what it has read so far.
use Rattle.std.proofs.Common.{ℕ, ◌+◌, ◌≡◌, List, [], ◌∷◌, ◌++◌, refl, sym, ap, subst, ◌∙◌, append_assoc, Option}
use Rattle.std.proofs.lemmas.List.{append-nil}
use Rattle.std.specs.Prelude.{Some, None, slice_get}
use Rattle.tau_base.specs.declared.value.Call.{Call}
use Rattle.tau_base.specs.declared.value.Key.{Key}
use Rattle.tau_base.specs.declared.value.Value.{Value}
use Rattle.tau_base.specs.Database.{Db}
use Rattle.tau_proc.specs.declared.proc.Proc.{Proc}
use Rattle.tau_proc.specs.declared.reply.Reply.{Reply}
use Rattle.tau_proc.specs.declared.reply.Want.TheVariants.{Read, Finished}
use Rattle.tau_proc.specs.Effect.{Agrees, Effect}
use Rattle.tau_proc.specs.Meaning.{meaning}
use Rattle.tau_proc.specs.Progress.{Progress, IsAt, ahead, next_want, want_of_write, buffered}
use Rattle.tau_proc.specs.Stage.{values}
use Rattle.tau_proc.proofs.Courses.{wants_are_meaning}
use Rattle.tau_proc.proofs.Sound.{meaning_sound}
use Rattle.tau_model.proofs.Wants.{values_push, no_read}

-- the machine was given these rows, the first ones that the call reads on the database
pub record HasRead (procs : List Proc) (c : Call) (db : Db) (read : List (Key × Value)) (m : Progress) : Type 0 where
  pub back : List (Key × Value)
  pub count : ℕ
  pub reads : (meaning procs c db).reads ≡ read ++ back
  pub at : IsAt procs c (values read) count m

seen_behind : (front : List (Key × Value)) (r : Key × Value) (back : List (Key × Value)) (db : Db) → Agrees (front ++ r ∷ back) db → db r.0 ≡ r.1
seen_behind [] r back db h = h.0
seen_behind (f ∷ front) r back db h = seen_behind front r back db h.1

module _ (procs : List Proc) (c : Call) (db : Db) (read : List (Key × Value)) (m : Progress) where
  -- where all was read
  whole : (u : HasRead procs c db read m) → u.back ≡ [] → (meaning procs c db).reads ≡ read
  whole u none = u.reads ∙ ap (λ l. read ++ l) none ∙ append-nil read

  at_whole : (u : HasRead procs c db read m) → u.back ≡ [] → IsAt procs c (values (meaning procs c db).reads) u.count m
  at_whole u none = subst (λ rs. IsAt procs c (values rs) u.count m) (sym (whole u none)) u.at

  pub one_read : (u : HasRead procs c db read m) (key : Key) (v : Value) (next : Progress) → next_want m ≡ Read key → v ≡ db key →
      ((vs : List Value) → ahead next vs ≡ ahead m (v ∷ vs)) → next.granted ≡ m.granted → HasRead procs c db (read ++ (key, v) ∷ []) next
  one_read u key v next want is stands granted = by_rest u.back refl
    where
      by_rest : (back : List (Key × Value)) → u.back ≡ back → HasRead procs c db (read ++ (key, v) ∷ []) next
      by_rest [] e = absurd (no_read (slice_get (meaning procs c db).writes u.count) (meaning procs c db).reply key (sym ((wants_are_meaning procs c db m).1 u.count (at_whole u e)).0 ∙ want))
      by_rest (r ∷ back) e =
          let reads : (meaning procs c db).reads ≡ read ++ r ∷ back = u.reads ∙ ap (λ l. read ++ l) e in
          let wanted : Read r.0 ≡ Read key = sym ((wants_are_meaning procs c db m).0 read r back u.count reads u.at) ∙ want in
          let same : r.0 ≡ key = cc in
          let seen : db r.0 ≡ r.1 = seen_behind read r back db (subst (λ rs. Agrees rs db) reads ((meaning_sound procs).seen c db)) in
          let given : r.1 ≡ v = sym seen ∙ ap db same ∙ sym is in
          let row : r ≡ (key, v) = λ i. (same i, given i) in
          let reads' : (meaning procs c db).reads ≡ read ++ (key, v) ∷ back = subst (λ (q : Key × Value). (meaning procs c db).reads ≡ read ++ q ∷ back) row reads in
          record {
            back = back;
            count = u.count;
            reads = reads' ∙ sym (append_assoc read ((key, v) ∷ []) back);
            at = record {
              stands = λ vs. stands vs ∙ u.at.stands (v ∷ vs) ∙ rw (values_push read (key, v) vs) refl;
              granted = granted ∙ u.at.granted;
            };
          }

  pub one_granted : (u : HasRead procs c db read m) (next : Progress) → ((vs : List Value) → ahead next vs ≡ ahead m vs) → next.granted ≡ m.granted + 1 → HasRead procs c db read next
  one_granted u next stands granted = record {
    back = u.back;
    count = u.count + 1;
    reads = u.reads;
    at = record { stands = λ vs. stands vs ∙ u.at.stands vs; granted = granted ∙ ap (λ n. n + 1) u.at.granted };
  }

  pub all_done : (u : HasRead procs c db read m) (reply : Reply) (writes : List (Key × Value)) → next_want m ≡ Finished reply → writes ≡ buffered m →
      ◌≡◌ {A = Effect} (record { reads = read; writes = writes; reply = reply }) (meaning procs c db)
  all_done u reply writes want wrote = by_rest u.back refl
    where
      replied : (o : Option (Key × Value)) (r : Reply) → want_of_write o r ≡ Finished reply → reply ≡ r
      replied None r e = cc
      replied (Some w) r e = cc

      by_rest : (back : List (Key × Value)) → u.back ≡ back → ◌≡◌ {A = Effect} (record { reads = read; writes = writes; reply = reply }) (meaning procs c db)
      by_rest [] e =
          let end = (wants_are_meaning procs c db m).1 u.count (at_whole u e) in
          let reads = sym (whole u e) in
          let said = replied (slice_get (meaning procs c db).writes u.count) (meaning procs c db).reply (sym end.0 ∙ want) in
          let written = wrote ∙ end.1 in
          λ i. record { reads = reads i; writes = written i; reply = said i }
      by_rest (r ∷ back) e =
          let wanted : Read r.0 ≡ Finished reply = sym ((wants_are_meaning procs c db m).0 read r back u.count (u.reads ∙ ap (λ l. read ++ l) e) u.at) ∙ want in cc

-- as the call begins
pub none_read : (procs : List Proc) (c : Call) (db : Db) (read : List (Key × Value)) (m : Progress) → read ≡ [] → IsAt procs c [] 0 m → HasRead procs c db read m
none_read procs c db read m is at = subst (λ (l : List (Key × Value)). HasRead procs c db l m) (sym is) (record { back = (meaning procs c db).reads; count = 0; reads = refl; at = at })
