-- Machines that were given the values seen.
use Rattle.std.proofs.Common.{ℕ, ◌≡◌, List, [], ◌∷◌, ◌++◌, refl, sym, ap, subst, ◌∙◌, arith, inl, inr, length-append}
use Rattle.std.specs.Prelude.{Some, None, Option, slice_get}
use Rattle.std.specs.Map.{lookup}
use Rattle.std.proofs.lemmas.Bool.{cases_Bool}
use Rattle.tau_base.specs.declared.value.Call.{Call}
use Rattle.tau_base.specs.declared.value.Key.{Key}
use Rattle.tau_base.specs.declared.value.Value.{Value}
use Rattle.tau_base.specs.Database.{same_key}
use Rattle.tau_base.proofs.Keys.{same_key_itself}
use Rattle.tau_proc.specs.declared.proc.Proc.{Proc}
use Rattle.tau_proc.specs.declared.reply.Reply.{Reply}
use Rattle.tau_proc.specs.declared.reply.Want.TheVariants.{Read}
use Rattle.tau_proc.specs.Progress.{Progress, IsAt, ahead, next_want, want_of, want_of_write}
use Rattle.tau_proc.specs.Stage.{Stage, Wants, Ends, stage, values, Asked}
use Rattle.tau_proc.proofs.Courses.{is_at_now, is_at_gives}
use Rattle.tau_txn.specs.Progress.{AreSeen, Follows}

asked_snoc : (at : List Value → Stage) (rs : List (Key × Value)) (r : Key × Value) → Asked at rs → at (values rs) ≡ Wants r.0 → Asked at (rs ++ r ∷ [])
asked_snoc at [] r h w = (w, tt)
asked_snoc at (x ∷ rs) r h w = (h.0, asked_snoc (λ vs. at (x.1 ∷ vs)) rs r h.1 w)

values_snoc : (rs : List (Key × Value)) (r : Key × Value) → values (rs ++ r ∷ []) ≡ values rs ++ r.1 ∷ []
values_snoc [] r = refl
values_snoc (x ∷ rs) r = ap (λ (l : List Value). x.1 ∷ l) (values_snoc rs r)

saw_snoc : (seen rs : List (Key × Value)) (r : Key × Value) → AreSeen seen rs → lookup (same_key r.0) seen ≡ Some r.1 → AreSeen seen (rs ++ r ∷ [])
saw_snoc seen [] r h e = (e, tt)
saw_snoc seen (x ∷ rs) r h e = (h.0, saw_snoc seen rs r h.1 e)

lookup_more : (k : Key) (xs ys : List (Key × Value)) (v : Value) → lookup (same_key k) xs ≡ Some v → lookup (same_key k) (xs ++ ys) ≡ Some v
lookup_more k [] ys v e = cc
lookup_more k (x ∷ xs) ys v e = elim (cases_Bool (same_key k x.0)) [
  | inl is ↦ rw is (rw is at e)
  | inr no' ↦ rw no' (lookup_more k xs ys v (rw no' at e))
]

lookup_last : (xs : List (Key × Value)) (k : Key) (v : Value) → lookup (same_key k) xs ≡ None → lookup (same_key k) (xs ++ (k, v) ∷ []) ≡ Some v
lookup_last [] k v e = rw (same_key_itself k) refl
lookup_last (x ∷ xs) k v e = elim (cases_Bool (same_key k x.0)) [
  | inl yes' ↦ let bad : Some x.1 ≡ None = rw yes' at e in cc
  | inr no' ↦ rw no' (lookup_last xs k v (rw no' at e))
]

saw_more : (seen later rs : List (Key × Value)) → AreSeen seen rs → AreSeen (seen ++ later) rs
saw_more seen later [] h = tt
saw_more seen later (x ∷ rs) h = (lookup_more x.0 seen later x.1 h.0, saw_more seen later rs h.1)

-- a row is wanted where the machine stands at it
pub read_wants : (m : Progress) (k : Key) → next_want m ≡ Read k → ahead m [] ≡ Wants k
read_wants m k e = at (ahead m []) refl
  where
    write : (o : Option (Key × Value)) (reply : Reply) → want_of_write o reply ≡ Read k → ⊥
    write (Some w) reply is = cc
    write None reply is = cc

    at : (s : Stage) → ahead m [] ≡ s → ahead m [] ≡ Wants k
    at (Wants y) p = let there : Read y ≡ Read k = sym (ap (λ (s : Stage). want_of s m.granted) p) ∙ e in let same : y ≡ k = cc in p ∙ ap Wants same
    at (Ends ws reply) p = absurd (write (slice_get ws m.granted) reply (sym (ap (λ (s : Stage). want_of s m.granted) p) ∙ e))

module _ (procs : List Proc) (c : Call) (seen : List (Key × Value)) (m : Progress) (k : Key) (v : Value) (new : Progress)
    (wants : ahead m [] ≡ Wants k) (gives : (vs : List Value) → ahead new vs ≡ ahead m (v ∷ vs)) (granted : new.granted ≡ m.granted) where
  -- one more read, of a value that was seen
  pub follows_again : Follows procs c seen m → lookup (same_key k) seen ≡ Some v → Follows procs c seen new
  follows_again f found =
      let there : stage procs c (values f.reads) ≡ Wants k = sym (is_at_now procs c (values f.reads) m.granted m f.at) ∙ wants in
      record {
        reads = f.reads ++ (k, v) ∷ [];
        asked = asked_snoc (stage procs c) f.reads (k, v) f.asked there;
        saw = saw_snoc seen f.reads (k, v) f.saw found;
        few = (let a = f.few in omega (arith, length-append f.reads ((k, v) ∷ [])));
        at = subst (λ (vs : List Value). IsAt procs c vs new.granted new) (sym (values_snoc f.reads (k, v)))
            (subst (λ (n : ℕ). IsAt procs c (values f.reads ++ v ∷ []) n new) (sym granted) (is_at_gives procs c (values f.reads) m.granted m f.at v new gives granted));
      }

  -- one more read, of a value that was not seen before
  pub follows_read : Follows procs c seen m → lookup (same_key k) seen ≡ None → Follows procs c (seen ++ (k, v) ∷ []) new
  follows_read f none =
      let there : stage procs c (values f.reads) ≡ Wants k = sym (is_at_now procs c (values f.reads) m.granted m f.at) ∙ wants in
      record {
        reads = f.reads ++ (k, v) ∷ [];
        asked = asked_snoc (stage procs c) f.reads (k, v) f.asked there;
        saw = saw_snoc (seen ++ (k, v) ∷ []) f.reads (k, v) (saw_more seen ((k, v) ∷ []) f.reads f.saw) (lookup_last seen k v none);
        few = (let a = f.few in omega (arith, length-append f.reads ((k, v) ∷ []), length-append seen ((k, v) ∷ [])));
        at = subst (λ (vs : List Value). IsAt procs c vs new.granted new) (sym (values_snoc f.reads (k, v)))
            (subst (λ (n : ℕ). IsAt procs c (values f.reads ++ v ∷ []) n new) (sym granted) (is_at_gives procs c (values f.reads) m.granted m f.at v new gives granted));
      }
