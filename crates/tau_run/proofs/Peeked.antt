-- What is peeked of a call in one try, and what is seen of it under locks.
use Rattle.std.proofs.Common.{ℕ, ◌+◌, Bool, true, ◌≡◌, inl, inr, List, [], ◌∷◌, ◌++◌, refl, sym, ap, subst, ◌∙◌, Option, append_assoc, append-nil}
use Rattle.std.specs.Prelude.{Some, None}
use Rattle.std.specs.Map.{lookup}
use Rattle.std.proofs.lemmas.Bool.{cases_Bool}
use Rattle.tau_base.specs.Database.{same_key}
use Rattle.tau_base.specs.declared.value.Call.{Call}
use Rattle.tau_base.specs.declared.value.Key.{Key}
use Rattle.tau_base.specs.declared.value.Value.{Value}
use Rattle.tau_base.proofs.Keys.{same_key_itself}
use Rattle.tau_proc.specs.Effect.{Effect}
use Rattle.tau_proc.specs.Meaning.{Running, Action, Go, Ask, Refuse, action, set_register, begun, Built, Puts, Adds, Gets, Wrong, built_in, proc_of}
use Rattle.tau_proc.specs.declared.proc.Proc.{Proc}
use Rattle.tau_proc.specs.declared.step.Step.{Step}
use Rattle.tau_run.specs.Fits as spec
use Rattle.tau_run.specs.Fits.{IsFront}
use Rattle.tau_machine.specs.Stage.{Stage, Wants, Ends, more, looked, goes, stage_of, stage_in, stage_by, built_seen, built_stage, stage}

-- a key that is wanted has no value yet

looked_unseen : (k : Key) (seen : List (Key × Value)) (o : Option Value) (key : Key) (r : Running) (into : ℕ) (there : Running → Stage) → lookup (same_key key) seen ≡ o →
    ((next : Running) (rs : List (Key × Value)) → there next ≡ Wants rs k → lookup (same_key k) seen ≡ None) → (rs : List (Key × Value)) → looked o key r into there ≡ Wants rs k → lookup (same_key k) seen ≡ None
looked_unseen k seen None key r into there at h rs is = let same : key ≡ k = cc in subst (λ (y : Key). lookup (same_key y) seen ≡ None) same at
looked_unseen k seen (Some v) key r into there at h rs is = by (there (set_register r into v)) refl is
  where
    by : (s : Stage) → there (set_register r into v) ≡ s → more key v s ≡ Wants rs k → lookup (same_key k) seen ≡ None
    by (Wants ls y) p q = let same : y ≡ k = cc in h (set_register r into v) ls (p ∙ ap (λ (z : Key). Wants ls z) same)
    by (Ends e) p q = cc

goes_unseen : (k : Key) (a : Action) (r : Running) (n : ℕ) (seen : List (Key × Value)) (there : Running → Stage) →
    ((next : Running) (rs : List (Key × Value)) → there next ≡ Wants rs k → lookup (same_key k) seen ≡ None) → (rs : List (Key × Value)) → goes a r n seen there ≡ Wants rs k → lookup (same_key k) seen ≡ None
goes_unseen k (Go next) r n seen there h rs is = h next rs is
goes_unseen k (Ask key into) r n seen there h rs is = looked_unseen k seen (lookup (same_key key) seen) key r into there refl h rs is
goes_unseen k Refuse r n seen there h rs is = cc

run_unseen : (k : Key) (args : List Value) (ss : List Step) (n : ℕ) (r : Running) (seen rs : List (Key × Value)) → stage_of args ss n r seen ≡ Wants rs k → lookup (same_key k) seen ≡ None
unfolding stage_of
run_unseen k args [] n r seen rs is = cc
run_unseen k args (s ∷ ss) n r seen rs is =
    goes_unseen k (action args r s) r n seen (λ next. stage_of args ss (n + 1) next seen) (λ next ls. run_unseen k args ss (n + 1) next seen ls) rs is

seen_unseen : (k : Key) (b : Built) (key : Key) (seen : List (Key × Value)) (o : Option Value) → lookup (same_key key) seen ≡ o → (rs : List (Key × Value)) → built_seen b key o ≡ Wants rs k → lookup (same_key k) seen ≡ None
seen_unseen k b key seen None at rs is = let same : key ≡ k = cc in subst (λ (y : Key). lookup (same_key y) seen ≡ None) same at
seen_unseen k b key seen (Some v) at rs is = cc

built_unseen : (k : Key) (b : Built) (seen rs : List (Key × Value)) → built_stage b seen ≡ Wants rs k → lookup (same_key k) seen ≡ None
built_unseen k (Puts key v) seen rs is = cc
built_unseen k (Adds key n) seen rs is = seen_unseen k (Adds key n) key seen (lookup (same_key key) seen) refl rs is
built_unseen k (Gets key) seen rs is = seen_unseen k (Gets key) key seen (lookup (same_key key) seen) refl rs is
built_unseen k Wrong seen rs is = cc

pub wants_unseen : (procs : List Proc) (c : Call) (seen rs : List (Key × Value)) (k : Key) → stage procs c seen ≡ Wants rs k → lookup (same_key k) seen ≡ None
wants_unseen procs c seen rs k = by (built_in c)
  where
    at : (p : Option Proc) → stage_in p c seen ≡ Wants rs k → lookup (same_key k) seen ≡ None
    at None is = cc
    at (Some p) is = run_unseen k c.args.items p.steps 1 begun seen rs is

    by : (b : Option Built) → stage_by b (proc_of procs c) c seen ≡ Wants rs k → lookup (same_key k) seen ≡ None
    by (Some b) is = built_unseen k b seen rs is
    by None is = at (proc_of procs c) is

wants_same : (a b : List (Key × Value)) (x y : Key) → Wants a x ≡ Wants b y → x ≡ y
wants_same a b x y e = cc

wants_ends : (a : List (Key × Value)) (x : Key) (e : Effect) → Wants a x ≡ Ends e → ⊥
wants_ends a x e h = cc

some_same : (a b : Value) → Some a ≡ Some b → a ≡ b
some_same a b e = cc

lookup_first : (p : Key → Bool) (xs : List (Key × Value)) (k : Key) (v : Value) (ys : List (Key × Value)) → lookup p xs ≡ None → p k ≡ true → lookup p (xs ++ (k, v) ∷ ys) ≡ Some v
lookup_first p [] k v ys none is = rw is refl
lookup_first p (x ∷ xs) k v ys none is = elim (cases_Bool (p x.0)) [
  | inl yes' ↦ let bad : Some x.1 ≡ None = rw yes' at none in cc
  | inr no' ↦ rw no' (lookup_first p xs k v ys (rw no' at none) is)
]

module _ (procs : List Proc) (c : Call) where
  abbrev Asks : List (Key × Value) → List (Key × Value) → Type 0
  Asks front ps = spec.Asks procs c front ps

  asks_last : (front ps reads : List (Key × Value)) (k : Key) (v : Value) → Asks front ps → stage procs c (front ++ ps) ≡ Wants reads k → Asks front (ps ++ (k, v) ∷ [])
  asks_last front [] reads k v a w = ((reads, subst (λ (l : List (Key × Value)). stage procs c l ≡ Wants reads k) (append-nil front) w), tt)
  asks_last front (r ∷ rs) reads k v a w =
      (a.0, asks_last (front ++ r ∷ []) rs reads k v a.1 (subst (λ (l : List (Key × Value)). stage procs c l ≡ Wants reads k) (sym (append_assoc front (r ∷ []) rs)) w))

  -- one key more is peeked
  pub asks_more : (ps reads : List (Key × Value)) (k : Key) (v : Value) → Asks [] ps → stage procs c ps ≡ Wants reads k → Asks [] (ps ++ (k, v) ∷ [])
  asks_more ps reads k v a w = asks_last [] ps reads k v a w

  asks_at : (front mid : List (Key × Value)) (r : Key × Value) (back : List (Key × Value)) → Asks front (mid ++ r ∷ back) → (reads : List (Key × Value)) × (stage procs c (front ++ mid) ≡ Wants reads r.0)
  asks_at front [] r back a = (a.0.0, subst (λ (l : List (Key × Value)). stage procs c l ≡ Wants a.0.0 r.0) (sym (append-nil front)) a.0.1)
  asks_at front (x ∷ mid) r back a =
      let (reads, at) = asks_at (front ++ x ∷ []) mid r back a.1 in (reads, subst (λ (l : List (Key × Value)). stage procs c l ≡ Wants reads r.0) (append_assoc front (x ∷ []) mid) at)

  locked_by : (ps seen back reads : List (Key × Value)) (k : Key) (row : Value) (e : Effect) → Asks [] (seen ++ back) → stage procs c seen ≡ Wants reads k → stage procs c (seen ++ back) ≡ Ends e →
      lookup (same_key k) (seen ++ back) ≡ Some row → IsFront (seen ++ (k, row) ∷ []) (seen ++ back)
  locked_by ps seen [] reads k row e asks wants ends found =
      absurd (wants_ends reads k e (sym wants ∙ subst (λ (l : List (Key × Value)). stage procs c l ≡ Ends e) (append-nil seen) ends))
  locked_by ps seen (r ∷ back) reads k row e asks wants ends found =
      let there = asks_at [] seen r back asks in
      let same : k ≡ r.0 = wants_same reads there.0 k r.0 (sym wants ∙ there.1) in
      let none : lookup (same_key r.0) seen ≡ None = wants_unseen procs c seen there.0 r.0 there.1 in
      let first : lookup (same_key r.0) (seen ++ r ∷ back) ≡ Some r.1 = lookup_first (same_key r.0) seen r.0 r.1 back none (same_key_itself r.0) in
      let value : row ≡ r.1 = some_same row r.1 (sym found ∙ ap (λ (y : Key). lookup (same_key y) (seen ++ r ∷ back)) same ∙ first) in
      (back, sym (append_assoc seen (r ∷ []) back) ∙ ap (λ (x : Key × Value). (seen ++ x ∷ []) ++ back) (λ i. (sym same i, sym value i)))

  -- a key that is read under its lock with the value that was peeked
  pub front_locked : (ps seen reads : List (Key × Value)) (k : Key) (row : Value) (e : Effect) → Asks [] ps → IsFront seen ps → stage procs c seen ≡ Wants reads k → stage procs c ps ≡ Ends e →
      lookup (same_key k) ps ≡ Some row → IsFront (seen ++ (k, row) ∷ []) ps
  front_locked ps seen reads k row e asks (back, is) wants ends found =
      subst (λ (l : List (Key × Value)). IsFront (seen ++ (k, row) ∷ []) l) (sym is)
      (locked_by ps seen back reads k row e (subst (Asks []) is asks) wants (subst (λ (l : List (Key × Value)). stage procs c l ≡ Ends e) is ends)
      (subst (λ (l : List (Key × Value)). lookup (same_key k) l ≡ Some row) is found))

  ended_by : (seen back : List (Key × Value)) (e : Effect) → Asks [] (seen ++ back) → stage procs c seen ≡ Ends e → seen ≡ seen ++ back
  ended_by seen [] e asks ends = sym (append-nil seen)
  ended_by seen (r ∷ back) e asks ends = let there = asks_at [] seen r back asks in absurd (wants_ends there.0 r.0 e (sym there.1 ∙ ends))

  -- a call that has ended on what it has seen has seen all that was peeked
  pub front_ended : (ps seen : List (Key × Value)) (e : Effect) → Asks [] ps → IsFront seen ps → stage procs c seen ≡ Ends e → seen ≡ ps
  front_ended ps seen e asks (back, is) ends = ended_by seen back e (subst (Asks []) is asks) ends ∙ sym is
