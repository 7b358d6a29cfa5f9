-- Marks that are set key by key.
use Rattle.std.proofs.Common.{ℕ, ◌+◌, ◌<◌, ◌≤◌, Bool, true, false, ◌||◌, ◌≡◌, inl, inr, List, [], ◌∷◌, ◌++◌, length, take, drop, get_or, refl, sym, ap, subst, ◌∙◌, cond, drop-cons, add-one, arith, suc, Option, replicate}
use Rattle.std.specs.Prelude.{Some, unwrap_or, if◌then◌else◌}
use Rattle.std.specs.List.{list_any}
use Rattle.std.proofs.lemmas.Bool.{both_ways, cases_Bool}
use Rattle.std.proofs.lemmas.List.{take_more, drop_all}
use Rattle.tau_base.specs.declared.value.Key.{Key}
use Rattle.tau_base.specs.declared.value.Value.{Value}
use Rattle.tau_base.specs.Database.{same_key}
use Rattle.tau_base.proofs.Keys.{same_key_is, same_key_sym, same_key_equal}
use Rattle.tau_proc.specs.Effect.{Effect, has_key}
use Rattle.tau_model.specs.Store.{is_key}
use Rattle.tau_inspect.specs.declared.taint.Mark.{Mark}
use Rattle.tau_inspect.specs.Taint.{Marks, unmarked, any_written, any_touched, is_tainted, marked, pass, taints}

abbrev no_mark : Mark
no_mark = record { read = false; written = false }

-- an entry that is set in a map
pub set_there : (old new : Key → Option Mark) (key : Key) (m : Mark) → ((q : Key) → new q ≡ cond (is_key key q) (Some m) (old q)) →
    (q : Key) → unwrap_or (new q) no_mark ≡ cond (same_key q key) m (unwrap_or (old q) no_mark)
set_there old new key m h q = elim (cases_Bool (same_key q key)) [
  | inl e ↦ rw (h q, sym (same_key_equal key q), same_key_sym key q, e) refl
  | inr e ↦ rw (h q, sym (same_key_equal key q), same_key_sym key q, e) refl
]

has_more : (k : Key) (xs : List (Key × Value)) (r : Key × Value) → has_key k (xs ++ r ∷ []) ≡ (same_key k r.0 || has_key k xs)
has_more k [] r = refl
has_more k (x ∷ xs) r = ap (λ b. same_key k x.0 || b) (has_more k xs r) ∙ swap (same_key k x.0) (same_key k r.0) (has_key k xs)
  where
    swap : (a b c : Bool) → (a || (b || c)) ≡ (b || (a || c))
    swap true true c = refl
    swap true false c = refl
    swap false b c = refl

module _ (rows : List (Key × Value)) (i : ℕ) (d : Key × Value) (lt : i < length rows) where
  next : take (i + 1) rows ≡ take i rows ++ get_or rows i d ∷ []
  next = take_more rows i d lt

  -- the keys up to here are marked as read
  pub read_more : (old now new : Marks) (key : Key) → key ≡ (get_or rows i d).0 → ((q : Key) → now q ≡ record { read = has_key q (take i rows) || (old q).read; written = (old q).written }) →
      ((q : Key) → new q ≡ cond (same_key q key) (record { read = true; written = (now key).written }) (now q)) →
      (q : Key) → new q ≡ record { read = has_key q (take (i + 1) rows) || (old q).read; written = (old q).written }
  read_more old now new key is h set q = elim (cases_Bool (same_key q key)) [
    | inl e ↦
        let at : q ≡ key = same_key_is q key e in
        let keyed : same_key q (get_or rows i d).0 ≡ true = subst (λ (k : Key). same_key q k ≡ true) is e in
        let has : has_key q (take (i + 1) rows) ≡ true = rw next (rw has_more (rw keyed refl)) in
        let w : (now key).written ≡ (old q).written = subst (λ (k : Key). (now k).written ≡ (old q).written) at (ap (λ (m : Mark). m.written) (h q)) in
        rw (set q, e, has, w) refl
    | inr e ↦
        let keyed : same_key q (get_or rows i d).0 ≡ false = subst (λ (k : Key). same_key q k ≡ false) is e in
        let has : has_key q (take (i + 1) rows) ≡ has_key q (take i rows) = rw next (rw has_more (rw keyed refl)) in
        rw (set q, e, has) (h q)
  ]

  pub written_more : (old now new : Marks) (key : Key) → key ≡ (get_or rows i d).0 → ((q : Key) → now q ≡ record { read = (old q).read; written = has_key q (take i rows) || (old q).written }) →
      ((q : Key) → new q ≡ cond (same_key q key) (record { read = (now key).read; written = true }) (now q)) →
      (q : Key) → new q ≡ record { read = (old q).read; written = has_key q (take (i + 1) rows) || (old q).written }
  written_more old now new key is h set q = elim (cases_Bool (same_key q key)) [
    | inl e ↦
        let at : q ≡ key = same_key_is q key e in
        let keyed : same_key q (get_or rows i d).0 ≡ true = subst (λ (k : Key). same_key q k ≡ true) is e in
        let has : has_key q (take (i + 1) rows) ≡ true = rw next (rw has_more (rw keyed refl)) in
        let w : (now key).read ≡ (old q).read = subst (λ (k : Key). (now k).read ≡ (old q).read) at (ap (λ (m : Mark). m.read) (h q)) in
        rw (set q, e, has, w) refl
    | inr e ↦
        let keyed : same_key q (get_or rows i d).0 ≡ false = subst (λ (k : Key). same_key q k ≡ false) is e in
        let has : has_key q (take (i + 1) rows) ≡ has_key q (take i rows) = rw next (rw has_more (rw keyed refl)) in
        rw (set q, e, has) (h q)
  ]

-- what the marks say of the next call, and then of the others
pub taints_next : (marks : Marks) (es : List Effect) (ms : List Bool) (i : ℕ) (e : Effect) → i < length es → length ms ≡ length es → e ≡ get_or es i e →
    taints marks (drop i es) (drop i ms) ≡ is_tainted marks e ∷ taints (pass (get_or ms i false) e marks) (drop (i + 1) es) (drop (i + 1) ms)
unfolding taints
taints_next marks es ms i e lt same is =
    let first : drop i es ≡ e ∷ drop (i + 1) es = drop-cons es i e lt ∙ ap (λ (x : Effect). x ∷ drop (suc i) es) (sym is) ∙ ap (λ n. e ∷ drop n es) (sym (add-one i)) in
    let other : drop i ms ≡ get_or ms i false ∷ drop (i + 1) ms = drop-cons ms i false (omega arith) ∙ ap (λ n. get_or ms i false ∷ drop n ms) (sym (add-one i)) in
    rw (first, other) refl

pub taints_end : (marks : Marks) (es : List Effect) (ms : List Bool) (i : ℕ) → length es ≤ i → taints marks (drop i es) (drop i ms) ≡ []
unfolding taints
taints_end marks es ms i le = ap (λ (l : List Effect). taints marks l (drop i ms)) (drop_all i es le)

-- without a missing call nothing is marked
none_written : (rows : List (Key × Value)) → any_written unmarked rows ≡ false
none_written [] = refl
none_written (r ∷ rows) = none_written rows

none_touched : (rows : List (Key × Value)) → any_touched unmarked rows ≡ false
none_touched [] = refl
none_touched (r ∷ rows) = none_touched rows

untainted : (e : Effect) → is_tainted unmarked e ≡ false
untainted e = rw (none_written e.reads, none_touched e.writes) refl

unmarked_stays : (e : Effect) → pass false e unmarked ≡ unmarked
unmarked_stays e = ap (λ (b : Bool). if false || b then marked e unmarked else unmarked) (untainted e)

pub none_tainted : (es : List Effect) (ms : List Bool) → length ms ≡ length es → list_any (λ b. b) ms ≡ false → taints unmarked es ms ≡ replicate (length es) false
unfolding taints
none_tainted [] ms same none = refl
none_tainted (e ∷ es) [] same none = absurd (omega (arith, same))
none_tainted (e ∷ es) (true ∷ ms) same none = absurd (both_ways true none refl)
none_tainted (e ∷ es) (false ∷ ms) same none =
    let rest : taints (pass false e unmarked) es ms ≡ replicate (length es) false = ap (λ (marks : Marks). taints marks es ms) (unmarked_stays e) ∙ none_tainted es ms (omega (arith, same)) none in
    λ i. untainted e i ∷ rest i
