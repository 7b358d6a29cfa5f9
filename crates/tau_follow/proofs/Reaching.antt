-- How far streams are followed, from where their records stand.
use Rattle.std.proofs.Common.{ℕ, zero, suc, ◌+◌, ◌-◌, ◌≤◌, ◌<◌, Bool, true, false, cond, ◌≡◌, inl, inr, List, [], ◌∷◌, ◌++◌, length, drop, min, None, Some, refl, sym, ap, subst, ◌∙◌, arith, slice_index, set, get_or-set_other, get_or-set_same, append_assoc, append-nil}
use Rattle.std.specs.Prelude.{slice_get, slice_index_or}
use Rattle.std.proofs.lemmas.Bool.{cases_lt, cases_eq}
use Rattle.std.proofs.lemmas.List.{drop_all}
use Rattle.tau_record.specs.declared.entry.Placed.{Placed}
use Rattle.tau_scan.specs.Taken.{Kept}
use Rattle.tau_follow_laws.specs.Following.{Followed, read_to, IsReady, applied, Applies}
use Rattle.tau_epoch_laws.specs.Marked.{last_past}
use Rattle.tau_follow.specs.declared.stage.Stage.{Stage}
use Rattle.tau_follow.specs.Applying.{is_open_stage, reach_by, reaches, ArePassed}

last_get : (q : Placed) (ps : List Placed) (d : Placed) → (slice_index_or (q ∷ ps) (length ps) d).past ≡ last_past q.past ps
last_get q [] d = refl
last_get q (r ∷ ps) d = last_get r ps d

pub read_last : (ps : List Placed) (d : Placed) → 2 ≤ length ps → (slice_index_or ps (length ps - 1) d).past ≡ read_to ps
read_last [] d le = absurd (omega (arith, le))
read_last (p ∷ []) d le = absurd (omega (arith, le))
read_last (p ∷ q ∷ ps) d le =
    let e : length (p ∷ q ∷ ps) - 1 ≡ suc (length ps) = omega arith in
    ap (λ (i : ℕ). (slice_index_or (p ∷ q ∷ ps) i d).past) e ∙ last_get q ps d

-- no record before this index is open
abbrev pub NoneBefore : List Stage → ℕ → Type 0
NoneBefore ss k = (i : ℕ) (s : Stage) → i < k → slice_get ss i ≡ Some s → is_open_stage s ≡ false

pub reach_found : (end k : ℕ) (ps : List Placed) (ss : List Stage) (d : Placed) → length ps ≡ length ss → NoneBefore ss k → ((s : Stage) → slice_get ss k ≡ Some s → is_open_stage s ≡ true) → k < length ps → (slice_index_or ps k d).start ≡ reach_by end ps ss
reach_found end k [] ss d same none found lt = absurd (omega (arith, lt))
reach_found end k (p ∷ ps) [] d same none found lt = absurd (omega (arith, same))
reach_found end zero (p ∷ ps) (s ∷ ss) d same none found lt = sym (ap (λ (b : Bool). cond b p.start (reach_by end ps ss)) (found s refl))
reach_found end (suc k) (p ∷ ps) (s ∷ ss) d same none found lt =
    reach_found end k ps ss d (omega (arith, same)) (λ i x le g. none (suc i) x (omega (arith, le)) g) found (omega (arith, lt)) ∙ sym (ap (λ (b : Bool). cond b p.start (reach_by end ps ss)) (none 0 s (omega arith) refl))

pub reach_none : (end : ℕ) (ps : List Placed) (ss : List Stage) → NoneBefore ss (length ss) → reach_by end ps ss ≡ end
reach_none end [] ss none = refl
reach_none end (p ∷ ps) [] none = refl
reach_none end (p ∷ ps) (s ∷ ss) none =
    ap (λ (b : Bool). cond b p.start (reach_by end ps ss)) (none 0 s (omega arith) refl) ∙ reach_none end ps ss (λ i x le g. none (suc i) x (omega (arith, le)) g)

got_lt : (ss : List Stage) (i : ℕ) (s : Stage) → slice_get ss i ≡ Some s → i < length ss
got_lt [] i s e = absurd cc
got_lt (x ∷ ss) zero s e = omega arith
got_lt (x ∷ ss) (suc i) s e = let h = got_lt ss i s e in omega (arith, h)

-- what was known to be passed, and what was found to be
pub passed_both : (ss : List Stage) (first from found : ℕ) → from ≡ min first (length ss) → NoneBefore ss first → ((i : ℕ) (s : Stage) → from ≤ i → i < found → slice_get ss i ≡ Some s → is_open_stage s ≡ false) → NoneBefore ss found
passed_both ss first from found is known more i s lt g = elim (cases_lt i first) [
  | inl low ↦ known i s low g
  | inr high ↦ more i s (omega (arith, is, high)) lt g
]

pub none_less : (ss : List Stage) (found : ℕ) → NoneBefore ss found → length ss ≤ found → NoneBefore ss (length ss)
none_less ss found none le i s lt g = none i s (omega (arith, lt, le)) g

-- ---- stream by stream

pub drop_got : {A : Type 0} (xs : List A) (j : ℕ) (x : A) → slice_get xs j ≡ Some x → drop j xs ≡ x ∷ drop (j + 1) xs
drop_got [] j x e = absurd cc
drop_got (y ∷ xs) zero x e = let same : y ≡ x = cc in ap (λ z. z ∷ xs) same
drop_got (y ∷ xs) (suc j) x e = let n : suc j + 1 ≡ suc (j + 1) = omega arith in drop_got xs j x e ∙ ap (λ (m : ℕ). x ∷ drop m (y ∷ xs)) (sym n)

pub reaches_next : (streams : List (List Placed)) (stages : List (List Stage)) (j : ℕ) (ps : List Placed) (ss : List Stage) (at : ℕ) (list whole : List ℕ) → slice_get streams j ≡ Some ps → slice_get stages j ≡ Some ss → at ≡ reach_by (read_to ps) ps ss →
    list ++ reaches (drop j streams) (drop j stages) ≡ whole → (list ++ at ∷ []) ++ reaches (drop (j + 1) streams) (drop (j + 1) stages) ≡ whole
reaches_next streams stages j ps ss at list whole e g is so_far =
    append_assoc list (at ∷ []) (reaches (drop (j + 1) streams) (drop (j + 1) stages))
    ∙ ap (λ (v : ℕ). list ++ v ∷ reaches (drop (j + 1) streams) (drop (j + 1) stages)) is
    ∙ sym (ap (λ (l : List ℕ). list ++ l) (ap (λ (xs : List (List Placed)). reaches xs (drop j stages)) (drop_got streams j ps e) ∙ ap (reaches (ps ∷ drop (j + 1) streams)) (drop_got stages j ss g)))
    ∙ so_far

pub reaches_done : (streams : List (List Placed)) (stages : List (List Stage)) (j : ℕ) (list whole : List ℕ) → length streams ≤ j → list ++ reaches (drop j streams) stages ≡ whole → list ≡ whole
reaches_done streams stages j list whole le so_far = sym (append-nil list) ∙ sym (ap (λ (xs : List (List Placed)). list ++ reaches xs stages) (drop_all j streams le)) ∙ so_far

-- what is told of the records and the stages that were got is told of those of the stream
pub reached_at : (streams : List (List Placed)) (stages : List (List Stage)) (firsts : List ℕ) (j : ℕ) (ps : List Placed) (ss : List Stage) (qs : List Placed) (ts : List Stage) (from first at : ℕ) → slice_get streams j ≡ Some ps → slice_get stages j ≡ Some ss →
    qs ≡ ps → ts ≡ ss → from ≡ slice_index firsts j → (NoneBefore ts from → NoneBefore ts first) → (NoneBefore ts from → at ≡ reach_by (read_to qs) qs ts) → ArePassed stages firsts →
    (rs : List Placed) × (us : List Stage) × (slice_get streams j ≡ Some rs) × (slice_get stages j ≡ Some us) × (at ≡ reach_by (read_to rs) rs us) × NoneBefore us first
reached_at streams stages firsts j ps ss qs ts from first at read got records_are stages_are from_is on is passed =
    let none : NoneBefore ss (slice_index firsts j) = λ i s lt g. passed j i ss s got g lt in
    let before : NoneBefore ts from = subst (λ (l : List Stage). NoneBefore l from) (sym stages_are) (subst (NoneBefore ss) (sym from_is) none) in
    (ps, ss, read, got, is before ∙ ap (λ (l : List Placed). reach_by (read_to l) l ts) records_are ∙ ap (reach_by (read_to ps) ps) stages_are, subst (λ (l : List Stage). NoneBefore l first) stages_are (on before))

pub passed_set : (stages : List (List Stage)) (firsts : List ℕ) (j first : ℕ) (ss : List Stage) → ArePassed stages firsts → slice_get stages j ≡ Some ss → NoneBefore ss first → ArePassed stages (set firsts j first)
passed_set stages firsts j first ss passed at none k i tt' s g h lt = elim (cases_eq k j) [
  | inr other ↦ passed k i tt' s g h (subst (λ (m : ℕ). i < m) (get_or-set_other firsts j k first 0 other) lt)
  | inl same ↦
      let e : Some tt' ≡ Some ss = sym g ∙ ap (slice_get stages) same ∙ at in
      let is : tt' ≡ ss = cc in
      let there : slice_get ss i ≡ Some s = ap (λ (l : List Stage). slice_get l i) (sym is) ∙ h in
      elim (cases_lt j (length firsts)) [
        | inl within ↦ none i s (subst (λ (m : ℕ). i < m) (ap (slice_index (set firsts j first)) same ∙ get_or-set_same firsts j first 0 within) lt) there
        | inr beyond ↦ absurd (let z = past_end (set firsts j first) j (subst (λ (n : ℕ). n ≤ j) (sym (set_long firsts j first)) beyond) in let y = subst (λ (m : ℕ). i < slice_index (set firsts j first) m) same lt in omega (arith, z, y))
      ]
]
  where
    past_end : (xs : List ℕ) (j : ℕ) → length xs ≤ j → slice_index xs j ≡ 0
    past_end [] j le = refl
    past_end (x ∷ xs) zero le = absurd (omega (arith, le))
    past_end (x ∷ xs) (suc j) le = past_end xs j (omega (arith, le))

    set_long : (xs : List ℕ) (j v : ℕ) → length (set xs j v) ≡ length xs
    set_long [] j v = refl
    set_long (x ∷ xs) zero v = refl
    set_long (x ∷ xs) (suc j) v = ap suc (set_long xs j v)

-- of one stream the records stand otherwise
pub reaches_put : (streams : List (List Placed)) (stages : List (List Stage)) (j : ℕ) (ps : List Placed) (ss : List Stage) → slice_get streams j ≡ Some ps → reaches streams (set stages j ss) ≡ set (reaches streams stages) j (reach_by (read_to ps) ps ss)
reaches_put [] stages j ps ss e = absurd (let bad : None ≡ Some ps = e in cc)
reaches_put (qs ∷ streams) [] j ps ss e = refl
reaches_put (qs ∷ streams) (s ∷ stages) zero ps ss e = (let same : qs ≡ ps = cc in ap (λ (l : List Placed). reach_by (read_to l) l ss ∷ reaches streams stages) same)
reaches_put (qs ∷ streams) (s ∷ stages) (suc j) ps ss e = ap (λ (l : List ℕ). reach_by (read_to qs) qs s ∷ l) (reaches_put streams stages j ps ss e)

set_there : {A : Type 0} (xs : List A) (j : ℕ) (x y : A) → slice_get (set xs j x) j ≡ Some y → set xs j y ≡ set xs j x
set_there [] j x y e = refl
set_there (z ∷ xs) zero x y e = (let same : x ≡ y = cc in ap (λ l. l ∷ xs) (sym same))
set_there (z ∷ xs) (suc j) x y e = ap (λ l. z ∷ l) (set_there xs j x y e)

pub reaches_renewed : (streams : List (List Placed)) (before now : List (List Stage)) (reached : List ℕ) (j at : ℕ) (ps : List Placed) (ss here : List Stage) → now ≡ set before j ss → reached ≡ reaches streams before → slice_get streams j ≡ Some ps → slice_get now j ≡ Some here →
    at ≡ reach_by (read_to ps) ps here → set reached j at ≡ reaches streams now
reaches_renewed streams before now reached j at ps ss here now_is is e g at_is =
    let there : slice_get (set before j ss) j ≡ Some here = ap (λ (l : List (List Stage)). slice_get l j) (sym now_is) ∙ g in
    ap (set reached j) at_is ∙ ap (λ (l : List ℕ). set l j (reach_by (read_to ps) ps here)) is ∙ sym (reaches_put streams before j ps here e) ∙ ap (reaches streams) (set_there before j ss here there ∙ sym now_is)

-- of one stream other records are read, and they stand otherwise
reaches_both : (streams : List (List Placed)) (stages : List (List Stage)) (j : ℕ) (ps : List Placed) (ss : List Stage) → reaches (set streams j ps) (set stages j ss) ≡ set (reaches streams stages) j (reach_by (read_to ps) ps ss)
reaches_both [] stages j ps ss = refl
reaches_both (qs ∷ streams) [] zero ps ss = refl
reaches_both (qs ∷ streams) [] (suc j) ps ss = refl
reaches_both (qs ∷ streams) (s ∷ stages) zero ps ss = refl
reaches_both (qs ∷ streams) (s ∷ stages) (suc j) ps ss = ap (λ (l : List ℕ). reach_by (read_to qs) qs s ∷ l) (reaches_both streams stages j ps ss)

pub reaches_renewed_on : (old streams : List (List Placed)) (before now : List (List Stage)) (reached : List ℕ) (j at : ℕ) (qs ps : List Placed) (ss here : List Stage) → streams ≡ set old j qs → now ≡ set before j ss → reached ≡ reaches old before →
    slice_get streams j ≡ Some ps → slice_get now j ≡ Some here → at ≡ reach_by (read_to ps) ps here → set reached j at ≡ reaches streams now
reaches_renewed_on old streams before now reached j at qs ps ss here streams_are now_is is e g at_is =
    let read : slice_get (set old j qs) j ≡ Some ps = ap (λ (l : List (List Placed)). slice_get l j) (sym streams_are) ∙ e in
    let there : slice_get (set before j ss) j ≡ Some here = ap (λ (l : List (List Stage)). slice_get l j) (sym now_is) ∙ g in
    ap (set reached j) at_is ∙ ap (λ (l : List ℕ). set l j (reach_by (read_to ps) ps here)) is ∙ sym (reaches_both old before j ps here)
    ∙ ap (λ (l : List (List Placed)). reaches l (set before j here)) (set_there old j qs ps read ∙ sym streams_are)
    ∙ ap (reaches streams) (set_there before j ss here there ∙ sym now_is)

-- ---- one record after others

pub applies_push : (s t : Followed) (news : List Kept) (r : Kept) → Applies s news t → IsReady t r → Applies s (news ++ r ∷ []) (applied t r)
applies_push s t [] r h is = (subst (λ (z : Followed). IsReady z r) h is, ap (λ (z : Followed). applied z r) h)
applies_push s t (q ∷ news) r h is = (h.0, applies_push (applied s q) t news r h.1 is)
