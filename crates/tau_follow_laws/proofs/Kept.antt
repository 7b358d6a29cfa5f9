-- Records of streams with the epochs of which they are, and where they start.
use Rattle.std.proofs.Common.{ℕ, suc, Bool, true, ◌≡◌, inl, inr, List, [], ◌∷◌, ◌++◌, sym, ap, subst}
use Rattle.std.specs.List.{filter}
use Rattle.std.proofs.lemmas.Bool.{cases_Bool}
use Rattle.tau_model.specs.History.{Member}
use Rattle.tau_model.proofs.Orders.{member_front, member_back}
use Rattle.tau_model.proofs.Logged.{member_filtered}
use Rattle.tau_record.specs.declared.entry.Placed.{Placed}
use Rattle.tau_record.specs.Record.{epoch_after}
use Rattle.tau_scan.specs.Taken.{Kept, kept_as, kept_in, kept_from}
use Rattle.tau_epoch_laws.specs.Continues.{Grown}
use Rattle.tau_epoch_laws.proofs.Parts.{in_either}
use Rattle.tau_follow_laws.specs.Following.{chosen_in, chosen_from}

-- ---- members

pub member_kept : {A : Type 0} (p : A → Bool) (a : A) (xs : List A) → Member a xs → p a ≡ true → Member a (filter p xs)
member_kept p a [] m e = m
member_kept p a (x ∷ xs) (inl is) e = rw (subst (λ (y : _). p y ≡ true) (sym is) e) (inl is)
member_kept p a (x ∷ xs) (inr m) e = elim (cases_Bool (p x)) [ inl t ↦ rw t (inr (member_kept p a xs m e)) | inr f ↦ rw f (member_kept p a xs m e) ]

-- ---- the records of a stream, each with its epoch

abbrev pub Dated : Type 0
Dated = ℕ × Kept

abbrev pub dated_as : ℕ → List Kept → List Dated
dated_as k [] = []
dated_as k (r ∷ rs) = (k, r) ∷ dated_as k rs

abbrev pub dated_in : ℕ → ℕ → List Placed → List Dated
dated_in j k [] = []
dated_in j k (p ∷ ps) = dated_as k (kept_as j p p.entry) ++ dated_in j (epoch_after k p.entry) ps

abbrev pub dated_from : ℕ → List (List Placed) → List Dated
dated_from j [] = []
dated_from j (ps ∷ streams) = dated_in j 0 ps ++ dated_from (suc j) streams

pub dated_there : (k : ℕ) (rs : List Kept) (r : Kept) → Member r rs → Member (k, r) (dated_as k rs)
dated_there k [] r m = m
dated_there k (q ∷ rs) r (inl e) = inl (ap (λ (x : Kept). (k, x)) e)
dated_there k (q ∷ rs) r (inr m) = inr (dated_there k rs r m)

pub dated_is : (k : ℕ) (rs : List Kept) (x : Dated) → Member x (dated_as k rs) → (k ≡ x.0) × Member x.1 rs
dated_is k [] x m = absurd m
dated_is k (q ∷ rs) x (inl e) = (ap (λ (y : Dated). y.0) e, inl (ap (λ (y : Dated). y.1) e))
dated_is k (q ∷ rs) x (inr m) = let w = dated_is k rs x m in (w.0, inr w.1)

-- ---- what a test of the epoch and the vector keeps

module _ (test : ℕ → List ℕ → Bool) where
  abbrev Passes : Dated → Type 0
  Passes x = test x.0 x.1.place.dep ≡ true

  pub chosen_is : (j k : ℕ) (ps : List Placed) (r : Kept) → Member r (chosen_in test j k ps) → (e : ℕ) × Member (e, r) (dated_in j k ps) × (test e r.place.dep ≡ true)
  chosen_is j k [] r m = absurd m
  chosen_is j k (p ∷ ps) r m = elim (in_either r (filter (λ (q : Kept). test k q.place.dep) (kept_as j p p.entry)) (chosen_in test j (epoch_after k p.entry) ps) m) [
    | inl here ↦
        let w = member_filtered (λ (q : Kept). test k q.place.dep) r (kept_as j p p.entry) here in
        (k, member_front (k, r) (dated_as k (kept_as j p p.entry)) (dated_in j (epoch_after k p.entry) ps) (dated_there k (kept_as j p p.entry) r w.0), w.1)
    | inr there ↦
        let w = chosen_is j (epoch_after k p.entry) ps r there in
        (w.0, member_back (w.0, r) (dated_as k (kept_as j p p.entry)) (dated_in j (epoch_after k p.entry) ps) w.1, w.2)
  ]

  pub is_chosen : (j k : ℕ) (ps : List Placed) (x : Dated) → Member x (dated_in j k ps) → Passes x → Member x.1 (chosen_in test j k ps)
  is_chosen j k [] x m e = absurd m
  is_chosen j k (p ∷ ps) x m e = elim (in_either x (dated_as k (kept_as j p p.entry)) (dated_in j (epoch_after k p.entry) ps) m) [
    | inl here ↦
        let w = dated_is k (kept_as j p p.entry) x here in
        member_front x.1 (filter (λ (q : Kept). test k q.place.dep) (kept_as j p p.entry)) (chosen_in test j (epoch_after k p.entry) ps)
        (member_kept (λ (q : Kept). test k q.place.dep) x.1 (kept_as j p p.entry) w.1 (subst (λ (i : ℕ). test i x.1.place.dep ≡ true) (sym w.0) e))
    | inr there ↦ member_back x.1 (filter (λ (q : Kept). test k q.place.dep) (kept_as j p p.entry)) (chosen_in test j (epoch_after k p.entry) ps) (is_chosen j (epoch_after k p.entry) ps x there e)
  ]

  pub chosen_are : (j : ℕ) (streams : List (List Placed)) (r : Kept) → Member r (chosen_from test j streams) → (e : ℕ) × Member (e, r) (dated_from j streams) × (test e r.place.dep ≡ true)
  chosen_are j [] r m = absurd m
  chosen_are j (ps ∷ streams) r m = elim (in_either r (chosen_in test j 0 ps) (chosen_from test (suc j) streams) m) [
    | inl here ↦ let w = chosen_is j 0 ps r here in (w.0, member_front (w.0, r) (dated_in j 0 ps) (dated_from (suc j) streams) w.1, w.2)
    | inr there ↦ let w = chosen_are (suc j) streams r there in (w.0, member_back (w.0, r) (dated_in j 0 ps) (dated_from (suc j) streams) w.1, w.2)
  ]

  pub are_chosen : (j : ℕ) (streams : List (List Placed)) (x : Dated) → Member x (dated_from j streams) → Passes x → Member x.1 (chosen_from test j streams)
  are_chosen j [] x m e = absurd m
  are_chosen j (ps ∷ streams) x m e = elim (in_either x (dated_in j 0 ps) (dated_from (suc j) streams) m) [
    | inl here ↦ member_front x.1 (chosen_in test j 0 ps) (chosen_from test (suc j) streams) (is_chosen j 0 ps x here e)
    | inr there ↦ member_back x.1 (chosen_in test j 0 ps) (chosen_from test (suc j) streams) (are_chosen (suc j) streams x there e)
  ]

-- ---- all of them

pub kept_dated : (j k : ℕ) (ps : List Placed) (r : Kept) → Member r (kept_in j ps) → (e : ℕ) × Member (e, r) (dated_in j k ps)
kept_dated j k [] r m = absurd m
kept_dated j k (p ∷ ps) r m = elim (in_either r (kept_as j p p.entry) (kept_in j ps) m) [
  | inl here ↦ (k, member_front (k, r) (dated_as k (kept_as j p p.entry)) (dated_in j (epoch_after k p.entry) ps) (dated_there k (kept_as j p p.entry) r here))
  | inr there ↦ let w = kept_dated j (epoch_after k p.entry) ps r there in (w.0, member_back (w.0, r) (dated_as k (kept_as j p p.entry)) (dated_in j (epoch_after k p.entry) ps) w.1)
]

pub dated_kept : (j k : ℕ) (ps : List Placed) (x : Dated) → Member x (dated_in j k ps) → Member x.1 (kept_in j ps)
dated_kept j k [] x m = absurd m
dated_kept j k (p ∷ ps) x m = elim (in_either x (dated_as k (kept_as j p p.entry)) (dated_in j (epoch_after k p.entry) ps) m) [
  | inl here ↦ member_front x.1 (kept_as j p p.entry) (kept_in j ps) (dated_is k (kept_as j p p.entry) x here).1
  | inr there ↦ member_back x.1 (kept_as j p p.entry) (kept_in j ps) (dated_kept j (epoch_after k p.entry) ps x there)
]

pub all_dated : (j : ℕ) (streams : List (List Placed)) (r : Kept) → Member r (kept_from j streams) → (e : ℕ) × Member (e, r) (dated_from j streams)
all_dated j [] r m = absurd m
all_dated j (ps ∷ streams) r m = elim (in_either r (kept_in j ps) (kept_from (suc j) streams) m) [
  | inl here ↦ let w = kept_dated j 0 ps r here in (w.0, member_front (w.0, r) (dated_in j 0 ps) (dated_from (suc j) streams) w.1)
  | inr there ↦ let w = all_dated (suc j) streams r there in (w.0, member_back (w.0, r) (dated_in j 0 ps) (dated_from (suc j) streams) w.1)
]

pub all_kept : (j : ℕ) (streams : List (List Placed)) (x : Dated) → Member x (dated_from j streams) → Member x.1 (kept_from j streams)
all_kept j [] x m = absurd m
all_kept j (ps ∷ streams) x m = elim (in_either x (dated_in j 0 ps) (dated_from (suc j) streams) m) [
  | inl here ↦ member_front x.1 (kept_in j ps) (kept_from (suc j) streams) (dated_kept j 0 ps x here)
  | inr there ↦ member_back x.1 (kept_in j ps) (kept_from (suc j) streams) (all_kept (suc j) streams x there)
]

-- ---- streams that grow

dated_more : (j k : ℕ) (ps ms : List Placed) (x : Dated) → Member x (dated_in j k ps) → Member x (dated_in j k (ps ++ ms))
dated_more j k [] ms x m = absurd m
dated_more j k (p ∷ ps) ms x m = elim (in_either x (dated_as k (kept_as j p p.entry)) (dated_in j (epoch_after k p.entry) ps) m) [
  | inl here ↦ member_front x (dated_as k (kept_as j p p.entry)) (dated_in j (epoch_after k p.entry) (ps ++ ms)) here
  | inr there ↦ member_back x (dated_as k (kept_as j p p.entry)) (dated_in j (epoch_after k p.entry) (ps ++ ms)) (dated_more j (epoch_after k p.entry) ps ms x there)
]

pub dated_grown : (j : ℕ) (old more new : List (List Placed)) → Grown old more new → (x : Dated) → Member x (dated_from j old) → Member x (dated_from j new)
dated_grown j [] more new g x m = absurd m
dated_grown j (ps ∷ old) [] new g x m = absurd g
dated_grown j (ps ∷ old) (ms ∷ more) [] g x m = absurd g
dated_grown j (ps ∷ old) (ms ∷ more) (qs ∷ new) g x m = elim (in_either x (dated_in j 0 ps) (dated_from (suc j) old) m) [
  | inl here ↦ member_front x (dated_in j 0 qs) (dated_from (suc j) new) (subst (λ (l : List Placed). Member x (dated_in j 0 l)) (sym g.0) (dated_more j 0 ps ms x here))
  | inr there ↦ member_back x (dated_in j 0 qs) (dated_from (suc j) new) (dated_grown (suc j) old more new g.1 x there)
]

pub kept_grown : (old more new : List (List Placed)) → Grown old more new → (r : Kept) → Member r (kept_from 0 old) → Member r (kept_from 0 new)
kept_grown old more new g r m = let w = all_dated 0 old r m in all_kept 0 new (w.0, r) (dated_grown 0 old more new g (w.0, r) w.1)
