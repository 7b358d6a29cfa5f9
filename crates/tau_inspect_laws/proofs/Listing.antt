-- Reported histories by two places of each element and two ends, if what the elements wait for is within both ends.
use Rattle.std.proofs.Common.{ℕ, zero, suc, ◌≡◌, ◌==◌, Bool, true, false, inl, inr, List, [], ◌∷◌, length, refl, sym, ap, ◌∙◌, arith, Option}
use Rattle.std.specs.Prelude.{Some, None, nat_le, not, ◌&&◌, if◌then◌else◌}
use Rattle.std.specs.List.{filter}
use Rattle.std.proofs.Math.Path.{fun_ext}
use Rattle.std.proofs.lemmas.Bool.{and_parts, cases_Bool, le-leb}
use Rattle.tau_base.specs.Vectors.{AtMost, covers}
use Rattle.tau_model.specs.Logged.{Place}
use Rattle.tau_model.specs.Reported.{with_front, take_first, take_record, Left, picked, listed, put_in, ascending, each, next_start, emitted, in_stream, left_of, reported_within, reported_of}

-- ---- what is compared: two places of each element, which agree if it has a record, and in what it waits for

module _ {A : Type 0} (p q : A → Place) (up : A → Bool) (number : A → ℕ) (deps : (x : A) → (p x).dep ≡ (q x).dep) (placed : (x : A) → up x ≡ true → p x ≡ q x) where
  abbrev Agree : List A → Type 0
  Agree [] = Unit {0}
  Agree (x ∷ xs) = ((p x).start ≡ (q x).start) × Agree xs

  abbrev AllAgree : List (List A) → Type 0
  AllAgree [] = Unit {0}
  AllAgree (s ∷ streams) = Agree s × AllAgree streams

  agree_put : (x : A) (ys : List A) → (p x).start ≡ (q x).start → Agree ys → Agree (put_in (λ z. (p z).start) x ys)
  agree_put x [] e a = (e, tt)
  agree_put x (y ∷ ys) e a = elim (cases_Bool (nat_le (p x).start (p y).start)) [
    | inl t ↦ rw t (e, a)
    | inr f ↦ rw f (a.0, agree_put x ys e a.1)
  ]

  agree_ascending : (xs : List A) → Agree xs → Agree (ascending (λ z. (p z).start) xs)
  agree_ascending [] a = tt
  agree_ascending (x ∷ xs) a = agree_put x (ascending (λ z. (p z).start) xs) a.0 (agree_ascending xs a.1)

  put_same : (x : A) (ys : List A) → (p x).start ≡ (q x).start → Agree ys → put_in (λ z. (p z).start) x ys ≡ put_in (λ z. (q z).start) x ys
  put_same x [] e a = refl
  put_same x (y ∷ ys) e a =
      let rest = put_same x ys e a.1 in
      λ i. if nat_le (e i) (a.0 i) then x ∷ y ∷ ys else y ∷ rest i

  ascending_same : (xs : List A) → Agree xs → ascending (λ z. (p z).start) xs ≡ ascending (λ z. (q z).start) xs
  ascending_same [] a = refl
  ascending_same (x ∷ xs) a = put_same x (ascending (λ z. (p z).start) xs) a.0 (agree_ascending xs a.1) ∙ ap (put_in (λ z. (q z).start) x) (ascending_same xs a.1)

  stream_agree : (j : ℕ) (xs : List A) → Agree (filter (in_stream p up j) xs)
  stream_agree j [] = tt
  stream_agree j (x ∷ xs) = elim (cases_Bool (in_stream p up j x)) [
    | inl t ↦ rw t (ap (λ (z : Place). z.start) (placed x (and_parts (up x) ((p x).stream == j) t).0), stream_agree j xs)
    | inr f ↦ rw f (stream_agree j xs)
  ]

  same_stream : (j : ℕ) (x : A) → in_stream p up j x ≡ in_stream q up j x
  same_stream j x = by (up x) refl
    where
      by : (b : Bool) → up x ≡ b → (b && (p x).stream == j) ≡ (b && (q x).stream == j)
      by true e = ap (λ (z : Place). z.stream == j) (placed x e)
      by false e = refl

  -- what is left of calls of which nothing is listed
  abbrev first : ℕ → List A → Left A
  first width calls = left_of p up number width calls

  streams_agree : (n : ℕ) (f : ℕ → List A) → ((j : ℕ) → Agree (f j)) → AllAgree (each n f)
  streams_agree zero f all = tt
  streams_agree (suc n) f all = (all 0, streams_agree n (λ j. f (suc j)) (λ j. all (suc j)))

  first_agrees : (width : ℕ) (calls : List A) → AllAgree (first width calls).streams
  first_agrees width calls = streams_agree width (λ j. ascending (λ x. (p x).start) (filter (in_stream p up j) calls)) (λ j. agree_ascending (filter (in_stream p up j) calls) (stream_agree j calls))

  first_same : (width : ℕ) (calls : List A) → left_of p up number width calls ≡ left_of q up number width calls
  first_same width calls =
      let one : (j : ℕ) → ascending (λ x. (p x).start) (filter (in_stream p up j) calls) ≡ ascending (λ x. (q x).start) (filter (in_stream q up j) calls) =
      λ j. ascending_same (filter (in_stream p up j) calls) (stream_agree j calls) ∙ ap (λ (g : A → Bool). ascending (λ x. (q x).start) (filter g calls)) (fun_ext (same_stream j)) in
      ap (λ (f : ℕ → List A). record { readers = ascending number (filter (λ x. not (up x)) calls); streams = each width f }) (fun_ext one)

  abbrev AgreeStill : Option (A × List (List A)) → Type 0
  AgreeStill None = Unit {0}
  AgreeStill (Some w) = AllAgree w.1

  front_agrees : (s : List A) (o : Option (A × List (List A))) → Agree s → AgreeStill o → AgreeStill (with_front s o)
  front_agrees s None a h = tt
  front_agrees s (Some w) a h = (a, h)

  taken_agree : (g : A → Bool) (streams : List (List A)) → AllAgree streams → AgreeStill (take_record g streams)
  taken_agree g [] a = tt
  taken_agree g ([] ∷ streams) a = front_agrees [] (take_record g streams) a.0 (taken_agree g streams a.1)
  taken_agree g ((r ∷ rs) ∷ streams) a = elim (cases_Bool (g r)) [
    | inl t ↦ rw t (a.0.1, a.1)
    | inr f ↦ rw f (front_agrees (r ∷ rs) (take_record g streams) a.0 (taken_agree g streams a.1))
  ]

  -- what waits for no more than either ends is covered by both or by neither
  covers_same : (streams : List (List A)) (e e' d : List ℕ) → length e ≡ length e' → AllAgree streams → AtMost d e → AtMost d e' → covers (emitted p streams e) d ≡ covers (emitted q streams e') d
  covers_same [] e e' d wide a low low' = refl
  covers_same (s ∷ streams) [] [] d wide a low low' = refl
  covers_same (s ∷ streams) [] (y ∷ e') d wide a low low' = absurd (omega (arith, wide))
  covers_same (s ∷ streams) (x ∷ e) [] d wide a low low' = absurd (omega (arith, wide))
  covers_same (s ∷ streams) (x ∷ e) (y ∷ e') [] wide a low low' = refl
  covers_same (s ∷ streams) (x ∷ e) (y ∷ e') (k ∷ d) wide a low low' =
      let here = one s a.0 in
      let rest = covers_same streams e e' d (omega (arith, wide)) a.1 (λ j. low (suc j)) (λ j. low' (suc j)) in
      λ i. here i && rest i
    where
      one : (s : List A) → Agree s → nat_le k (next_start p s x) ≡ nat_le k (next_start q s y)
      one [] b = le-leb k x (low 0) ∙ sym (le-leb k y (low' 0))
      one (r ∷ rs) b = ap (nat_le k) b.0

  -- the same elements start first
  emitted_same : (streams : List (List A)) (e : List ℕ) → AllAgree streams → emitted p streams e ≡ emitted q streams e
  emitted_same [] e a = refl
  emitted_same (s ∷ streams) [] a = refl
  emitted_same (s ∷ streams) (x ∷ e) a =
      let here = one s a.0 in
      let rest = emitted_same streams e a.1 in
      λ i. here i ∷ rest i
    where
      one : (s : List A) → Agree s → next_start p s x ≡ next_start q s x
      one [] b = refl
      one (r ∷ rs) b = b.0

  abbrev CoveredAlike : List ℕ → List ℕ → Type 0
  CoveredAlike e e' = (streams : List (List A)) → AllAgree streams → (x : A) → covers (emitted p streams e) (p x).dep ≡ covers (emitted q streams e') (p x).dep

  module _ (e e' : List ℕ) (alike : CoveredAlike e e') where
    within_same : (n : ℕ) (left : Left A) → AllAgree left.streams → reported_within p n e left ≡ reported_within q n e' left
    unfolding reported_within
    within_same zero left a = refl
    within_same (suc n) left a =
        let passes : A → Bool = λ x. covers (emitted p left.streams e) (p x).dep in
        let passes' : A → Bool = λ x. covers (emitted q left.streams e') (q x).dep in
        let same : passes ≡ passes' = fun_ext (λ x. alike left.streams a x ∙ ap (covers (emitted q left.streams e')) (deps x)) in
        ap (λ (g : A → Bool). listed (picked left.readers left.streams (take_first g left.readers) (take_record g left.streams)) (λ rest. reported_within p n e rest)) same
        ∙ by_pick (λ rest. reported_within p n e rest) (λ rest. reported_within q n e' rest) (λ rest b. within_same n rest b) (take_first passes' left.readers) (take_record passes' left.streams) (taken_agree passes' left.streams a)
      where
        by_pick : (one other : Left A → List A) → ((rest : Left A) → AllAgree rest.streams → one rest ≡ other rest) → (o : Option (A × List A)) (r : Option (A × List (List A))) → AgreeStill r →
            listed (picked left.readers left.streams o r) one ≡ listed (picked left.readers left.streams o r) other
        by_pick one other same (Some w) r b = ap (λ (l : List A). w.0 ∷ l) (same (record { readers = w.1; streams = left.streams }) a)
        by_pick one other same None (Some w) b = ap (λ (l : List A). w.0 ∷ l) (same (record { readers = left.readers; streams = w.1 }) b)
        by_pick one other same None None b = refl

    listed_same : length e ≡ length e' → (calls : List A) → reported_of p up number e calls ≡ reported_of q up number e' calls
    listed_same wide calls =
        within_same (length calls) (first (length e) calls) (first_agrees (length e) calls)
        ∙ ap (λ (left : Left A). reported_within q (length calls) e' left) (first_same (length e) calls ∙ ap (λ (k : ℕ). left_of q up number k calls) wide)

  pub reported_same : (e e' : List ℕ) → length e ≡ length e' → ((x : A) → AtMost (p x).dep e) → ((x : A) → AtMost (p x).dep e') → (calls : List A) → reported_of p up number e calls ≡ reported_of q up number e' calls
  reported_same e e' wide low low' calls = listed_same e e' (λ streams a x. covers_same streams e e' (p x).dep wide a (low x) (low' x)) wide calls

  pub reported_at_ends : (e : List ℕ) (calls : List A) → reported_of p up number e calls ≡ reported_of q up number e calls
  reported_at_ends e calls = listed_same e e (λ streams a x. ap (λ (v : List ℕ). covers v (p x).dep) (emitted_same streams e a)) refl calls
