-- The taken records of a log are those at its taken places.
use Rattle.std.proofs.Common.{ℕ, zero, suc, ◌≡◌, ◌+◌, ◌⊎◌, inl, inr, Bool, true, false, List, [], ◌∷◌, ◌++◌, refl, sym, ap, subst, ◌∙◌, arith}
use Rattle.std.specs.Prelude.{Option, Some, None, slice_get, take, if◌then◌else◌}
use Rattle.std.specs.List.{filter}
use Rattle.std.proofs.lemmas.List.Elements.{filter-append}
use Rattle.tau_base.specs.Vectors.{covers}
use Rattle.tau_model.specs.History.{Member}
use Rattle.tau_model.proofs.Orders.{member_front, member_back}
use Rattle.tau_record.specs.declared.entry.Entry.{Entry}
use Rattle.tau_record.specs.declared.entry.Entry.TheVariants.{Written, Command, Anchor, Catalogue, Epoch}
use Rattle.tau_record.specs.declared.entry.Placed.{Placed}
use Rattle.tau_record.specs.Record.{epoch_after}
use Rattle.tau_record.specs.Content.{last_epoch}
use Rattle.tau_epoch.specs.Epochs.{judging}
use Rattle.tau_scan.specs.Epochs.{mark_of, marks_in, marks_from, judge_of}
use Rattle.tau_scan.specs.Taken.{Kept, kept_as, kept_in, kept_from, taken_in, taken_from, is_taken_by, is_taken_one, is_taken_in}
use Rattle.tau_scan.specs.Laws.{TakenAreListed, TakenPlain}
use Rattle.tau_scan.proofs.Marks.{none_first, none_second}
use Rattle.tau_model.proofs.ReportOrder.{member_filter_in}

-- ---- lists

parts : {A : Type 0} (a : A) (xs ys : List A) → Member a (xs ++ ys) → Member a xs ⊎ Member a ys
parts a [] ys m = inr m
parts a (x ∷ xs) ys (inl e) = inl (inl e)
parts a (x ∷ xs) ys (inr m) = elim (parts a xs ys m) [ inl n ↦ inl (inr n) | inr n ↦ inr n ]

passed : {A : Type 0} (p : A → Bool) (xs : List A) (a : A) → Member a (filter p xs) → Member a xs × (p a ≡ true)
passed p [] a m = absurd m
passed {A} p (x ∷ xs) a m = by_test (passed p xs a) (p x) refl m
  where
    by_test : (Member a (filter p xs) → Member a xs × (p a ≡ true)) → (b : Bool) → p x ≡ b → Member a (if b then x ∷ filter p xs else filter p xs) → Member a (x ∷ xs) × (p a ≡ true)
    by_test more true is (inl e) = (inl e, subst (λ (z : A). p z ≡ true) e is)
    by_test more true is (inr n) = let (there, pass) = more n in (inr there, pass)
    by_test more false is n = let (there, pass) = more n in (inr there, pass)

-- ---- records

one_kept : (j : ℕ) (p : Placed) (e : Entry) (r : Kept) → Member r (kept_as j p e) → kept_as j p e ≡ r ∷ []
one_kept j p (Written number anchor dep writes) r (inl is) = ap (λ (z : Kept). z ∷ []) is
one_kept j p (Written number anchor dep writes) r (inr m) = absurd m
one_kept j p (Command number anchor dep call) r (inl is) = ap (λ (z : Kept). z ∷ []) is
one_kept j p (Command number anchor dep call) r (inr m) = absurd m
one_kept j p (Anchor lv) r m = absurd m
one_kept j p (Catalogue text) r m = absurd m
one_kept j p (Epoch number lv) r m = absurd m

same_test : (judge : List ℕ) (j : ℕ) (p : Placed) (e : Entry) (r : Kept) → Member r (kept_as j p e) → is_taken_by judge e ≡ covers judge r.place.dep
same_test judge j p (Written number anchor dep writes) r (inl is) = ap (λ (z : Kept). covers judge z.place.dep) is
same_test judge j p (Written number anchor dep writes) r (inr m) = absurd m
same_test judge j p (Command number anchor dep call) r (inl is) = ap (λ (z : Kept). covers judge z.place.dep) is
same_test judge j p (Command number anchor dep call) r (inr m) = absurd m
same_test judge j p (Anchor lv) r m = absurd m
same_test judge j p (Catalogue text) r m = absurd m
same_test judge j p (Epoch number lv) r m = absurd m

some_kept : (judge : List ℕ) (j : ℕ) (p : Placed) (e : Entry) → is_taken_by judge e ≡ true → (r : Kept) × Member r (kept_as j p e)
some_kept judge j p (Written number anchor dep writes) is = (_, inl refl)
some_kept judge j p (Command number anchor dep call) is = (_, inl refl)
some_kept judge j p (Anchor lv) is = absurd cc
some_kept judge j p (Catalogue text) is = absurd cc
some_kept judge j p (Epoch number lv) is = absurd cc

module _ (judge : ℕ → List ℕ) where
  -- whether the vector of this epoch covers that of the record
  abbrev judged : ℕ → Kept → Bool
  judged k r = covers (judge k) r.place.dep

  -- the record is that at an index of the stream, and taken
  abbrev StandsIn : ℕ → ℕ → List Placed → Kept → Type 0
  StandsIn j k ps r = (i : ℕ) × (p : Placed) × (slice_get ps i ≡ Some p) × Member r (kept_as j p p.entry) × (judged (last_epoch k (take i ps)) r ≡ true)

  in_stream : (j k : ℕ) (ps : List Placed) (r : Kept) → Member r (taken_in judge j k ps) → StandsIn j k ps r
  in_stream j k [] r m = absurd m
  in_stream j k (p ∷ ps) r m = elim (parts r (filter (judged k) (kept_as j p p.entry)) (taken_in judge j (epoch_after k p.entry) ps) m) [
    | inl n ↦ let (there, covered) = passed (judged k) (kept_as j p p.entry) r n in (0, p, refl, there, covered)
    | inr n ↦ let (i, q, at, is, covered) = in_stream j (epoch_after k p.entry) ps r n in (suc i, q, at, is, covered)
  ]

  of_stream : (j k : ℕ) (ps : List Placed) (i : ℕ) (p : Placed) (r : Kept) → slice_get ps i ≡ Some p → Member r (kept_as j p p.entry) → judged (last_epoch k (take i ps)) r ≡ true → Member r (taken_in judge j k ps)
  of_stream j k [] i p r at m covered = absurd cc
  of_stream j k (q ∷ ps) zero p r at m covered =
      let same : p ≡ q = cc in
      member_front r (filter (judged k) (kept_as j q q.entry)) (taken_in judge j (epoch_after k q.entry) ps)
      (member_filter_in (judged k) (kept_as j q q.entry) r (subst (λ (z : Placed). Member r (kept_as j z z.entry)) same m) covered)
  of_stream j k (q ∷ ps) (suc i) p r at m covered =
      member_back r (filter (judged k) (kept_as j q q.entry)) (taken_in judge j (epoch_after k q.entry) ps) (of_stream j (epoch_after k q.entry) ps i p r at m covered)

  -- ---- streams

  in_streams : (j : ℕ) (streams : List (List Placed)) (r : Kept) → Member r (taken_from judge j streams) → (k : ℕ) × (ps : List Placed) × (slice_get streams k ≡ Some ps) × Member r (taken_in judge (j + k) 0 ps)
  in_streams j [] r m = absurd m
  in_streams j (ps ∷ streams) r m = elim (parts r (taken_in judge j 0 ps) (taken_from judge (suc j) streams) m) [
    | inl n ↦ (0, ps, refl, subst (λ (x : ℕ). Member r (taken_in judge x 0 ps)) (omega arith) n)
    | inr n ↦ let (k, qs, at, is) = in_streams (suc j) streams r n in (suc k, qs, at, subst (λ (x : ℕ). Member r (taken_in judge x 0 qs)) (omega arith) is)
  ]

  of_streams : (j : ℕ) (streams : List (List Placed)) (k : ℕ) (ps : List Placed) (r : Kept) → slice_get streams k ≡ Some ps → Member r (taken_in judge (j + k) 0 ps) → Member r (taken_from judge j streams)
  of_streams j [] k ps r at m = absurd cc
  of_streams j (qs ∷ streams) zero ps r at m =
      let same : ps ≡ qs = cc in
      member_front r (taken_in judge j 0 qs) (taken_from judge (suc j) streams)
      (subst (λ (zs : List Placed). Member r (taken_in judge j 0 zs)) same (subst (λ (x : ℕ). Member r (taken_in judge x 0 ps)) (omega arith) m))
  of_streams j (qs ∷ streams) (suc k) ps r at m =
      member_back r (taken_in judge j 0 qs) (taken_from judge (suc j) streams) (of_streams (suc j) streams k ps r at (subst (λ (x : ℕ). Member r (taken_in judge x 0 ps)) (omega arith) m))

  -- ---- places

  abbrev vector_at : List Placed → ℕ → List ℕ
  vector_at ps i = judge (last_epoch 0 (take i ps))

  taken_here : (streams : List (List Placed)) (j i : ℕ) (ps : List Placed) (p : Placed) → slice_get streams j ≡ Some ps → slice_get ps i ≡ Some p → is_taken_in judge (slice_get streams j) i ≡ is_taken_by (vector_at ps i) p.entry
  taken_here streams j i ps p at there = ap (λ (o : Option (List Placed)). is_taken_in judge o i) at ∙ ap (λ (o : Option Placed). is_taken_one (vector_at ps i) o) there

  abbrev FoundAt : List (List Placed) → ℕ → ℕ → Type 0
  FoundAt streams j i = (ps : List Placed) × (p : Placed) × (slice_get streams j ≡ Some ps) × (slice_get ps i ≡ Some p) × (is_taken_by (vector_at ps i) p.entry ≡ true)

  found_at : (streams : List (List Placed)) (j i : ℕ) → is_taken_in judge (slice_get streams j) i ≡ true → FoundAt streams j i
  found_at streams j i is = by_stream (slice_get streams j) refl is
    where
      by_record : (ps : List Placed) → slice_get streams j ≡ Some ps → (o : Option Placed) → slice_get ps i ≡ o → is_taken_one (vector_at ps i) o ≡ true → FoundAt streams j i
      by_record ps at None there is = absurd cc
      by_record ps at (Some p) there is = (ps, p, at, there, is)

      by_stream : (o : Option (List Placed)) → slice_get streams j ≡ o → is_taken_in judge o i ≡ true → FoundAt streams j i
      by_stream None at is = absurd cc
      by_stream (Some ps) at is = by_record ps at (slice_get ps i) refl is

-- ---- the law

pub taken_are_listed : TakenAreListed
taken_are_listed log = (
  λ r m.
      let (k, ps, at, among) = in_streams (judge_of log) 0 log.streams r m in
      let (i, p, there, is, covered) = in_stream (judge_of log) (0 + k) 0 ps r among in
      let here : Member r (kept_as k p p.entry) = subst (λ (x : ℕ). Member r (kept_as x p p.entry)) (omega arith) is in
      let judge : List ℕ = judge_of log (last_epoch 0 (take i ps)) in (
        k,
        i,
        record { records = ps; placed = p; stream = at; there = there; is = one_kept k p p.entry r here },
        taken_here (judge_of log) log.streams k i ps p at there ∙ same_test judge k p p.entry r here ∙ covered,
      ),
  λ j i is.
      let (ps, p, at, there, by) = found_at (judge_of log) log.streams j i is in
      let judge : List ℕ = judge_of log (last_epoch 0 (take i ps)) in
      let (r, m) = some_kept judge j p p.entry by in
      let covered : covers judge r.place.dep ≡ true = sym (same_test judge j p p.entry r m) ∙ by in
      let among : Member r (taken_in (judge_of log) (0 + j) 0 ps) = subst (λ (x : ℕ). Member r (taken_in (judge_of log) x 0 ps)) (omega arith) (of_stream (judge_of log) j 0 ps i p r there m covered) in (
        r,
        record { records = ps; placed = p; stream = at; there = there; is = one_kept j p p.entry r m },
        of_streams (judge_of log) 0 log.streams j ps r at among,
      ),
)

-- ---- without epochs

same_epoch : (k : ℕ) (e : Entry) → mark_of e ≡ [] → epoch_after k e ≡ k
same_epoch k (Written number anchor dep writes) none = refl
same_epoch k (Command number anchor dep call) none = refl
same_epoch k (Anchor lv) none = refl
same_epoch k (Catalogue text) none = refl
same_epoch k (Epoch number lv) none = absurd cc

pub stream_plain : (judge : ℕ → List ℕ) (j k : ℕ) (ps : List Placed) → marks_in ps ≡ [] → taken_in judge j k ps ≡ filter (λ (r : Kept). covers (judge k) r.place.dep) (kept_in j ps)
stream_plain judge j k [] none = refl
stream_plain judge j k (p ∷ ps) none =
    let here = none_first (mark_of p.entry) (marks_in ps) none in
    ap (λ (n : ℕ). filter (judged judge k) (kept_as j p p.entry) ++ taken_in judge j n ps) (same_epoch k p.entry here)
    ∙ ap (λ (rs : List Kept). filter (judged judge k) (kept_as j p p.entry) ++ rs) (stream_plain judge j k ps (none_second (mark_of p.entry) (marks_in ps) none))
    ∙ sym (filter-append (judged judge k) (kept_as j p p.entry) (kept_in j ps))

pub streams_plain : (judge : ℕ → List ℕ) (j : ℕ) (streams : List (List Placed)) → marks_from streams ≡ [] → taken_from judge j streams ≡ filter (λ (r : Kept). covers (judge 0) r.place.dep) (kept_from j streams)
streams_plain judge j [] none = refl
streams_plain judge j (ps ∷ streams) none =
    ap (λ (rs : List Kept). rs ++ taken_from judge (suc j) streams) (stream_plain judge j 0 ps (none_first (marks_in ps) (marks_from streams) none))
    ∙ ap (λ (rs : List Kept). filter (judged judge 0) (kept_in j ps) ++ rs) (streams_plain judge (suc j) streams (none_second (marks_in ps) (marks_from streams) none))
    ∙ sym (filter-append (judged judge 0) (kept_in j ps) (kept_from (suc j) streams))

pub taken_plain : TakenPlain
taken_plain log none =
    streams_plain (judge_of log) 0 log.streams none
    ∙ ap (λ (v : List ℕ). filter (λ (r : Kept). covers v r.place.dep) (kept_from 0 log.streams)) (ap (λ ms. judging log.elv ms 0) none)
