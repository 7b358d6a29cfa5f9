-- Streams that have grown: their epochs, and what is taken of them.
use Rattle.std.proofs.Common.{ℕ, zero, suc, ◌+◌, ◌<◌, true, false, ◌≡◌, ◌⊎◌, inl, inr, List, [], ◌∷◌, ◌++◌, length, refl, sym, ap, subst, ◌∙◌, arith}
use Rattle.std.specs.Prelude.{Option, Some, None, slice_get, slice_index_or, ◌==◌}
use Rattle.std.proofs.lemmas.Bool.{cases_Bool, eqb-true, eq-eqb}
use Rattle.std.proofs.lemmas.Slice.Eq.{bytes_eq-Decides}
use Rattle.tau_base.proofs.Logic.{some_is}
use Rattle.tau_model.specs.History.{Member}
use Rattle.tau_model.proofs.Orders.{member_front, member_back}
use Rattle.tau_machine.specs.Reports.{in_turn}
use Rattle.tau_epoch.specs.Epochs.{Mark}
use Rattle.tau_epoch.specs.Known.{vector_of}
use Rattle.tau_record.specs.declared.entry.Placed.{Placed}
use Rattle.tau_record.specs.Content.{last_epoch}
use Rattle.tau_scan.specs.declared.fault.LogFault.{LogFault}
use Rattle.tau_scan.specs.Epochs.{marks_in, marks_from}
use Rattle.tau_scan.specs.Reading.{is_vector, or_else, mark_fault, marks_fault, epochs_fault, epoch_fault}
use Rattle.tau_scan.specs.Taken.{Kept, taken_in, taken_from}
use Rattle.tau_epoch_laws.specs.Continues.{Grown, none_in, news_from}
use Rattle.tau_epoch_laws.proofs.Contents.{AreStreams}
use Rattle.tau_epoch_laws.proofs.Judging.{Agree}
use Rattle.tau_epoch_laws.proofs.Parts.{in_either}
use Rattle.tau_epoch_laws.proofs.Records.{taken_within}
use Rattle.tau_epoch_laws.proofs.Taken.{taken_append}

-- ---- marks that agree are no fault

-- a number that marks have is found, with the vector of one of them
vector_found : (ms : List Mark) (m : Mark) → Member m ms → (o : Mark) × Member o ms × (o.number ≡ m.number) × (vector_of m.number ms ≡ Some o.lv)
vector_found [] m h = absurd h
vector_found (x ∷ ms) m h = elim (cases_Bool (m.number == x.number)) [
  | inl is ↦ (x, inl refl, sym (eqb-true m.number x.number is), rw is refl)
  | inr no' ↦ elim h [
    | inl e ↦ absurd (let f : true ≡ false = sym (eq-eqb m.number x.number (ap (λ (y : Mark). y.number) (sym e))) ∙ no' in cc f)
    | inr there ↦ let w = vector_found ms m there in (w.0, inr w.1, w.2, rw no' w.3)
  ]
]

module _ (streams : List (List Placed)) (agree : Agree (marks_from streams)) where
  no_mark_fault : (j : ℕ) (m : Mark) → Member m (marks_from streams) → mark_fault streams j m ≡ None
  no_mark_fault j m h =
      let w = vector_found (marks_from streams) m h in
      let same : w.0.lv ≡ m.lv = agree w.0 m w.1 h w.2 in
      let found : vector_of m.number (marks_from streams) ≡ Some m.lv = w.3 ∙ ap (λ (v : List ℕ). Some v) same in
      let test : is_vector m.lv (vector_of m.number (marks_from streams)) ≡ true = ap (is_vector m.lv) found ∙ (bytes_eq-Decides m.lv m.lv).1 refl in
      rw test refl

  no_marks_fault : (j : ℕ) (ms : List Mark) → ((m : Mark) → Member m ms → Member m (marks_from streams)) → marks_fault streams j ms ≡ None
  no_marks_fault j [] all = refl
  no_marks_fault j (m ∷ ms) all = ap (λ (o : Option LogFault). or_else o (marks_fault streams j ms)) (no_mark_fault j m (all m (inl refl))) ∙ no_marks_fault j ms (λ x h. all x (inr h))

  no_epochs_fault : (j : ℕ) (rest : List (List Placed)) → ((m : Mark) → Member m (marks_from rest) → Member m (marks_from streams)) → epochs_fault streams j rest ≡ None
  no_epochs_fault j [] all = refl
  no_epochs_fault j (ps ∷ rest) all =
      ap (λ (o : Option LogFault). or_else o (epochs_fault streams (suc j) rest)) (no_marks_fault j (marks_in ps) (λ m h. all m (member_front m (marks_in ps) (marks_from rest) h)))
      ∙ no_epochs_fault (suc j) rest (λ m h. all m (member_back m (marks_in ps) (marks_from rest) h))

  pub agreed : epoch_fault streams ≡ None
  unfolding epoch_fault
  agreed = no_epochs_fault 0 streams (λ m h. h)

-- ---- what each stream has more

pub record HasGrown (Q : ℕ → List Placed → Type 0) (old new : List (List Placed)) : Type 0 where
  pub more : List (List Placed)
  pub grown : Grown old more new
  pub long : length more ≡ length old
  pub each : (i : ℕ) (ms : List Placed) → slice_get more i ≡ Some ms → Q i ms

pub grown_there : (Q : ℕ → List Placed → Type 0) (old new : List (List Placed)) → length new ≡ length old →
    ((i : ℕ) (qs : List Placed) → slice_get new i ≡ Some qs → (ms : List Placed) × (qs ≡ slice_index_or old i [] ++ ms) × Q i ms) → HasGrown Q old new
grown_there Q [] [] long all = record { more = []; grown = tt; long = refl; each = λ i ms e. absurd cc }
grown_there Q [] (qs ∷ new) long all = absurd (omega (arith, long))
grown_there Q (ps ∷ old) [] long all = absurd (omega (arith, long))
grown_there Q (ps ∷ old) (qs ∷ new) long all =
    let first = all 0 qs refl in
    let rest = grown_there (λ i. Q (suc i)) old new (omega (arith, long)) (λ i rs e. all (suc i) rs e) in
    record {
      more = first.0 ∷ rest.more;
      grown = (first.1, rest.grown);
      long = ap suc rest.long;
      each = λ i ms e. by_place i ms first.0 rest.more e first.2 rest.each;
    }
  where
    by_place : (i : ℕ) (ms x : List Placed) (xs : List (List Placed)) → slice_get (x ∷ xs) i ≡ Some ms → Q 0 x → ((i : ℕ) (ms : List Placed) → slice_get xs i ≡ Some ms → Q (suc i) ms) → Q i ms
    by_place zero ms x xs e q all = subst (Q 0) (some_is x ms e) q
    by_place (suc i) ms x xs e q all = all i ms e

-- a mark of the streams is one of some stream
pub marks_among : (streams : List (List Placed)) (m : Mark) → Member m (marks_from streams) → (i : ℕ) × (ps : List Placed) × (slice_get streams i ≡ Some ps) × Member m (marks_in ps)
marks_among [] m h = absurd h
marks_among (ps ∷ streams) m h = elim (in_either m (marks_in ps) (marks_from streams) h) [
  | inl here ↦ (0, ps, refl, here)
  | inr there ↦ let w = marks_among streams m there in (suc w.0, w.1, w.2, w.3)
]

pub marks_of_one : (streams : List (List Placed)) (i : ℕ) (ps : List Placed) (m : Mark) → slice_get streams i ≡ Some ps → Member m (marks_in ps) → Member m (marks_from streams)
marks_of_one [] i ps m e h = absurd cc
marks_of_one (x ∷ streams) zero ps m e h = member_front m (marks_in x) (marks_from streams) (subst (λ (qs : List Placed). Member m (marks_in qs)) (sym (some_is x ps e)) h)
marks_of_one (x ∷ streams) (suc i) ps m e h = member_back m (marks_in x) (marks_from streams) (marks_of_one streams i ps m e h)

-- streams of which none has a record, or some has one
pub none_of_each : (streams : List (List Placed)) → ((i : ℕ) (ps : List Placed) → slice_get streams i ≡ Some ps → ps ≡ []) → none_in streams
none_of_each [] all = tt
none_of_each (ps ∷ streams) all = (all 0 ps refl, none_of_each streams (λ i qs e. all (suc i) qs e))

pub some_stream : (streams : List (List Placed)) → (none_in streams → ⊥) → (i : ℕ) × (ps : List Placed) × (slice_get streams i ≡ Some ps) × (ps ≡ [] → ⊥)
some_stream [] some = absurd (some tt)
some_stream ([] ∷ streams) some = let w = some_stream streams (λ none. some (refl, none)) in (suc w.0, w.1, w.2, w.3)
some_stream ((p ∷ ps) ∷ streams) some = (0, p ∷ ps, refl, λ e. absurd cc)

-- ---- what is taken of them

pub news_none : (judge : ℕ → List ℕ) (j : ℕ) (old more : List (List Placed)) → none_in more → news_from judge j old more ≡ []
news_none judge j [] more none = refl
news_none judge j (ps ∷ old) [] none = refl
news_none judge j (ps ∷ old) (ms ∷ more) none =
    ap (λ (qs : List Placed). taken_in judge j (last_epoch 0 ps) qs ++ news_from judge (suc j) old more) none.0 ∙ news_none judge (suc j) old more none.1

-- the new ones, one stream after another
pub news_turn : (judge : ℕ → List ℕ) (j : ℕ) (old more : List (List Placed)) (f : ℕ → List Kept) → length more ≡ length old →
    ((k i : ℕ) → k ≡ j + i → i < length old → taken_in judge k (last_epoch 0 (slice_index_or old i [])) (slice_index_or more i []) ≡ f i) → news_from judge j old more ≡ in_turn (length old) f
news_turn judge j [] more f long all = refl
news_turn judge j (ps ∷ old) [] f long all = absurd (omega (arith, long))
news_turn judge j (ps ∷ old) (ms ∷ more) f long all =
    ap (λ (ks : List Kept). ks ++ news_from judge (suc j) old more) (all j 0 (omega arith) (omega arith))
    ∙ ap (λ (ks : List Kept). f 0 ++ ks) (news_turn judge (suc j) old more (λ i. f (suc i)) (omega (arith, long)) (λ k i e lt. all k (suc i) (omega (arith, e)) (omega (arith, lt))))

module _ (judge : ℕ → List ℕ) where
  -- what is taken starts where the old streams were, or is new
  pub taken_either : (j : ℕ) (contents : List (List ℕ)) (old more new : List (List Placed)) (r : Kept) → AreStreams contents old → Grown old more new → Member r (taken_from judge j new) →
      Member r (news_from judge j old more) ⊎ ((i : ℕ) × (r.place.stream ≡ j + i) × (content : List ℕ) × (slice_get contents i ≡ Some content) × (r.place.start < length content))
  taken_either j contents [] [] [] r are g m = absurd m
  taken_either j contents [] [] (qs ∷ new) r are g m = absurd g
  taken_either j contents [] (ms ∷ more) new r are g m = absurd g
  taken_either j contents (ps ∷ old) [] new r are g m = absurd g
  taken_either j contents (ps ∷ old) (ms ∷ more) [] r are g m = absurd g
  taken_either j [] (ps ∷ old) (ms ∷ more) (qs ∷ new) r are g m = absurd are
  taken_either j (content ∷ contents) (ps ∷ old) (ms ∷ more) (qs ∷ new) r are g m =
      let news : List Kept = taken_in judge j (last_epoch 0 ps) ms in
      let both : Member r ((taken_in judge j 0 ps ++ news) ++ taken_from judge (suc j) new) =
      subst (λ (ks : List Kept). Member r (ks ++ taken_from judge (suc j) new)) (ap (taken_in judge j 0) g.0 ∙ taken_append judge j 0 ps ms) m in
      elim (in_either r (taken_in judge j 0 ps ++ news) (taken_from judge (suc j) new) both) [
        | inl here ↦ elim (in_either r (taken_in judge j 0 ps) news here) [
          | inl p ↦ let w = taken_within judge j 0 0 (length content) ps r are.0.stand p in let at = w.0 in inr (0, omega (arith, at), content, refl, w.2)
          | inr p ↦ inl (member_front r news (news_from judge (suc j) old more) p)
        ]
        | inr there ↦ elim (taken_either (suc j) contents old more new r are.1 g.1 there) [
          | inl p ↦ inl (member_back r news (news_from judge (suc j) old more) p)
          | inr w ↦ let at = w.1 in inr (suc w.0, omega (arith, at), w.2, w.3, w.4)
        ]
      ]

  -- and what is new is taken
  pub news_taken : (j : ℕ) (old more new : List (List Placed)) (r : Kept) → Grown old more new → Member r (news_from judge j old more) → Member r (taken_from judge j new)
  news_taken j [] [] [] r g m = m
  news_taken j [] [] (qs ∷ new) r g m = absurd g
  news_taken j [] (ms ∷ more) new r g m = absurd g
  news_taken j (ps ∷ old) [] new r g m = absurd g
  news_taken j (ps ∷ old) (ms ∷ more) [] r g m = absurd g
  news_taken j (ps ∷ old) (ms ∷ more) (qs ∷ new) r g m =
      let news : List Kept = taken_in judge j (last_epoch 0 ps) ms in
      let whole : taken_in judge j 0 qs ≡ taken_in judge j 0 ps ++ news = ap (taken_in judge j 0) g.0 ∙ taken_append judge j 0 ps ms in
      elim (in_either r news (news_from judge (suc j) old more) m) [
        | inl here ↦ member_front r (taken_in judge j 0 qs) (taken_from judge (suc j) new) (subst (λ (ks : List Kept). Member r ks) (sym whole) (member_back r (taken_in judge j 0 ps) news here))
        | inr there ↦ member_back r (taken_in judge j 0 qs) (taken_from judge (suc j) new) (news_taken (suc j) old more new r g.1 there)
      ]
