-- One stream is fed, and the others are as they were.
use Rattle.std.proofs.Common.{ℕ, true, nat_lt, zero, suc, ◌+◌, ◌<◌, ◌≡◌, List, [], ◌∷◌, ◌++◌, length, set, Some, Result, Ok, Err, refl, sym, ap, subst, ◌∙◌, arith}
use Rattle.std.specs.Prelude.{slice_get, slice_index_or, IfOk}
use Rattle.tau_base.specs.declared.value.NoMemory.{NoMemory}
use Rattle.tau_base.proofs.Logic.{below_of_true}
use Rattle.tau_base.specs.declared.format.Format.{Format}
use Rattle.tau_record.specs.declared.entry.Placed.{Placed}
use Rattle.tau_record.specs.declared.fault.RecordFault.{RecordFault}
use Rattle.tau_scan.specs.declared.fault.LogFault.{LogFault}
use Rattle.tau_scan.specs.declared.fault.LogCause.TheVariants as cause
use Rattle.tau_scan.specs.declared.fault.LogRefusal.{LogRefusal}
use Rattle.tau_scan.specs.declared.fault.LogRefusal.TheVariants as refusals
use Rattle.tau_scan.specs.Reading.{◌>>=◌, in_front, recorded}
use Rattle.tau_follow.specs.declared.reader.Reader.{Reader}
use Rattle.tau_follow.specs.declared.reader.Mark.{Mark}
use Rattle.tau_follow.specs.Reading.{IsRead, IsMark}
use Rattle.tau_follow.specs.Feeding.{AreRead, IsMarkAt}
use Rattle.std.proofs.lemmas.Bool.{cases_eq}
use Rattle.std.proofs.Common.{inl, inr, get_or-set_same, get_or-set_other}
use Rattle.tau_follow_laws.specs.Fed.{front_of, fronts_of}
use Rattle.tau_follow_laws.specs.Feeding.{Piece, with_piece}
use Rattle.tau_follow_laws.proofs.GoesOn.{fronts_from, one_more}

abbrev all_done : List (List Placed) → Result (List (List Placed)) LogFault
all_done x = Ok x

pub set_long : {A : Type 0} (xs : List A) (j : ℕ) (x : A) → length (set xs j x) ≡ length xs
set_long [] j x = refl
set_long (y ∷ xs) zero x = refl
set_long (y ∷ xs) (suc j) x = ap suc (set_long xs j x)

module _ (f : Format) (n : ℕ) where
  next_of : (j : ℕ) (b : List ℕ) (fed : List (List ℕ)) (ps : List Placed) → front_of f n b ≡ Ok ps → fronts_from f n j (b ∷ fed) ≡ (fronts_from f n (suc j) fed >>= λ rest. Ok (ps ∷ rest))
  next_of j b fed ps e = ap (λ (r : Result (List Placed) RecordFault). recorded j r >>= λ y. in_front y (fronts_from f n (suc j) fed)) e ∙ as_bind (fronts_from f n (suc j) fed)
    where
      as_bind : (r : Result (List (List Placed)) LogFault) → in_front ps r ≡ (r >>= λ rest. Ok (ps ∷ rest))
      as_bind (Ok rest) = refl
      as_bind (Err fault) = refl

  fed_from : (j m : ℕ) (fed : List (List ℕ)) (streams : List (List Placed)) (bytes : List ℕ) (ps : List Placed) → m < length fed → fronts_from f n j fed ≡ Ok streams → front_of f n bytes ≡ Ok ps →
      fronts_from f n j (set fed m bytes) ≡ Ok (set streams m ps)
  fed_from j m [] streams bytes ps lt e g = absurd (omega (arith, lt))
  fed_from j zero (b ∷ fed) streams bytes ps lt e g =
      let one = one_more f n j b fed streams e in
      next_of j bytes fed ps g ∙ ap (λ (r : Result (List (List Placed)) LogFault). r >>= λ rest. Ok (ps ∷ rest)) one.3 ∙ ap (λ (xs : List (List Placed)). all_done (set xs 0 ps)) one.4
  fed_from j (suc m) (b ∷ fed) streams bytes ps lt e g =
      let one = one_more f n j b fed streams e in
      next_of j b (set fed m bytes) one.0 one.2 ∙ ap (λ (r : Result (List (List Placed)) LogFault). r >>= λ rest. Ok (one.0 ∷ rest)) (fed_from (suc j) m fed one.1 bytes ps (omega (arith, lt)) one.3 g)
      ∙ ap (λ (xs : List (List Placed)). all_done (set xs (suc m) ps)) one.4

  bad_from : (j m : ℕ) (fed : List (List ℕ)) (streams : List (List Placed)) (bytes : List ℕ) (fault : RecordFault) → m < length fed → fronts_from f n j fed ≡ Ok streams → front_of f n bytes ≡ Err fault →
      fronts_from f n j (set fed m bytes) ≡ Err (record { stream = j + m; cause = cause.Body fault })
  bad_from j m [] streams bytes fault lt e g = absurd (omega (arith, lt))
  bad_from j zero (b ∷ fed) streams bytes fault lt e g =
      let k : j ≡ j + 0 = omega arith in
      ap (λ (r : Result (List Placed) RecordFault). recorded j r >>= λ y. in_front y (fronts_from f n (suc j) fed)) g ∙ ap (bad fault) k
    where
      bad : RecordFault → ℕ → Result (List (List Placed)) LogFault
      bad z i = Err (record { stream = i; cause = cause.Body z })
  bad_from j (suc m) (b ∷ fed) streams bytes fault lt e g =
      let one = one_more f n j b fed streams e in
      let k : suc j + m ≡ j + suc m = omega arith in
      next_of j b (set fed m bytes) one.0 one.2 ∙ ap (λ (r : Result (List (List Placed)) LogFault). r >>= λ rest. Ok (one.0 ∷ rest)) (bad_from (suc j) m fed one.1 bytes fault (omega (arith, lt)) one.3 g)
      ∙ ap (bad fault) k
    where
      bad : RecordFault → ℕ → Result (List (List Placed)) LogFault
      bad z i = Err (record { stream = i; cause = cause.Body z })

-- what is read then
pub fed_fronts : (f : Format) (fed : List (List ℕ)) (streams : List (List Placed)) (p : Piece) (ps : List Placed) → p.stream < length fed → fronts_of f fed ≡ Ok streams →
    front_of f (length fed) (slice_index_or fed p.stream [] ++ p.bytes) ≡ Ok ps → fronts_of f (with_piece fed p) ≡ Ok (set streams p.stream ps)
unfolding fronts_of
fed_fronts f fed streams p ps lt e g =
    let bytes : List ℕ = slice_index_or fed p.stream [] ++ p.bytes in
    subst (λ (n : ℕ). fronts_from f n 0 (set fed p.stream bytes) ≡ Ok (set streams p.stream ps)) (sym (set_long fed p.stream bytes)) (fed_from f (length fed) 0 p.stream fed streams bytes ps lt e g)

-- or the first bad record, which is in the stream that was fed
pub fed_bad : (f : Format) (fed : List (List ℕ)) (streams : List (List Placed)) (p : Piece) (fault : RecordFault) → p.stream < length fed → fronts_of f fed ≡ Ok streams →
    front_of f (length fed) (slice_index_or fed p.stream [] ++ p.bytes) ≡ Err fault → fronts_of f (with_piece fed p) ≡ Err (record { stream = p.stream; cause = cause.Body fault })
unfolding fronts_of
fed_bad f fed streams p fault lt e g =
    let bytes : List ℕ = slice_index_or fed p.stream [] ++ p.bytes in
    let k : 0 + p.stream ≡ p.stream = omega arith in
    subst (λ (n : ℕ). fronts_from f n 0 (set fed p.stream bytes) ≡ Err (record { stream = p.stream; cause = cause.Body fault })) (sym (set_long fed p.stream bytes))
    (bad_from f (length fed) 0 p.stream fed streams bytes fault lt e g ∙ ap (bad fault) k)
  where
    bad : RecordFault → ℕ → Result (List (List Placed)) LogFault
    bad z i = Err (record { stream = i; cause = cause.Body z })

-- ---- the readers of all streams

pub got_at : {A : Type 0} (xs : List A) (i : ℕ) (x : A) → i < length xs → x ≡ slice_index_or xs i x → slice_get xs i ≡ Some x
got_at [] i x lt e = absurd (omega (arith, lt))
got_at (y ∷ xs) zero x lt e = ap (λ z. Some z) (sym e)
got_at (y ∷ xs) (suc i) x lt e = got_at xs i x (omega (arith, lt)) e

-- the one that was got is there
pub got_of : {A : Type 0} (xs : List A) (i : ℕ) (x : A) → true ≡ nat_lt i (length xs) → x ≡ slice_index_or xs i x → slice_get xs i ≡ Some x
got_of xs i x lt e = got_at xs i x (below_of_true i (length xs) (sym lt)) e

pub got_set : {A : Type 0} (xs : List A) (i : ℕ) (x y : A) → slice_get (set xs i x) i ≡ Some y → x ≡ y
got_set [] i x y e = absurd cc
got_set (z ∷ xs) zero x y e = cc
got_set (z ∷ xs) (suc i) x y e = got_set xs i x y e

pub got_other : {A : Type 0} (xs : List A) (i k : ℕ) (x : A) → (k ≡ i → ⊥) → slice_get (set xs i x) k ≡ slice_get xs k
got_other [] i k x apart = refl
got_other (z ∷ xs) zero zero x apart = absurd (apart refl)
got_other (z ∷ xs) zero (suc k) x apart = refl
got_other (z ∷ xs) (suc i) zero x apart = refl
got_other (z ∷ xs) (suc i) (suc k) x apart = got_other xs i k x (λ e. apart (ap suc e))

pub read_fed : (f : Format) (n : ℕ) (fed : List (List ℕ)) (streams : List (List Placed)) (readers : List Reader) (p : Piece) (ps : List Placed) (r : Reader) → AreRead f n fed streams readers → p.stream < length streams →
    IsRead f n (slice_index_or fed p.stream [] ++ p.bytes) ps r → front_of f n (slice_index_or fed p.stream [] ++ p.bytes) ≡ Ok ps → AreRead f n (with_piece fed p) (set streams p.stream ps) (set readers p.stream r)
read_fed f n fed streams readers p ps r a lt read front =
    let many = a.many in
    let wide = a.wide in
    let within : p.stream < length fed = omega (arith, lt, many, wide) in
    let bytes : List ℕ = slice_index_or fed p.stream [] ++ p.bytes in
    record {
      many = set_long fed p.stream bytes ∙ many;
      wide = set_long streams p.stream ps ∙ wide;
      as_many = set_long readers p.stream r ∙ a.as_many;
      fronts = fed_fronts f fed streams p ps within a.fronts (subst (λ (m : ℕ). front_of f m bytes ≡ Ok ps) (sym many) front);
      each = λ k qs q g h. elim (cases_eq k p.stream) [
        | inl same ↦
            let s_is : ps ≡ qs = got_set streams p.stream ps qs (ap (slice_get (set streams p.stream ps)) (sym same) ∙ g) in
            let r_is : r ≡ q = got_set readers p.stream r q (ap (slice_get (set readers p.stream r)) (sym same) ∙ h) in
            let there : slice_index_or (with_piece fed p) k [] ≡ bytes = ap (λ (i : ℕ). slice_index_or (with_piece fed p) i []) same ∙ get_or-set_same fed p.stream bytes [] within in
            subst (λ (z : List ℕ). IsRead f n z qs q) (sym there) (subst (λ (z : List Placed). IsRead f n bytes z q) s_is (subst (λ (z : Reader). IsRead f n bytes ps z) r_is read))
        | inr other ↦
            let there : slice_index_or (with_piece fed p) k [] ≡ slice_index_or fed k [] = get_or-set_other fed p.stream k bytes [] other in
            subst (λ (z : List ℕ). IsRead f n z qs q) (sym there) (a.each k qs q (sym (got_other streams p.stream k ps other) ∙ g) (sym (got_other readers p.stream k r other) ∙ h))
      ];
    }

-- the first bad record is that of the stream that is fed
pub bad_fed : (f : Format) (n : ℕ) (fed : List (List ℕ)) (streams : List (List Placed)) (readers : List Reader) (p : Piece) (fault : RecordFault) (told : LogFault) → AreRead f n fed streams readers → p.stream < length streams →
    front_of f n (slice_index_or fed p.stream [] ++ p.bytes) ≡ Err fault → record { stream = p.stream; cause = cause.Body fault } ≡ told → fronts_of f (with_piece fed p) ≡ Err told
bad_fed f n fed streams readers p fault told a lt front e =
    let many = a.many in
    let wide = a.wide in
    fed_bad f fed streams p fault (omega (arith, lt, many, wide)) a.fronts (subst (λ (m : ℕ). front_of f m (slice_index_or fed p.stream [] ++ p.bytes) ≡ Err fault) (sym many) front) ∙ ap bad e
  where
    bad : LogFault → Result (List (List Placed)) LogFault
    bad z = Err z

pub bad_is : {A : Type 0} (a b : LogFault) → ◌≡◌ {A = Result A LogRefusal} (Err (refusals.Bad a)) (Err (refusals.Bad b)) → a ≡ b
bad_is a b e = cc

-- the stream is that of the reader and the records that were got
pub marked_at : (j : ℕ) (streams : List (List Placed)) (readers : List Reader) (r : Reader) (ps : List Placed) (result : Result Mark NoMemory) → slice_get readers j ≡ Some r → slice_get streams j ≡ Some ps → IfOk result (λ mark. IsMark r ps mark) → IfOk result (λ mark. IsMarkAt j streams readers mark)
marked_at j streams readers r ps (Err e) read got is = is
marked_at j streams readers r ps (Ok m) read got is = λ qs q there by.
    (let same : ps ≡ qs = (let e : Some ps ≡ Some qs = sym got ∙ there in cc) in
    let one : r ≡ q = (let e : Some r ≡ Some q = sym read ∙ by in cc) in
    subst (λ (z : Reader). IsMark z qs m) one (subst (λ (l : List Placed). IsMark r l m) same is))
