-- The stream that was fed is as it was.
use Rattle.std.proofs.Common.{ℕ, zero, suc, ◌<◌, ◌≡◌, inl, inr, List, [], ◌∷◌, ◌++◌, length, set, Some, refl, sym, ap, subst, ◌∙◌, arith}
use Rattle.std.specs.Prelude.{slice_get, slice_index_or}
use Rattle.std.proofs.lemmas.Bool.{cases_eq}
use Rattle.tau_base.specs.declared.format.Format.{Format}
use Rattle.tau_record.specs.declared.entry.Placed.{Placed}
use Rattle.tau_follow.specs.declared.reader.Reader.{Reader}
use Rattle.tau_follow.specs.declared.reader.Mark.{Mark}
use Rattle.tau_follow.specs.Reading.{IsRead, BeginsWith, IsLonger, IsMark}
use Rattle.tau_follow.specs.Feeding.{AreRead, AreLonger, IsMarkAt}
use Rattle.tau_follow.proofs.Feeding.{got_set, got_other, set_long}
use Rattle.tau_base.proofs.Lists.{some_at, get_set_same}

pub set_back : {A : Type 0} (xs : List A) (j : ℕ) (x y : A) → slice_get xs j ≡ Some x → set (set xs j y) j x ≡ xs
set_back [] j x y e = refl
set_back (z ∷ xs) zero x y e = let same : z ≡ x = cc in ap (λ w. w ∷ xs) (sym same)
set_back (z ∷ xs) (suc j) x y e = ap (λ l. z ∷ l) (set_back xs j x y e)

pub read_back : (f : Format) (n : ℕ) (fed : List (List ℕ)) (streams : List (List Placed)) (readers : List Reader) (j : ℕ) (ps : List Placed) (t r : Reader) → AreRead f n fed streams readers → slice_get streams j ≡ Some ps → IsRead f n (slice_index_or fed j []) ps r →
    AreRead f n fed streams (set (set readers j t) j r)
read_back f n fed streams readers j ps t r a there read = record {
  many = a.many;
  wide = a.wide;
  as_many = set_long (set readers j t) j r ∙ set_long readers j t ∙ a.as_many;
  fronts = a.fronts;
  each = λ k qs q g h. elim (cases_eq k j) [
    | inl same ↦
        let r_is : r ≡ q = got_set (set readers j t) j r q (ap (slice_get (set (set readers j t) j r)) (sym same) ∙ h) in
        let at_j : slice_get streams j ≡ Some qs = ap (slice_get streams) (sym same) ∙ g in
        let s_is : ps ≡ qs = some_same streams j ps qs there at_j in
        subst (λ (z : List Placed). IsRead f n (slice_index_or fed k []) z q) s_is (subst (λ (i : ℕ). IsRead f n (slice_index_or fed i []) ps q) (sym same) (subst (λ (z : Reader). IsRead f n (slice_index_or fed j []) ps z) r_is read))
    | inr other ↦ a.each k qs q g (sym (got_other readers j k t other) ∙ sym (got_other (set readers j t) j k r other) ∙ h)
  ];
}
  where
    some_same : (xs : List (List Placed)) (i : ℕ) (x y : List Placed) → slice_get xs i ≡ Some x → slice_get xs i ≡ Some y → x ≡ y
    some_same xs i x y e g = (let z : Some x ≡ Some y = sym e ∙ g in cc)

-- the one that is there is that one
pub is_there : {A : Type 0} (xs : List A) (i : ℕ) (x y : A) → x ≡ slice_index_or xs i x → slice_get xs i ≡ Some y → x ≡ y
is_there [] i x y e g = absurd cc
is_there (z ∷ xs) zero x y e g = cc
is_there (z ∷ xs) (suc i) x y e g = is_there xs i x y e g

pub longer_at : (j : ℕ) (streams : List (List Placed)) (readers : List Reader) (ps : List Placed) (r : Reader) (qs : List Placed) (t : Reader) → ps ≡ slice_index_or streams j ps → r ≡ slice_index_or readers j r → IsLonger r t ps qs →
    AreLonger j streams readers (set streams j qs) (set readers j t)
longer_at j streams readers ps r qs t e g h = record {
  records = qs;
  reader = t;
  streams_are = refl;
  readers_are = refl;
  longer = λ ps_there r_there at by. subst (λ (z : List Placed). IsLonger r_there t z qs) (is_there streams j ps ps_there e at) (subst (λ (z : Reader). IsLonger z t ps qs) (is_there readers j r r_there g by) h);
}

set_there : {A : Type 0} (xs : List A) (i : ℕ) (x y z : A) → slice_get xs i ≡ Some z → x ≡ slice_index_or (set xs i y) i x → x ≡ y
set_there [] i x y z g e = absurd cc
set_there (w ∷ xs) zero x y z g e = e
set_there (w ∷ xs) (suc i) x y z g e = set_there xs i x y z g e

module _ (f : Format) (n : ℕ) (fed : List (List ℕ)) (before : List (List Placed)) (by : List Reader) (j : ℕ) (lt : j < n) (a : AreRead f n fed before by) (m : Mark) (marked : IsMarkAt j before by m)
    (streams : List (List Placed)) (readers : List Reader) (l : AreLonger j before by streams readers)
    (qs ps : List Placed) (t r : Reader) (qs_is : qs ≡ slice_index_or streams j qs) (t_is : t ≡ slice_index_or readers j t)
    (records : (q : Reader) (os : List Placed) → IsMark q os m → IsLonger q t os qs → ps ≡ os)
    (read : (g : Format) (k : ℕ) (content : List ℕ) (q : Reader) (os : List Placed) → IsMark q os m → IsLonger q t os qs → IsRead g k content os q → IsRead g k content os r) where
  old_records : (os : List Placed) × (slice_get before j ≡ Some os)
  old_records = let w = a.wide in some_at before j (omega (arith, lt, w))

  old_reader : (q : Reader) × (slice_get by j ≡ Some q)
  old_reader = let w = a.as_many in some_at by j (omega (arith, lt, w))

  longer : IsLonger old_reader.0 t old_records.0 qs
  longer =
      let qs_at : qs ≡ l.records = set_there before j qs l.records old_records.0 old_records.1 (qs_is ∙ ap (λ (z : List (List Placed)). slice_index_or z j qs) l.streams_are) in
      let t_at : t ≡ l.reader = set_there by j t l.reader old_reader.0 old_reader.1 (t_is ∙ ap (λ (z : List Reader). slice_index_or z j t) l.readers_are) in
      subst (λ (z : List Placed). IsLonger old_reader.0 t old_records.0 z) (sym qs_at) (subst (λ (z : Reader). IsLonger old_reader.0 z old_records.0 l.records) (sym t_at) (l.longer old_records.0 old_reader.0 old_records.1 old_reader.1))

  mark_is : IsMark old_reader.0 old_records.0 m
  mark_is = marked old_records.0 old_reader.0 old_records.1 old_reader.1

  pub streams_back : set streams j ps ≡ before
  streams_back = ap (λ (z : List (List Placed)). set z j ps) l.streams_are ∙ ap (set (set before j l.records) j) (records old_reader.0 old_records.0 mark_is longer) ∙ set_back before j old_records.0 l.records old_records.1

  pub undone : AreRead f n fed (set streams j ps) (set readers j r) × (set streams j ps ≡ before)
  undone = (
    subst (λ (z : List (List Placed)). AreRead f n fed z (set readers j r)) (sym streams_back)
        (subst (λ (z : List Reader). AreRead f n fed before (set z j r)) (sym l.readers_are)
        (read_back f n fed before by j old_records.0 l.reader r a old_records.1 (read f n (slice_index_or fed j []) old_reader.0 old_records.0 mark_is longer (a.each j old_records.0 old_reader.0 old_records.1 old_reader.1)))),
    streams_back,
  )

no_more : (xs ys : List Placed) → BeginsWith xs ys → length ys ≡ length xs → ys ≡ xs
no_more xs ys h e = by xs ys h.0 h.1 e
  where
    by : (xs ys more : List Placed) → ys ≡ xs ++ more → length ys ≡ length xs → ys ≡ xs
    by [] [] more h e = refl
    by [] (y ∷ ys) more h e = absurd (omega (arith, e))
    by (x ∷ xs) [] more h e = absurd (omega (arith, e))
    by (x ∷ xs) (y ∷ ys) more h e =
        let head : y ≡ x = cc in
        let tail : ys ≡ xs ++ more = cc in
        let rest = by xs ys more tail (omega (arith, e)) in
        λ i. head i ∷ rest i

set_own : {A : Type 0} (xs : List A) (j : ℕ) (x : A) → slice_get xs j ≡ Some x → set xs j x ≡ xs
set_own [] j x e = refl
set_own (y ∷ xs) zero x e = let same : y ≡ x = cc in ap (λ z. z ∷ xs) (sym same)
set_own (y ∷ xs) (suc j) x e = ap (λ l. y ∷ l) (set_own xs j x e)

-- of the stream no record more is read
pub same_streams : (j : ℕ) (streams : List (List Placed)) (readers : List Reader) (now : List (List Placed)) (by : List Reader) (before after : ℕ) → j < length streams → j < length readers → AreLonger j streams readers now by →
    ((ps : List Placed) → slice_get streams j ≡ Some ps → before ≡ length ps) → ((ps : List Placed) → slice_get now j ≡ Some ps → after ≡ length ps) → after ≡ before → now ≡ streams
same_streams j streams readers now by before after low high l old new same =
    let ps = some_at streams j low in
    let r = some_at readers j high in
    let longer = l.longer ps.0 r.0 ps.1 r.1 in
    let got : slice_get now j ≡ Some l.records = ap (λ (z : List (List Placed)). slice_get z j) l.streams_are ∙ get_set_same streams j l.records low in
    let first = old ps.0 ps.1 in
    let second = new l.records got in
    let records : l.records ≡ ps.0 = no_more ps.0 l.records longer.records (omega (arith, first, second, same)) in
    l.streams_are ∙ ap (set streams j) records ∙ set_own streams j ps.0 ps.1
