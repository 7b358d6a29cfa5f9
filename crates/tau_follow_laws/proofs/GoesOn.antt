-- What is read of bytes goes on after what is read of the first of them.
use Rattle.std.proofs.Common.{ℕ, zero, suc, ◌+◌, ◌-◌, ◌≤◌, ◌<◌, Bool, true, false, cond, eqb, ◌≡◌, ◌⊎◌, inl, inr, List, [], ◌∷◌, ◌++◌, length, take, drop, replicate, Option, Some, None, Result, Ok, Err, refl, sym, ap, subst, ◌∙◌, arith, append_assoc}
use Rattle.std.specs.Prelude.{slice_set, slice_index_or}
use Rattle.std.proofs.lemmas.List.{length-append, take-append-drop, append-nil}
use Rattle.std.proofs.Math.Seq.{take-append-add}
use Rattle.tau_record.specs.declared.entry.Entry.{Entry}
use Rattle.tau_record.specs.declared.entry.Placed.{Placed}
use Rattle.tau_record.specs.declared.fault.RecordCause.{RecordCause}
use Rattle.tau_record.specs.declared.fault.RecordCause.TheVariants.{BadBody}
use Rattle.tau_record.specs.declared.fault.RecordFault.{RecordFault}
use Rattle.tau_record.specs.Format.{Format}
use Rattle.tau_record.specs.Record.{epoch_after, record_at, named}
use Rattle.tau_record.specs.Content.{named_after, named_behind, last_epoch, found_at, in_front, placed, records_at, content_at}
use Rattle.tau_text.specs.declared.load.Declarations.{Declarations}
use Rattle.tau_scan.specs.declared.fault.LogFault.{LogFault}
use Rattle.tau_scan.specs.Reading.{◌>>=◌, each_from, in_front as first_of, recorded, unless, is_declared, declared_by, catalogue_of, first_undeclared, undeclared, or_no_records, or_fault, judged, records_of}
use Rattle.tau_epoch_laws.specs.Continues.{Grown}
use Rattle.tau_epoch_laws.proofs.Records.{content_stands}
use Rattle.tau_follow_laws.specs.Fed.{is_short, or_front, front_of, fronts_of}
use Rattle.tau_epoch_laws.specs.Marked.{last_past}
use Rattle.tau_follow_laws.specs.Feeding.{Piece, with_piece}
use Rattle.tau_follow_laws.proofs.Local.{record_local}
use Rattle.tau_follow_laws.proofs.Rises.{AreStanding, stand_end}
use Rattle.tau_epoch_laws.proofs.Records.{Stand}

-- ---- results

abbrev pub done : List Placed → Result (List Placed) RecordFault
done ps = Ok ps

abbrev pub failed : RecordFault → Result (List Placed) RecordFault
failed fault = Err fault

pub done_is : (x y : List Placed) → done x ≡ done y → x ≡ y
done_is x y e = cc

pub failed_is : (x y : RecordFault) → failed x ≡ failed y → x ≡ y
failed_is x y e = cc

abbrev pub in_fronts : List Placed → Result (List Placed) RecordFault → Result (List Placed) RecordFault
in_fronts ps (Ok qs) = Ok (ps ++ qs)
in_fronts ps (Err e) = Err e

nothing_before : (r : Result (List Placed) RecordFault) → in_fronts [] r ≡ r
nothing_before (Ok qs) = refl
nothing_before (Err e) = refl

fronts_more : (p : Placed) (qs : List Placed) (r : Result (List Placed) RecordFault) → in_front p (in_fronts qs r) ≡ in_fronts (p ∷ qs) r
fronts_more p qs (Ok rs) = refl
fronts_more p qs (Err e) = refl

pub fronts_ok : (ps qs : List Placed) (r : Result (List Placed) RecordFault) → in_fronts ps r ≡ Ok qs → (ms : List Placed) × (r ≡ Ok ms) × (qs ≡ ps ++ ms)
fronts_ok ps qs (Ok ms) e = (ms, refl, sym (done_is (ps ++ ms) qs e))
fronts_ok ps qs (Err fault) e = absurd cc

fronts_err : (ps : List Placed) (fault : RecordFault) (r : Result (List Placed) RecordFault) → in_fronts ps r ≡ Err fault → r ≡ Err fault
fronts_err ps fault (Ok ms) e = absurd cc
fronts_err ps fault (Err other) e = e

pub found_ok : (at : ℕ) (r : Result (Entry × List ℕ) RecordCause) (g : Entry × List ℕ → Result (List Placed) RecordFault) (ps : List Placed) → found_at at r g ≡ Ok ps → (x : Entry × List ℕ) × (r ≡ Ok x) × (g x ≡ Ok ps)
found_ok at (Ok x) g ps e = (x, refl, e)
found_ok at (Err c) g ps e = absurd cc

pub found_err : (at : ℕ) (r : Result (Entry × List ℕ) RecordCause) (g : Entry × List ℕ → Result (List Placed) RecordFault) (fault : RecordFault) → found_at at r g ≡ Err fault →
    (fault.at ≡ at) ⊎ ((x : Entry × List ℕ) × (r ≡ Ok x) × (g x ≡ Err fault))
found_err at (Ok x) g fault e = inr (x, refl, e)
found_err at (Err c) g fault e = inl (ap (λ (z : RecordFault). z.at) (sym (failed_is (record { at = at; cause = c }) fault e)))

found_alike : (at : ℕ) (r : Result (Entry × List ℕ) RecordCause) (g h : Entry × List ℕ → Result (List Placed) RecordFault) → ((x : Entry × List ℕ) → r ≡ Ok x → g x ≡ h x) → found_at at r g ≡ found_at at r h
found_alike at (Ok x) g h same = same x refl
found_alike at (Err c) g h same = refl

pub front_ok : (p : Placed) (r : Result (List Placed) RecordFault) (ps : List Placed) → in_front p r ≡ Ok ps → (qs : List Placed) × (r ≡ Ok qs) × (p ∷ qs ≡ ps)
front_ok p (Ok qs) ps e = (qs, refl, done_is (p ∷ qs) ps e)
front_ok p (Err c) ps e = absurd cc

pub front_err : (p : Placed) (r : Result (List Placed) RecordFault) (fault : RecordFault) → in_front p r ≡ Err fault → r ≡ Err fault
front_err p (Ok qs) fault e = absurd cc
front_err p (Err c) fault e = e

-- ---- the records of bytes

module _ (f : Format) (n : ℕ) where
  -- a record takes some of the bytes
  shorter : (k : ℕ) (vectors : List (List ℕ)) (first : Bool) (bytes : List ℕ) (x : Entry × List ℕ) → record_at f n k vectors first bytes ≡ Ok x → length x.1 < length bytes
  shorter k vectors first bytes x e =
      let l = record_local f n k vectors first bytes x e in
      let long : length bytes ≡ length l.own + length x.1 = ap length l.parts ∙ length-append l.own x.1 in
      let some = l.some in
      omega (arith, long, some)

  -- more fuel than bytes changes nothing
  pub records_fuel : (a b at k : ℕ) (vectors : List (List ℕ)) (bytes : List ℕ) → length bytes ≤ a → length bytes ≤ b → records_at f n a at k vectors bytes ≡ records_at f n b at k vectors bytes
  unfolding records_at
  records_fuel a b at k vectors [] la lb = refl
  records_fuel zero b at k vectors (c ∷ bytes) la lb = absurd (omega (arith, la))
  records_fuel (suc a) zero at k vectors (c ∷ bytes) la lb = absurd (omega (arith, lb))
  records_fuel (suc a) (suc b) at k vectors (c ∷ bytes) la lb =
      let past : Entry × List ℕ → ℕ = λ x. at + (length (c ∷ bytes) - length x.1) in
      found_alike at (record_at f n k vectors (eqb at 0) (c ∷ bytes))
      (λ x. in_front (placed x.0 at (past x)) (records_at f n a (past x) (epoch_after k x.0) (named_after vectors x.0) x.1))
      (λ x. in_front (placed x.0 at (past x)) (records_at f n b (past x) (epoch_after k x.0) (named_after vectors x.0) x.1))
      (λ x e.
      (let less = shorter k vectors (eqb at 0) (c ∷ bytes) x e in
      ap (in_front (placed x.0 at (past x))) (records_fuel a b (past x) (epoch_after k x.0) (named_after vectors x.0) x.1 (omega (arith, less, la)) (omega (arith, less, lb)))))

  -- the bytes after those that are read
  records_on : (fuel long m at k : ℕ) (vectors : List (List ℕ)) (bytes rest : List ℕ) (ps : List Placed) → length bytes ≤ fuel → length (bytes ++ rest) ≤ long → length rest ≤ m → records_at f n fuel at k vectors bytes ≡ Ok ps →
      records_at f n long at k vectors (bytes ++ rest) ≡ in_fronts ps (records_at f n m (at + length bytes) (last_epoch k ps) (named_behind vectors ps) rest)
  unfolding records_at
  records_on fuel long m at k vectors [] rest ps lf ll lm e =
      let none : [] ≡ ps = done_is [] ps e in
      let here : at + 0 ≡ at = omega arith in
      records_fuel long m at k vectors rest ll lm ∙ ap (λ (i : ℕ). records_at f n m i k vectors rest) (sym here)
      ∙ sym (nothing_before (records_at f n m (at + 0) k vectors rest)) ∙ ap (λ (qs : List Placed). in_fronts qs (records_at f n m (at + 0) (last_epoch k qs) (named_behind vectors qs) rest)) none
  records_on zero long m at k vectors (b ∷ bytes) rest ps lf ll lm e = absurd (omega (arith, lf))
  records_on (suc fuel) zero m at k vectors (b ∷ bytes) rest ps lf ll lm e = absurd (omega (arith, ll))
  records_on (suc fuel) (suc long) m at k vectors (b ∷ bytes) rest ps lf ll lm e =
      let content : List ℕ = b ∷ bytes in
      let past : Entry × List ℕ → ℕ = λ x. at + (length content - length x.1) in
      let a = found_ok at (record_at f n k vectors (eqb at 0) content) (λ x. in_front (placed x.0 at (past x)) (records_at f n fuel (past x) (epoch_after k x.0) (named_after vectors x.0) x.1)) ps e in
      let x = a.0 in
      let g = front_ok (placed x.0 at (past x)) (records_at f n fuel (past x) (epoch_after k x.0) (named_after vectors x.0) x.1) ps a.2 in
      let l = record_local f n k vectors (eqb at 0) content x a.1 in
      let wide : length content ≡ length l.own + length x.1 = ap length l.parts ∙ length-append l.own x.1 in
      let some = l.some in
      let whole : content ++ rest ≡ l.own ++ (x.1 ++ rest) = ap (λ (z : List ℕ). z ++ rest) l.parts ∙ append_assoc l.own x.1 rest in
      let read : record_at f n k vectors (eqb at 0) (content ++ rest) ≡ Ok (x.0, x.1 ++ rest) = ap (record_at f n k vectors (eqb at 0)) whole ∙ l.again (x.1 ++ rest) in
      let lens : length (content ++ rest) ≡ length content + length rest = length-append content rest in
      let tail : length (x.1 ++ rest) ≡ length x.1 + length rest = length-append x.1 rest in
      let same : at + (length (content ++ rest) - length (x.1 ++ rest)) ≡ past x = omega (arith, lens, tail, wide) in
      let more = records_on fuel long m (past x) (epoch_after k x.0) (named_after vectors x.0) x.1 rest g.0 (omega (arith, lf, wide, some)) (omega (arith, ll, lens, tail, wide, some)) lm g.1 in
      let place : past x + length x.1 ≡ at + length content = omega (arith, wide) in
      let next : Entry × List ℕ → ℕ = λ y. at + (length (content ++ rest) - length y.1) in
      let on : Entry × List ℕ → Result (List Placed) RecordFault = λ y. in_front (placed y.0 at (next y)) (records_at f n long (next y) (epoch_after k y.0) (named_after vectors y.0) y.1) in
      let tail_read : ℕ → Result (List Placed) RecordFault = λ i. records_at f n m i (last_epoch (epoch_after k x.0) g.0) (named_behind (named_after vectors x.0) g.0) rest in
      ap (λ (r : Result (Entry × List ℕ) RecordCause). found_at at r on) read
      ∙ ap (λ (i : ℕ). in_front (placed x.0 at i) (records_at f n long i (epoch_after k x.0) (named_after vectors x.0) (x.1 ++ rest))) same
      ∙ ap (in_front (placed x.0 at (past x))) (more ∙ ap (λ (i : ℕ). in_fronts g.0 (tail_read i)) place)
      ∙ fronts_more (placed x.0 at (past x)) g.0 (tail_read (at + length content))
      ∙ ap (λ (qs : List Placed). in_fronts qs (records_at f n m (at + length content) (last_epoch k qs) (named_behind vectors qs) rest)) g.2

  -- a bad record does not stand before the place from where they are read
  pub fault_low : (fuel at k : ℕ) (vectors : List (List ℕ)) (bytes : List ℕ) (fault : RecordFault) → records_at f n fuel at k vectors bytes ≡ Err fault → at ≤ fault.at
  unfolding records_at
  fault_low fuel at k vectors [] fault e = absurd cc
  fault_low zero at k vectors (b ∷ bytes) fault e = absurd cc
  fault_low (suc fuel) at k vectors (b ∷ bytes) fault e =
      let past : Entry × List ℕ → ℕ = λ x. at + (length (b ∷ bytes) - length x.1) in
      elim (found_err at (record_at f n k vectors (eqb at 0) (b ∷ bytes)) (λ x. in_front (placed x.0 at (past x)) (records_at f n fuel (past x) (epoch_after k x.0) (named_after vectors x.0) x.1)) fault e) [
        | inl here ↦ omega (arith, here)
        | inr w ↦
            let low = fault_low fuel (past w.0) (epoch_after k w.0.0) (named_after vectors w.0.0) w.0.1 fault
            (front_err (placed w.0.0 at (past w.0)) (records_at f n fuel (past w.0) (epoch_after k w.0.0) (named_after vectors w.0.0) w.0.1) fault w.2) in
            omega (arith, low)
      ]

  -- the bytes after a content that is read
  abbrev pub rest_of : ℕ → List Placed → List ℕ → Result (List Placed) RecordFault
  rest_of at ps rest = records_at f n (length rest) at (last_epoch 0 ps) (named_behind (named n []) ps) rest

  pub content_on : (bytes rest : List ℕ) (ps : List Placed) → content_at f n bytes ≡ Ok ps → content_at f n (bytes ++ rest) ≡ in_fronts ps (rest_of (length bytes) ps rest)
  unfolding content_at
  content_on bytes rest ps e =
      let here : 0 + length bytes ≡ length bytes = omega arith in
      records_on (length bytes) (length (bytes ++ rest)) (length rest) 0 0 (named n []) bytes rest ps (omega arith) (omega arith) (omega arith) e
      ∙ ap (λ (i : ℕ). in_fronts ps (rest_of i ps rest)) here

-- ---- what is declared

bad_body : (d : Declarations) (ps : List Placed) (fault : RecordFault) → first_undeclared d ps ≡ Some fault → is_short fault.cause ≡ false
unfolding first_undeclared
bad_body d [] fault e = absurd cc
bad_body d (p ∷ ps) fault e = by (is_declared d p.entry) (bad_body d ps fault) e
  where
    some_is : (a b : RecordFault) → Some a ≡ Some b → a ≡ b
    some_is a b h = cc h

    by : (b : Bool) → (first_undeclared d ps ≡ Some fault → is_short fault.cause ≡ false) → cond b (first_undeclared d ps) (Some (record { at = p.start; cause = BadBody })) ≡ Some fault → is_short fault.cause ≡ false
    by true later h = later h
    by false later h = subst (λ (z : RecordFault). is_short z.cause ≡ false) (some_is (record { at = p.start; cause = BadBody }) fault h) refl

unless_ok : (o : Option RecordFault) (x y : List Placed) → unless o x ≡ Ok y → (o ≡ None) × (x ≡ y)
unless_ok None x y e = (refl, done_is x y e)
unless_ok (Some fault) x y e = absurd cc

unless_err : (o : Option RecordFault) (x : List Placed) (fault : RecordFault) → unless o x ≡ Err fault → o ≡ Some fault
unless_err None x fault e = absurd cc
unless_err (Some other) x fault e = ap (λ (z : RecordFault). Some z) (failed_is other fault e)

-- the records that a content gives
pub records_read : (f : Format) (n : ℕ) (bytes : List ℕ) (ps : List Placed) → records_of f n bytes ≡ Ok ps → (content_at f n bytes ≡ Ok ps) × (undeclared ps ≡ None)
unfolding records_of
records_read f n bytes ps e = by (content_at f n bytes) e
  where
    by : (r : Result (List Placed) RecordFault) → judged f n bytes r ≡ Ok ps → (r ≡ Ok ps) × (undeclared ps ≡ None)
    by (Ok qs) h = let w = unless_ok (undeclared qs) qs ps h in (ap (λ (z : List Placed). Ok z) w.1, subst (λ (z : List Placed). undeclared z ≡ None) w.1 w.0)
    by (Err fault) h = absurd cc

-- a record that is cut short is the first bad one by its bytes
pub records_short : (f : Format) (n : ℕ) (bytes : List ℕ) (fault : RecordFault) → records_of f n bytes ≡ Err fault → is_short fault.cause ≡ true → content_at f n bytes ≡ Err fault
unfolding records_of
records_short f n bytes fault e short = by (content_at f n bytes) e
  where
    not_both : is_short fault.cause ≡ false → ⊥
    not_both h = let f = sym short ∙ h in cc f

    which : (o : Option RecordFault) (other : RecordFault) → (o ≡ Some fault → ⊥) → failed (or_fault o other) ≡ failed fault → other ≡ fault
    which None other never h = failed_is other fault h
    which (Some found) other never h = absurd (never (ap (λ (z : RecordFault). Some z) (failed_is found fault h)))

    by : (r : Result (List Placed) RecordFault) → judged f n bytes r ≡ Err fault → r ≡ Err fault
    by (Ok qs) h = absurd (not_both (bad_body (declared_by (catalogue_of qs)) qs fault (unless_err (undeclared qs) qs fault h)))
    by (Err other) h =
        let before : List Placed = or_no_records (content_at f n (take other.at bytes)) in
        ap failed (which (undeclared before) other (λ u. not_both (bad_body (declared_by (catalogue_of before)) before fault u)) h)

-- ---- what was read of a stream

-- The records are those of a front of the bytes: of all of them, or of those before the record that is cut short.
pub record IsFront (f : Format) (n : ℕ) (bytes : List ℕ) (ps : List Placed) : Type 0 where
  pub front : List ℕ
  pub rest : List ℕ
  pub parts : bytes ≡ front ++ rest
  pub read : content_at f n front ≡ Ok ps
  pub declared : undeclared ps ≡ None
  pub stopped : (rest ≡ []) ⊎ ((fault : RecordFault) × (content_at f n bytes ≡ Err fault) × (front ≡ take fault.at bytes) × (is_short fault.cause ≡ true))

pub front_is : (f : Format) (n : ℕ) (bytes : List ℕ) (ps : List Placed) → front_of f n bytes ≡ Ok ps → IsFront f n bytes ps
unfolding front_of
front_is f n bytes ps e = by (records_of f n bytes) refl e
  where
    cut : (fault : RecordFault) → records_of f n bytes ≡ Err fault → (b : Bool) → is_short fault.cause ≡ b → cond b (records_of f n (take fault.at bytes)) (Err fault) ≡ Ok ps → IsFront f n bytes ps
    cut fault is true short h =
        let w = records_read f n (take fault.at bytes) ps h in
        record { front = take fault.at bytes; rest = drop fault.at bytes; parts = sym (take-append-drop fault.at bytes); read = w.0; declared = w.1; stopped = inr (fault, records_short f n bytes fault is short, refl, short) }
    cut fault is false short h = absurd cc

    by : (r : Result (List Placed) RecordFault) → records_of f n bytes ≡ r → or_front f n bytes r ≡ Ok ps → IsFront f n bytes ps
    by (Ok qs) is h =
        let w = records_read f n bytes ps (is ∙ ap done (done_is qs ps h)) in
        record { front = bytes; rest = []; parts = sym (append-nil bytes); read = w.0; declared = w.1; stopped = inl refl }
    by (Err fault) is h = cut fault is (is_short fault.cause) refl h

-- what is read of more bytes begins with what was read
pub front_grows : (f : Format) (n : ℕ) (bytes more : List ℕ) (ps qs : List Placed) → front_of f n bytes ≡ Ok ps → front_of f n (bytes ++ more) ≡ Ok qs → (ms : List Placed) × (qs ≡ ps ++ ms)
front_grows f n bytes more ps qs e g =
    let a = front_is f n bytes ps e in
    let b = front_is f n (bytes ++ more) qs g in
    let whole : bytes ++ more ≡ a.front ++ (a.rest ++ more) = ap (λ (z : List ℕ). z ++ more) a.parts ∙ append_assoc a.front a.rest more in
    let on : (rest : List ℕ) → content_at f n (a.front ++ rest) ≡ Ok qs → (ms : List Placed) × (qs ≡ ps ++ ms) = λ rest read.
    (let w = fronts_ok ps qs (rest_of f n (length a.front) ps rest) (sym (content_on f n a.front rest ps a.read) ∙ read) in (w.0, w.2)) in
    elim b.stopped [
      | inl none ↦
          let all : b.front ≡ bytes ++ more = sym (append-nil b.front) ∙ ap (λ (z : List ℕ). b.front ++ z) (sym none) ∙ sym b.parts in
          on (a.rest ++ more) (ap (content_at f n) (sym whole ∙ sym all) ∙ b.read)
      | inr w ↦
          let bad : rest_of f n (length a.front) ps (a.rest ++ more) ≡ Err w.0 = fronts_err ps w.0 (rest_of f n (length a.front) ps (a.rest ++ more))
          (sym (content_on f n a.front (a.rest ++ more) ps a.read) ∙ ap (content_at f n) (sym whole) ∙ w.1) in
          let low = fault_low f n (length (a.rest ++ more)) (length a.front) (last_epoch 0 ps) (named_behind (named n []) ps) (a.rest ++ more) w.0 bad in
          let past : ℕ = w.0.at - length a.front in
          let there : length a.front + past ≡ w.0.at = omega (arith, low) in
          let cut : take w.0.at (bytes ++ more) ≡ a.front ++ take past (a.rest ++ more) = ap (take w.0.at) whole ∙ ap (λ (i : ℕ). take i (a.front ++ (a.rest ++ more))) (sym there) ∙ take-append-add a.front (a.rest ++ more) past in
          on (take past (a.rest ++ more)) (ap (content_at f n) (sym cut ∙ sym w.2) ∙ b.read)
    ]

pub front_stands : (f : Format) (n : ℕ) (bytes : List ℕ) (ps : List Placed) → front_of f n bytes ≡ Ok ps → Stand 0 (last_past 0 ps) ps
front_stands f n bytes ps e =
    let a = front_is f n bytes ps e in
    let h = content_stands f n a.front ps a.read in
    subst (λ (i : ℕ). Stand 0 i ps) (sym (stand_end 0 (length a.front) ps h)) h

pub front_none : (f : Format) (n : ℕ) → front_of f n [] ≡ Ok []
unfolding front_of records_of content_at records_at first_undeclared
front_none f n = refl

-- ---- all streams

pub bind_ok : {A B : Type 0} (r : Result A LogFault) (g : A → Result B LogFault) (y : B) → (r >>= g) ≡ Ok y → (x : A) × (r ≡ Ok x) × (g x ≡ Ok y)
bind_ok (Ok x) g y e = (x, refl, e)
bind_ok (Err fault) g y e = absurd cc

abbrev all_done : List (List Placed) → Result (List (List Placed)) LogFault
all_done x = Ok x

all_done_is : (x y : List (List Placed)) → all_done x ≡ all_done y → x ≡ y
all_done_is x y e = cc

first_ok : (ps : List Placed) (r : Result (List (List Placed)) LogFault) (streams : List (List Placed)) → first_of ps r ≡ Ok streams → (rest : List (List Placed)) × (r ≡ Ok rest) × (ps ∷ rest ≡ streams)
first_ok ps (Ok rest) streams e = (rest, refl, all_done_is (ps ∷ rest) streams e)
first_ok ps (Err fault) streams e = absurd cc

pub recorded_ok : (j : ℕ) (r : Result (List Placed) RecordFault) (ps : List Placed) → recorded j r ≡ Ok ps → r ≡ Ok ps
recorded_ok j (Ok qs) ps e = cc
recorded_ok j (Err fault) ps e = absurd cc

-- each stream has been fed no less
abbrev pub Extends : List (List ℕ) → List (List ℕ) → Type 0
Extends [] [] = Unit {0}
Extends (b ∷ fed) (c ∷ now) = ((more : List ℕ) × (c ≡ b ++ more)) × Extends fed now
Extends _ _ = ⊥

pub extends_itself : (fed : List (List ℕ)) → Extends fed fed
extends_itself [] = tt
extends_itself (b ∷ fed) = (([], sym (append-nil b)), extends_itself fed)

pub extends_piece : (fed : List (List ℕ)) (p : Piece) → Extends fed (with_piece fed p)
extends_piece fed p = by fed p.stream
  where
    by : (fed : List (List ℕ)) (j : ℕ) → Extends fed (slice_set fed j (slice_index_or fed j [] ++ p.bytes))
    by [] j = tt
    by (b ∷ fed) zero = ((p.bytes, refl), extends_itself fed)
    by (b ∷ fed) (suc j) = (([], sym (append-nil b)), by fed j)

pub extends_long : (fed now : List (List ℕ)) → Extends fed now → length fed ≡ length now
extends_long [] [] h = refl
extends_long [] (c ∷ now) h = absurd h
extends_long (b ∷ fed) [] h = absurd h
extends_long (b ∷ fed) (c ∷ now) h = let rest = extends_long fed now h.1 in omega (arith, rest)

module _ (f : Format) (n : ℕ) where
  abbrev pub fronts_from : ℕ → List (List ℕ) → Result (List (List Placed)) LogFault
  fronts_from j fed = each_from (λ j bytes. recorded j (front_of f n bytes)) j fed

  pub one_more : (j : ℕ) (b : List ℕ) (fed : List (List ℕ)) (streams : List (List Placed)) → fronts_from j (b ∷ fed) ≡ Ok streams →
      (ps : List Placed) × (rest : List (List Placed)) × (front_of f n b ≡ Ok ps) × (fronts_from (suc j) fed ≡ Ok rest) × (ps ∷ rest ≡ streams)
  one_more j b fed streams e =
      let a = bind_ok (recorded j (front_of f n b)) (λ y. first_of y (fronts_from (suc j) fed)) streams e in
      let g = first_ok a.0 (fronts_from (suc j) fed) streams a.2 in
      (a.0, g.0, recorded_ok j (front_of f n b) a.0 a.1, g.1, g.2)

  grow_from : (j : ℕ) (fed now : List (List ℕ)) (old new : List (List Placed)) → Extends fed now → fronts_from j fed ≡ Ok old → fronts_from j now ≡ Ok new → (more : List (List Placed)) × Grown old more new
  grow_from j [] [] old new h e g = ([], subst (λ (l : List (List Placed)). Grown l [] new) (all_done_is [] old e) (subst (λ (l : List (List Placed)). Grown [] [] l) (all_done_is [] new g) tt))
  grow_from j [] (c ∷ now) old new h e g = absurd h
  grow_from j (b ∷ fed) [] old new h e g = absurd h
  grow_from j (b ∷ fed) (c ∷ now) old new h e g =
      let one = one_more j b fed old e in
      let two = one_more j c now new g in
      let first = front_grows f n b h.0.0 one.0 two.0 one.2 (subst (λ (z : List ℕ). front_of f n z ≡ Ok two.0) h.0.1 two.2) in
      let rest = grow_from (suc j) fed now one.1 two.1 h.1 one.3 two.3 in
      (first.0 ∷ rest.0, subst (λ (l : List (List Placed)). Grown l (first.0 ∷ rest.0) new) one.4 (subst (λ (l : List (List Placed)). Grown (one.0 ∷ one.1) (first.0 ∷ rest.0) l) two.4 (first.1, rest.1)))

  stand_from : (j : ℕ) (fed : List (List ℕ)) (streams : List (List Placed)) → fronts_from j fed ≡ Ok streams → AreStanding streams
  stand_from j [] streams e = subst AreStanding (all_done_is [] streams e) tt
  stand_from j (b ∷ fed) streams e =
      let one = one_more j b fed streams e in
      subst AreStanding one.4 (front_stands f n b one.0 one.2, stand_from (suc j) fed one.1 one.3)

  none_from : (j m : ℕ) → fronts_from j (replicate m []) ≡ Ok (replicate m [])
  none_from j zero = refl
  none_from j (suc m) = ap (λ (r : Result (List Placed) RecordFault). recorded j r >>= λ y. first_of y (fronts_from (suc j) (replicate m []))) (front_none f n) ∙ ap (first_of []) (none_from (suc j) m)

pub fronts_grow : (f : Format) (fed now : List (List ℕ)) (old new : List (List Placed)) → Extends fed now → fronts_of f fed ≡ Ok old → fronts_of f now ≡ Ok new → (more : List (List Placed)) × Grown old more new
unfolding fronts_of
fronts_grow f fed now old new h e g = grow_from f (length fed) 0 fed now old new h e (subst (λ (m : ℕ). fronts_from f m 0 now ≡ Ok new) (sym (extends_long fed now h)) g)

pub fronts_stand : (f : Format) (fed : List (List ℕ)) (streams : List (List Placed)) → fronts_of f fed ≡ Ok streams → AreStanding streams
unfolding fronts_of
fronts_stand f fed streams e = stand_from f (length fed) 0 fed streams e

pub fronts_none : (f : Format) (n : ℕ) → fronts_of f (replicate n []) ≡ Ok (replicate n [])
unfolding fronts_of
fronts_none f n = none_from f (length (replicate n [])) 0 n
