-- Bytes that begin contents that hold a log.
use Rattle.std.proofs.Common.{ℕ, zero, suc, ◌+◌, ◌-◌, ◌≤◌, ◌<◌, Bool, true, false, cond, ltb, eqb, ◌≡◌, ◌⊎◌, inl, inr, List, [], ◌∷◌, ◌++◌, length, take, drop, Some, None, Result, Ok, Err, refl, sym, ap, subst, ◌∙◌, arith, append_assoc}
use Rattle.std.specs.Prelude.{nat_lt}
use Rattle.std.specs.Int.{w32, from_be_bytes}
use Rattle.std.proofs.lemmas.Bool.{cases_Bool, ltb-false}
use Rattle.std.proofs.lemmas.Bool.Decides.{nat_tests}
use Rattle.std.proofs.lemmas.List.{length-append, length-drop}
use Rattle.tau_record.specs.declared.entry.Entry.{Entry}
use Rattle.tau_record.specs.declared.entry.Placed.{Placed}
use Rattle.tau_record.specs.declared.fault.RecordCause.{RecordCause}
use Rattle.tau_record.specs.declared.fault.RecordCause.TheVariants.{Short, BadKind, BadLength, BadBody}
use Rattle.tau_record.specs.declared.fault.RecordFault.{RecordFault}
use Rattle.tau_record.specs.Field.{◌>>=◌}
use Rattle.tau_record.specs.Format.{Format}
use Rattle.tau_record.specs.Record.{body_at, sized_at, total_at, frame_at, record_at, kind_fits, named}
use Rattle.tau_record.specs.Content.{named_behind, last_epoch, in_front, placed, records_at, content_at}
use Rattle.tau_record.proofs.FieldLaws.{bind_ok, guard_ok, ok_is}
use Rattle.tau_record.proofs.ItemLaws.{guard_held}
use Rattle.tau_scan.specs.Reading.{is_declared, undeclared, first_undeclared, records_of}
use Rattle.tau_follow_laws.specs.Fed.{front_of}
use Rattle.tau_follow_laws.proofs.Local.{record_local}
use Rattle.tau_follow_laws.proofs.GoesOn.{fronts_ok, rest_of, content_on, records_read}
use Rattle.tau_follow_laws.proofs.Stepping.{next_at, next_placed, rest_ok, rest_err, one_read, ends_read, ends_short, declared_with, declared_push, undeclared_push}

-- ---- a record that is cut

at_least : (a b : ℕ) → nat_lt a b ≡ false → b ≤ a
at_least a b e = grind (arith, nat_tests)

is_less : (a b : ℕ) → a < b → nat_lt a b ≡ true
is_less a b lt = grind (arith, nat_tests)

not_less : (a b : ℕ) → b ≤ a → nat_lt a b ≡ false
not_less a b le = grind (arith, nat_tests)

less_is : (a b : ℕ) → nat_lt a b ≡ true → a < b
less_is a b e = grind (arith, nat_tests)

take_first : (k : ℕ) (xs ys : List ℕ) → k ≤ length xs → take k (xs ++ ys) ≡ take k xs
take_first zero xs ys le = refl
take_first (suc k) [] ys le = absurd (omega (arith, le))
take_first (suc k) (x ∷ xs) ys le = ap (λ (l : List ℕ). x ∷ l) (take_first k xs ys (omega (arith, le)))

-- a record of which all bytes are there is as long as it says
total_whole : (kind : ℕ) (bytes : List ℕ) (x : (ℕ × List ℕ) × List ℕ) → total_at w32 kind bytes ≡ Ok x → x.1 ≡ [] → (4 ≤ length bytes) × (length bytes + 1 ≤ from_be_bytes w32 (take 4 bytes))
total_whole kind bytes x e none =
    let total : ℕ = from_be_bytes w32 (take 4 bytes) in
    let left : List ℕ = drop 4 bytes in
    let long = guard_ok (ltb (length bytes) 4) Short (sized_at kind total left) x e in
    let short = guard_ok (ltb (length left + 5) total) Short (cond (ltb total 5) (Err BadLength) (Ok ((kind, take (total - 5) left), drop (total - 5) left))) x long.1 in
    let fits = guard_ok (ltb total 5) BadLength (Ok ((kind, take (total - 5) left), drop (total - 5) left)) x short.1 in
    let is = ok_is ((kind, take (total - 5) left), drop (total - 5) left) x fits.1 in
    let end : length (drop (total - 5) left) ≡ 0 = ap (λ (z : (ℕ × List ℕ) × List ℕ). length z.1) is ∙ ap length none in
    let l = length-drop (total - 5) left in
    let d = length-drop 4 bytes in
    let five = ltb-false total 5 fits.0 in
    let enough = ltb-false (length bytes) 4 long.0 in
    (enough, omega (arith, end, l, d, five, enough))

total_short : (kind : ℕ) (bytes : List ℕ) → 4 ≤ length bytes → length bytes + 1 < from_be_bytes w32 (take 4 bytes) → total_at w32 kind bytes ≡ Err Short
total_short kind bytes long lacks =
    let l = length-drop 4 bytes in
    rw (not_less (length bytes) 4 long, is_less (length (drop 4 bytes) + 5) (from_be_bytes w32 (take 4 bytes)) (omega (arith, l, long, lacks))) refl

-- less of its bytes are too few
record_cut : (f : Format) (n k : ℕ) (vectors : List (List ℕ)) (first : Bool) (bytes tail : List ℕ) (e : Entry) → record_at f n k vectors first (bytes ++ tail) ≡ Ok (e, []) → 1 ≤ length tail → record_at f n k vectors first bytes ≡ Err Short
unfolding record_at frame_at
record_cut f n k vectors first [] tail e is some = refl
record_cut f n k vectors first (kind ∷ bytes) tail e is some =
    let body : (ℕ × List ℕ) × List ℕ → Result (Entry × List ℕ) RecordCause = λ frame. body_at f n k vectors frame.0.0 frame.0.1 >>= λ e. Ok (e, frame.1) in
    let a = bind_ok (frame_at first (kind ∷ (bytes ++ tail))) body (e, []) is in
    let b = bind_ok (body_at f n k vectors a.0.0.0 a.0.0.1) (λ e. Ok (e, a.0.1)) (e, []) a.2 in
    let last = ok_is (b.0, a.0.1) (e, []) b.2 in
    let none : a.0.1 ≡ [] = ap (λ (z : Entry × List ℕ). z.1) last in
    let fits = guard_held (kind_fits first kind) BadKind (total_at w32 kind (bytes ++ tail)) a.0 a.1 in
    let w = total_whole kind (bytes ++ tail) a.0 fits.1 none in
    elim (cases_Bool (nat_lt (length bytes) 4)) [
      | inl t ↦ rw (fits.0, t) refl
      | inr g ↦
          let long = at_least (length bytes) 4 g in
          let l = length-append bytes tail in
          let wide = w.1 in
          let short = total_short kind bytes long (subst (λ (x : List ℕ). length bytes + 1 < from_be_bytes w32 x) (take_first 4 bytes tail long) (omega (arith, l, some, wide))) in
          rw (fits.0, short) refl
    ]

parted : (xs ys us vs : List ℕ) → xs ++ ys ≡ us ++ vs → length us ≤ length xs → (w : List ℕ) × (xs ≡ us ++ w) × (vs ≡ w ++ ys)
parted xs ys [] vs e le = (xs, refl, sym e)
parted [] ys (u ∷ us) vs e le = absurd (omega (arith, le))
parted (x ∷ xs) ys (u ∷ us) vs e le =
    let first : x ≡ u = cc in
    let rest : xs ++ ys ≡ us ++ vs = cc in
    let w = parted xs ys us vs rest (omega (arith, le)) in
    (w.0, ap (λ (z : ℕ). z ∷ xs) first ∙ ap (λ (l : List ℕ). u ∷ l) w.1, w.2)

-- of the first bytes the same record is read, or none yet
record_begins : (f : Format) (n k : ℕ) (vectors : List (List ℕ)) (first : Bool) (bytes more : List ℕ) (x : Entry × List ℕ) → record_at f n k vectors first (bytes ++ more) ≡ Ok x →
    ((after : List ℕ) × (record_at f n k vectors first bytes ≡ Ok (x.0, after)) × (x.1 ≡ after ++ more)) ⊎ (record_at f n k vectors first bytes ≡ Err Short)
record_begins f n k vectors first bytes more x e =
    let l = record_local f n k vectors first (bytes ++ more) x e in
    elim (cases_Bool (nat_lt (length bytes) (length l.own))) [
      | inl t ↦
          let lt = less_is (length bytes) (length l.own) t in
          let w = parted l.own x.1 bytes more (sym l.parts) (omega (arith, lt)) in
          let long = ap length w.1 ∙ length-append bytes w.0 in
          inr (record_cut f n k vectors first bytes w.0 x.0 (subst (λ (z : List ℕ). record_at f n k vectors first z ≡ Ok (x.0, [])) (append_nothing l.own ∙ w.1) (l.again [])) (omega (arith, long, lt)))
      | inr g ↦
          let w = parted bytes more l.own x.1 l.parts (at_least (length bytes) (length l.own) g) in
          inl (w.0, ap (record_at f n k vectors first) w.1 ∙ l.again w.0, w.2)
    ]
  where
    append_nothing : (xs : List ℕ) → xs ++ [] ≡ xs
    append_nothing [] = refl
    append_nothing (y ∷ xs) = ap (λ (l : List ℕ). y ∷ l) (append_nothing xs)

-- ---- a content of which the first bytes are there

abbrev failed : RecordFault → Result (List Placed) RecordFault
failed fault = Err fault

abbrev read_all : List Placed → Result (List Placed) RecordFault
read_all ms = Ok ms

first_ok : (p : Placed) (r : Result (List Placed) RecordFault) (ms : List Placed) → in_front p r ≡ Ok ms → (rest : List Placed) × (ms ≡ p ∷ rest)
first_ok p (Ok qs) ms e = (qs, let z : ◌≡◌ {A = Result (List Placed) RecordFault} (Ok (p ∷ qs)) (Ok ms) = e in sym cc)
first_ok p (Err fault) ms e = absurd cc

module _ (f : Format) (n : ℕ) where
  -- after records that are read, so many bytes more may be read
  abbrev Begins : ℕ → Type 0
  Begins fuel = (front rest more : List ℕ) (ps all : List Placed) → length rest ≤ fuel → content_at f n front ≡ Ok ps → undeclared ps ≡ None → content_at f n (front ++ (rest ++ more)) ≡ Ok all → undeclared all ≡ None →
      (qs : List Placed) × (front_of f n (front ++ rest) ≡ Ok qs)

  module _ (fuel : ℕ) (next : Begins fuel) (front : List ℕ) (b : ℕ) (rest more : List ℕ) (ps all : List Placed) (le : length (b ∷ rest) ≤ suc fuel) (read : content_at f n front ≡ Ok ps) (declared : undeclared ps ≡ None)
      (whole : content_at f n (front ++ ((b ∷ rest) ++ more)) ≡ Ok all) (good : undeclared all ≡ None) where
    found : (ms : List Placed) × (rest_of f n (length front) ps (b ∷ (rest ++ more)) ≡ Ok ms) × (all ≡ ps ++ ms)
    found = fronts_ok ps all (rest_of f n (length front) ps (b ∷ (rest ++ more))) (sym (content_on f n front (b ∷ (rest ++ more)) ps read) ∙ whole)

    goes : (x : Entry × List ℕ) (after : List ℕ) → next_at f n (length front) ps (b ∷ (rest ++ more)) ≡ Ok x → next_at f n (length front) ps (b ∷ rest) ≡ Ok (x.0, after) → x.1 ≡ after ++ more →
        (qs : List Placed) × (front_of f n (front ++ (b ∷ rest)) ≡ Ok qs)
    goes x after is now tail =
        let p : Placed = next_placed f n (length front) x.0 (b ∷ rest) after in
        let r = rest_ok f n (length front) ps (b ∷ (rest ++ more)) x (omega arith) is in
        let one = first_ok (next_placed f n (length front) x.0 (b ∷ (rest ++ more)) x.1) _ found.0 (sym r.2 ∙ found.1) in
        let long = length-append rest more in
        let short = ap length tail ∙ length-append after more in
        let place : length front + (length (b ∷ (rest ++ more)) - length x.1) ≡ length front + (length (b ∷ rest) - length after) = omega (arith, long, short) in
        let all_is : all ≡ ps ++ p ∷ one.0 = found.2 ∙ ap (λ (l : List Placed). ps ++ l) one.1 ∙ ap (λ (i : ℕ). ps ++ placed x.0 (length front) i ∷ one.0) place in
        let names : is_declared (declared_with ps p) p.entry ≡ true = (elim (cases_Bool (is_declared (declared_with ps p) p.entry)) [
          | inl t ↦ t
          | inr none ↦ absurd (let z : Some (record { at = p.start; cause = BadBody }) ≡ None = sym (undeclared_push ps p one.0 declared none) ∙ ap undeclared (sym all_is) ∙ good in cc z)
        ]) in
        let o = one_read f n front (b ∷ rest) ps (x.0, after) read now in
        let l = record_local f n (last_epoch 0 ps) (named_behind (named n []) ps) (eqb (length front) 0) (b ∷ rest) (x.0, after) now in
        let wide = ap length l.parts ∙ length-append l.own after in
        let some = l.some in
        let there : (front ++ o.0) ++ (after ++ more) ≡ front ++ ((b ∷ rest) ++ more) =
        append_assoc front o.0 (after ++ more) ∙ ap (λ (z : List ℕ). front ++ z) (sym (append_assoc o.0 after more) ∙ ap (λ (z : List ℕ). z ++ more) (sym o.1)) in
        let further = next (front ++ o.0) after more (ps ++ p ∷ []) all (omega (arith, le, wide, some)) o.2 (declared_push ps p declared names) (ap (content_at f n) there ∙ whole) good in
        (further.0, ap (front_of f n) (ap (λ (z : List ℕ). front ++ z) o.1 ∙ sym (append_assoc front o.0 after)) ∙ further.1)

    one_more : (r : Result (Entry × List ℕ) RecordCause) → next_at f n (length front) ps (b ∷ (rest ++ more)) ≡ r → (qs : List Placed) × (front_of f n (front ++ (b ∷ rest)) ≡ Ok qs)
    one_more (Err cause) is = absurd (let z : failed (record { at = length front; cause = cause }) ≡ read_all found.0 = sym (rest_err f n (length front) ps (b ∷ (rest ++ more)) cause (omega arith) is) ∙ found.1 in cc z)
    one_more (Ok x) is = elim (record_begins f n (last_epoch 0 ps) (named_behind (named n []) ps) (eqb (length front) 0) (b ∷ rest) more x is) [
      | inl w ↦ goes x w.0 is w.1 w.2
      | inr short ↦ (ps, ends_short f n front (b ∷ rest) ps Short read declared (omega arith) short refl)
    ]

  begins_on : (fuel : ℕ) (front rest more : List ℕ) (ps all : List Placed) → length rest ≤ fuel → content_at f n front ≡ Ok ps → undeclared ps ≡ None → content_at f n (front ++ (rest ++ more)) ≡ Ok all → undeclared all ≡ None →
      (qs : List Placed) × (front_of f n (front ++ rest) ≡ Ok qs)
  begins_on fuel front [] more ps all le read declared whole good = (ps, ends_read f n front [] ps read declared refl)
  begins_on zero front (b ∷ rest) more ps all le read declared whole good = absurd (omega (arith, le))
  begins_on (suc fuel) front (b ∷ rest) more ps all le read declared whole good =
      one_more fuel (begins_on fuel) front b rest more ps all le read declared whole good (next_at f n (length front) ps (b ∷ (rest ++ more))) refl

  -- bytes that begin a good content are not bad
  pub front_begins : (bytes more : List ℕ) (all : List Placed) → records_of f n (bytes ++ more) ≡ Ok all → (qs : List Placed) × (front_of f n bytes ≡ Ok qs)
  unfolding content_at records_at first_undeclared
  front_begins bytes more all e =
      let w = records_read f n (bytes ++ more) all e in
      begins_on (length bytes) [] bytes more [] all (omega arith) refl refl w.0 w.1
