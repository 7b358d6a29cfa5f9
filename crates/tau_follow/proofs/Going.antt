-- A reader goes on record by record.
use Rattle.std.proofs.Common.{ℕ, zero, suc, ◌+◌, ◌-◌, ◌≤◌, ◌<◌, Bool, true, false, eqb, ◌≡◌, inl, inr, List, [], ◌∷◌, ◌++◌, length, take, drop, None, Result, Ok, Err, refl, sym, ap, subst, ◌∙◌, arith, append_assoc}
use Rattle.std.specs.Prelude.{if◌then◌else◌, ◌==◌}
use Rattle.std.proofs.lemmas.List.{length-append, length-drop, take_all}
use Rattle.std.proofs.lemmas.Bool.{cases_Bool, eq-eqb, eqb-true}
use Rattle.std.proofs.Math.Seq.{drop-append_seam}
use Rattle.tau_record.specs.declared.entry.Entry.{Entry}
use Rattle.tau_record.specs.declared.entry.Placed.{Placed}
use Rattle.tau_record.specs.declared.fault.RecordCause.{RecordCause}
use Rattle.tau_record.specs.declared.fault.RecordFault.{RecordFault}
use Rattle.tau_record.specs.declared.fault.RecordRefusal.{RecordRefusal}
use Rattle.tau_record.specs.Format.{Format}
use Rattle.tau_record.specs.Record.{epoch_after, record_at, named}
use Rattle.tau_record.specs.Content.{named_after, named_behind, placed, content_at}
use Rattle.tau_text.specs.declared.load.Declarations.{Declarations}
use Rattle.tau_scan.specs.Reading.{text_of, is_declared, declared_by, catalogue_of}
use Rattle.tau_epoch_laws.proofs.Records.{content_stands}
use Rattle.tau_follow_laws.proofs.Local.{record_local}
use Rattle.tau_follow_laws.proofs.Rises.{stand_low}
use Rattle.tau_follow_laws.proofs.Stepping.{next_at as step_at, next_placed, one_read, ends_read, ends_short, ends_bad, ends_undeclared, declared_with, declared_push, named_push, epoch_push}
use Rattle.tau_follow_laws.specs.Fed.{is_short, front_of}
use Rattle.tau_record.specs.declared.fault.RecordCause.TheVariants.{Short, BadBody}
use Rattle.tau_record.specs.Record.{frame_at}
use Rattle.tau_record.specs.Content.{records_at}
use Rattle.tau_scan.specs.Reading.{first_undeclared}
use Rattle.std.specs.Global.{Vec}
use Rattle.tau_follow.specs.declared.reader.Reader.{Reader}
use Rattle.tau_follow.specs.Reading.{IsGoing, next_at, IsStopped}

-- ---- the bytes of a record

-- what is after a record is the rest of the bytes from its length on
pub after_is : (f : Format) (n k : ℕ) (vectors : List (List ℕ)) (first : Bool) (bytes : List ℕ) (x : Entry × List ℕ) → record_at f n k vectors first bytes ≡ Ok x →
    (length x.1 < length bytes) × (x.1 ≡ drop (length bytes - length x.1) bytes)
after_is f n k vectors first bytes x e =
    let l = record_local f n k vectors first bytes x e in
    let wide : length bytes ≡ length l.own + length x.1 = ap length l.parts ∙ length-append l.own x.1 in
    let some = l.some in
    let own : length bytes - length x.1 ≡ length l.own = omega (arith, wide) in
    (omega (arith, wide, some), sym (ap (λ (i : ℕ). drop i bytes) own ∙ ap (drop (length l.own)) l.parts ∙ drop-append_seam l.own x.1))

drop_drop : (i j : ℕ) (xs : List ℕ) → drop j (drop i xs) ≡ drop (i + j) xs
drop_drop zero j xs = let e : 0 + j ≡ j = omega arith in ap (λ (k : ℕ). drop k xs) (sym e)
drop_drop (suc i) zero [] = let e : suc i + 0 ≡ suc i = omega arith in ap (λ (k : ℕ). drop k []) (sym e)
drop_drop (suc i) (suc j) [] = let e : suc i + suc j ≡ suc (i + suc j) = omega arith in ap (λ (k : ℕ). drop k []) (sym e)
drop_drop (suc i) j (x ∷ xs) = let e : suc i + j ≡ suc (i + j) = omega arith in drop_drop i j xs ∙ ap (λ (k : ℕ). drop k (x ∷ xs)) (sym e)

module _ (f : Format) (n k : ℕ) (vectors : List (List ℕ)) (first : Bool) (rest : List ℕ) (from m : ℕ) (whole : length rest - from ≤ m) where
  pub all_of : take m (drop from rest) ≡ drop from rest
  all_of = take_all m (drop from rest) (let l = length-drop from rest in omega (arith, l, whole))

  pub next_less : (e : Entry) (after : List ℕ) → record_at f n k vectors first (take m (drop from rest)) ≡ Ok (e, after) → length after < length (take m (drop from rest))
  next_less e after is = (after_is f n k vectors first (take m (drop from rest)) (e, after) is).0

  pub next_some : (e : Entry) (after : List ℕ) → from ≤ length rest → record_at f n k vectors first (take m (drop from rest)) ≡ Ok (e, after) →
      record_at f n k vectors first (drop from rest) ≡ Ok (e, drop (from + (length (take m (drop from rest)) - length after)) rest)
  next_some e after within is =
      let a = after_is f n k vectors first (take m (drop from rest)) (e, after) is in
      let long : ℕ = length (take m (drop from rest)) - length after in
      let there : after ≡ drop (from + long) rest = a.1 ∙ ap (drop long) all_of ∙ drop_drop from long rest in
      ap (record_at f n k vectors first) (sym all_of) ∙ is ∙ ap (λ (l : List ℕ). Ok (e, l)) there

  pub next_long : (e : Entry) (after : List ℕ) → from ≤ length rest → record_at f n k vectors first (take m (drop from rest)) ≡ Ok (e, after) →
      (1 ≤ length (take m (drop from rest)) - length after) × (from + (length (take m (drop from rest)) - length after) ≤ length rest)
  next_long e after within is =
      let a = (after_is f n k vectors first (take m (drop from rest)) (e, after) is).0 in
      let l = ap length all_of ∙ length-drop from rest in
      (omega (arith, a), omega (arith, a, l, within))

-- the same of the bytes of a reader, as the code lends them
module _ (f : Format) (n last : ℕ) (first : Bool) (vectors lent : List (List ℕ)) (rest bytes : List ℕ) (from : ℕ) (e : Entry) (after : List ℕ)
    (same : bytes ≡ rest) (vectors_are : lent ≡ vectors) (within : from ≤ length rest) (read : record_at f n last lent first (take (length bytes - from) (drop from bytes)) ≡ Ok (e, after)) where
  read_there : record_at f n last vectors first (take (length rest - from) (drop from rest)) ≡ Ok (e, after)
  read_there = subst (λ (z : List ℕ). record_at f n last vectors first (take (length z - from) (drop from z)) ≡ Ok (e, after)) same
      (subst (λ (z : List (List ℕ)). record_at f n last z first (take (length bytes - from) (drop from bytes)) ≡ Ok (e, after)) vectors_are read)

  pub told_less : length after ≤ length (take (length bytes - from) (drop from bytes))
  told_less = let l = next_less f n last lent first bytes from (length bytes - from) (omega arith) e after read in omega (arith, l)

  pub told_some : record_at f n last vectors first (drop from rest) ≡ Ok (e, drop (from + (length (take (length bytes - from) (drop from bytes)) - length after)) rest)
  told_some = subst (λ (z : List ℕ). record_at f n last vectors first (drop from rest) ≡ Ok (e, drop (from + (length (take (length z - from) (drop from z)) - length after)) rest)) (sym same)
      (next_some f n last vectors first rest from (length rest - from) (omega arith) e after within read_there)

  pub told_long : (1 ≤ length (take (length bytes - from) (drop from bytes)) - length after) × (from + (length (take (length bytes - from) (drop from bytes)) - length after) ≤ length rest)
  told_long = subst (λ (z : List ℕ). (1 ≤ length (take (length z - from) (drop from z)) - length after) × (from + (length (take (length z - from) (drop from z)) - length after) ≤ length rest)) (sym same)
      (next_long f n last vectors first rest from (length rest - from) (omega arith) e after within read_there)

-- ---- a reader that goes on

pub new_read : (f : Format) (n : ℕ) (r : Reader) → r.rest.items ≡ [] → r.at ≡ 0 → r.vectors.items ≡ named n [] → r.last ≡ 0 → r.declarations ≡ declared_by None → IsGoing f n [] [] r 0
unfolding content_at records_at first_undeclared
new_read f n r rest place vectors last declarations = record {
  front = [];
  parts = sym (ap (drop 0) rest);
  read = refl;
  declared = refl;
  place = place;
  vectors = vectors;
  last = last;
  declarations = declarations;
  within = omega arith;
}

none_there : (f : Format) (n : ℕ) (front : List ℕ) → content_at f n front ≡ Ok [] → length front ≡ 0
none_there f n front e = let h = content_stands f n front [] e in sym h

some_there : (f : Format) (n : ℕ) (front : List ℕ) (q : Placed) (ps : List Placed) → content_at f n front ≡ Ok (q ∷ ps) → 1 ≤ length front
some_there f n front q ps e =
    let h = content_stands f n front (q ∷ ps) e in
    let low = h.1 in
    let rest = stand_low q.past (length front) ps h.2 in
    omega (arith, low, rest)

-- what is declared once the record is there
declared_is : (f : Format) (n : ℕ) (front : List ℕ) (ps : List Placed) (p : Placed) (at : ℕ) (old d : Declarations) → content_at f n front ≡ Ok ps → at ≡ length front → old ≡ declared_by (catalogue_of ps) →
    d ≡ (if at == 0 then declared_by (text_of p.entry) else old) → d ≡ declared_with ps p
declared_is f n front [] p at old d e place is d_is =
    let none : at ≡ 0 = place ∙ none_there f n front e in
    d_is ∙ ap (λ (b : Bool). if b then declared_by (text_of p.entry) else old) (eq-eqb at 0 none)
declared_is f n front (q ∷ ps) p at old d e place is d_is =
    let some = some_there f n front q ps e in
    let other : (at == 0) ≡ false = (elim (cases_Bool (at == 0)) [ inl t ↦ absurd (let z = eqb-true at 0 t in omega (arith, z, place, some)) | inr n ↦ n ]) in
    d_is ∙ ap (λ (b : Bool). if b then declared_by (text_of p.entry) else old) other ∙ is

module _ (f : Format) (n : ℕ) (content : List ℕ) (ps : List Placed) (r : Reader) (from : ℕ) (g : IsGoing f n content ps r from) where
  -- the next record, by what is known of the records
  stepped : {x : Result (Entry × List ℕ) RecordCause} → next_at f n r from ≡ x → step_at f n (length g.front) ps (drop from r.rest.items) ≡ x
  stepped e =
      ap (λ (k : ℕ). record_at f n k (named_behind (named n []) ps) (eqb (length g.front) 0) (drop from r.rest.items)) (sym g.last)
      ∙ ap (λ (vs : List (List ℕ)). record_at f n r.last vs (eqb (length g.front) 0) (drop from r.rest.items)) (sym g.vectors)
      ∙ ap (λ (i : ℕ). record_at f n r.last r.vectors.items (eqb i 0) (drop from r.rest.items)) (sym g.place) ∙ e

  nothing_short : step_at f n (length g.front) ps [] ≡ Err Short
  unfolding record_at frame_at
  nothing_short = refl

  abbrev failed_by : RecordCause → Result (Entry × List ℕ) RecordCause
  failed_by c = Err c

  cause_is : (a b : RecordCause) → failed_by a ≡ failed_by b → a ≡ b
  cause_is a b e = cc

  -- a bad record
  pub stop_bad : (fault : RecordFault) → next_at f n r from ≡ Err fault.cause → fault.at ≡ r.at → is_short fault.cause ≡ false → front_of f n content ≡ Err fault
  stop_bad fault e at long = by (drop from r.rest.items) refl
    where
      bad_at : ℕ → RecordCause → Result (List Placed) RecordFault
      bad_at i c = Err (record { at = i; cause = c })

      by : (rest : List ℕ) → drop from r.rest.items ≡ rest → front_of f n content ≡ Err fault
      by [] none =
          let short : failed_by Short ≡ failed_by fault.cause = sym nothing_short ∙ ap (step_at f n (length g.front) ps) (sym none) ∙ stepped e in
          absurd (let z : true ≡ false = ap is_short (cause_is Short fault.cause short) ∙ long in cc z)
      by (b ∷ bytes) some =
          let is : step_at f n (length g.front) ps (b ∷ bytes) ≡ Err fault.cause = ap (step_at f n (length g.front) ps) (sym some) ∙ stepped e in
          ap (front_of f n) (g.parts ∙ ap (λ (l : List ℕ). g.front ++ l) some) ∙ ends_bad f n g.front (b ∷ bytes) ps fault.cause g.read g.declared (omega arith) is long
          ∙ ap (λ (i : ℕ). bad_at i fault.cause) (sym g.place ∙ sym at)

  -- no more bytes, or too few
  pub stop_ok : IsStopped f n r from → front_of f n content ≡ Ok ps
  stop_ok s = by (drop from r.rest.items) refl
    where
      by : (rest : List ℕ) → drop from r.rest.items ≡ rest → front_of f n content ≡ Ok ps
      by [] none = ap (front_of f n) (g.parts ∙ ap (λ (l : List ℕ). g.front ++ l) none) ∙ ends_read f n g.front [] ps g.read g.declared refl
      by (b ∷ bytes) some = elim s [
        | inl none ↦ absurd (let z = sym none ∙ some in cc z)
        | inr short ↦
            let is : step_at f n (length g.front) ps (b ∷ bytes) ≡ Err Short = ap (step_at f n (length g.front) ps) (sym some) ∙ stepped short in
            ap (front_of f n) (g.parts ∙ ap (λ (l : List ℕ). g.front ++ l) some) ∙ ends_short f n g.front (b ∷ bytes) ps Short g.read g.declared (omega arith) is refl
      ]

  module _ (e : Entry) (long : ℕ) (d : Declarations) (some : 1 ≤ long) (within : from + long ≤ length r.rest.items) (read : next_at f n r from ≡ Ok (e, drop (from + long) r.rest.items))
      (declares : d ≡ (if r.at == 0 then declared_by (text_of e) else r.declarations)) where
    taken : length (drop from r.rest.items) - length (drop (from + long) r.rest.items) ≡ long
    taken = let a = length-drop from r.rest.items in let b = length-drop (from + long) r.rest.items in omega (arith, a, b, within)

    some_left : 1 ≤ length (drop from r.rest.items)
    some_left = let a = length-drop from r.rest.items in omega (arith, a, within, some)

    -- the record in its place
    placed_is : next_placed f n (length g.front) e (drop from r.rest.items) (drop (from + long) r.rest.items) ≡ placed e r.at (r.at + long)
    placed_is = ap (λ (m : ℕ). placed e (length g.front) (length g.front + m)) taken ∙ ap (λ (i : ℕ). placed e i (i + long)) (sym g.place)

    with_is : d ≡ declared_with ps (placed e r.at (r.at + long))
    with_is = declared_is f n g.front ps (placed e r.at (r.at + long)) r.at r.declarations d g.read g.place g.declarations declares

    pub put_bad : is_declared d e ≡ false → front_of f n content ≡ Err (record { at = r.at; cause = BadBody })
    put_bad names =
        let not_named : is_declared (declared_with ps (next_placed f n (length g.front) e (drop from r.rest.items) (drop (from + long) r.rest.items))) e ≡ false
        = ap (λ (p : Placed). is_declared (declared_with ps p) e) placed_is ∙ ap (λ (z : Declarations). is_declared z e) (sym with_is) ∙ names in
        ap (front_of f n) g.parts ∙ ends_undeclared f n g.front (drop from r.rest.items) ps (e, drop (from + long) r.rest.items) g.read g.declared some_left (stepped read) not_named
        ∙ ap bad_body (sym g.place)
      where
        bad_body : ℕ → Result (List Placed) RecordFault
        bad_body i = Err (record { at = i; cause = BadBody })

    pub put_going : is_declared d e ≡ true → (t : Reader) (records : List Placed) → t.rest ≡ r.rest → t.at ≡ r.at + long → t.vectors.items ≡ named_after r.vectors.items e → t.last ≡ epoch_after r.last e → t.declarations ≡ d →
        records ≡ ps ++ placed e r.at (r.at + long) ∷ [] → IsGoing f n content records t (from + long)
    put_going names t records rest_is at_is vectors_are last_is d_is records_are =
        let p : Placed = placed e r.at (r.at + long) in
        let one = one_read f n g.front (drop from r.rest.items) ps (e, drop (from + long) r.rest.items) g.read (stepped read) in
        let own : List ℕ = one.0 in
        let items : t.rest.items ≡ r.rest.items = ap (λ (v : Vec ℕ). v.items) rest_is in
        let wide : length (drop from r.rest.items) ≡ length own + length (drop (from + long) r.rest.items) = ap length one.1 ∙ length-append own (drop (from + long) r.rest.items) in
        let own_long : length own ≡ long = (let a = length-drop from r.rest.items in let b = length-drop (from + long) r.rest.items in omega (arith, a, b, wide, within)) in
        subst (λ (qs : List Placed). IsGoing f n content qs t (from + long)) (sym records_are) (record {
          front = g.front ++ own;
          parts = g.parts ∙ ap (λ (l : List ℕ). g.front ++ l) one.1 ∙ sym (append_assoc g.front own (drop (from + long) r.rest.items)) ∙ ap (λ (l : List ℕ). (g.front ++ own) ++ drop (from + long) l) (sym items);
          read = one.2 ∙ ap (λ (q : Placed). ok_of (ps ++ q ∷ [])) placed_is;
          declared = declared_push ps p g.declared (ap (λ (z : Declarations). is_declared z e) (sym with_is) ∙ names);
          place = (let l = length-append g.front own in let a = g.place in omega (arith, l, a, at_is, own_long));
          vectors = vectors_are ∙ ap (λ (vs : List (List ℕ)). named_after vs e) g.vectors ∙ sym (named_push (named n []) ps p);
          last = last_is ∙ ap (λ (k : ℕ). epoch_after k e) g.last ∙ sym (epoch_push 0 ps p);
          declarations = d_is ∙ with_is;
          within = subst (λ (l : List ℕ). from + long ≤ length l) (sym items) within;
        })
      where
        ok_of : List Placed → Result (List Placed) RecordFault
        ok_of qs = Ok qs

-- ---- bytes that come and go

-- with more bytes
pub extend_read : (f : Format) (n : ℕ) (content bytes : List ℕ) (ps : List Placed) (r t : Reader) → IsGoing f n content ps r 0 → t.rest.items ≡ r.rest.items ++ bytes → t.at ≡ r.at → t.vectors ≡ r.vectors → t.last ≡ r.last → t.declarations ≡ r.declarations →
    IsGoing f n (content ++ bytes) ps t 0
extend_read f n content bytes ps r t g rest at vectors last declarations = record {
  front = g.front;
  parts = ap (λ (l : List ℕ). l ++ bytes) g.parts ∙ append_assoc g.front (drop 0 r.rest.items) bytes ∙ ap (λ (l : List ℕ). g.front ++ l) (sym rest);
  read = g.read;
  declared = g.declared;
  place = at ∙ g.place;
  vectors = ap (λ (v : Vec (List ℕ)). v.items) vectors ∙ g.vectors;
  last = last ∙ g.last;
  declarations = declarations ∙ g.declarations;
  within = omega arith;
}

-- without those that are read
pub keep_read : (f : Format) (n : ℕ) (content : List ℕ) (ps : List Placed) (r t : Reader) (from : ℕ) → IsGoing f n content ps r from → t.rest.items ≡ drop from r.rest.items → t.at ≡ r.at → t.vectors ≡ r.vectors → t.last ≡ r.last → t.declarations ≡ r.declarations →
    IsGoing f n content ps t 0
keep_read f n content ps r t from g rest at vectors last declarations = record {
  front = g.front;
  parts = g.parts ∙ ap (λ (l : List ℕ). g.front ++ l) (sym rest);
  read = g.read;
  declared = g.declared;
  place = at ∙ g.place;
  vectors = ap (λ (v : Vec (List ℕ)). v.items) vectors ∙ g.vectors;
  last = last ∙ g.last;
  declarations = declarations ∙ g.declarations;
  within = omega arith;
}

-- ---- one error in two results

pub refused_as : {A B : Type 0} (d e : RecordRefusal) → ◌≡◌ {A = Result A RecordRefusal} (Err d) (Err e) → ◌≡◌ {A = Result B RecordRefusal} (Err d) (Err e)
refused_as d e h = let same : d ≡ e = cc in ap (λ (z : RecordRefusal). Err z) same

pub fault_as : (f : Format) (n : ℕ) (content : List ℕ) (a b : RecordFault) → front_of f n content ≡ Err a → b ≡ a → front_of f n content ≡ Err b
fault_as f n content a b h e = h ∙ ap (λ (z : RecordFault). Err z) (sym e)
