-- Contents: what is read is spelled so, and what is spelled so is read.
use Rattle.std.proofs.Common.{◌⊎◌, ◌≡◌, ℕ, zero, suc, ◌+◌, ◌-◌, ◌<◌, ◌≤◌, eqb, List, [], ◌∷◌, ◌++◌, length, take, drop, replicate, Result, Ok, Err, refl, sym, ap, subst, ◌∙◌, arith, inl, inr}
use Rattle.std.specs.Int.{w32, to_be_bytes}
use Rattle.std.proofs.Math.Seq.{take-append-add, drop-append-add}
use Rattle.std.proofs.lemmas.Bool.{cases_lt}
use Rattle.std.proofs.lemmas.List.{length-append, get_or_append_left, get_or_push, length-replicate}
use Rattle.tau_record.specs.declared.entry.Entry.{Entry}
use Rattle.tau_record.specs.declared.entry.Entry.TheVariants.{Written, Command, Anchor, Catalogue, Epoch}
use Rattle.tau_record.specs.declared.entry.Placed.{Placed}
use Rattle.tau_record.specs.declared.fault.RecordCause.{RecordCause}
use Rattle.tau_record.specs.declared.fault.RecordFault.{RecordFault}
use Rattle.tau_record.specs.Record.{named, spelling, body, FitsBody, AreVectors, epoch_after, record_at}
use Rattle.tau_record.specs.Format.{Format, most_streams}
use Rattle.tau_record.specs.Vector.{ArePlaces}
use Rattle.tau_record.specs.Content.{named_after, named_behind, last_epoch, FirstBad, Reads, IsContent, found_at, in_front, placed, records_at, content_at}
use Rattle.tau_record.proofs.FieldLaws.{IsBytes}
use Rattle.tau_record.proofs.RecordLaws.{record_takes, record_again}

-- ---- the vectors that are named

zeros_are : (n : ℕ) → ArePlaces (replicate n 0)
zeros_are zero = tt
zeros_are (suc n) = (omega arith, zeros_are n)

pub named_are : (n : ℕ) → AreVectors n (named n [])
named_are n zero lt = (zeros_are n, length-replicate n 0)
named_are n (suc k) lt = absurd (omega arith)

pub named_push : (n : ℕ) (vectors : List (List ℕ)) (lv : List ℕ) → AreVectors n vectors → ArePlaces lv → length lv ≡ n → AreVectors n (vectors ++ lv ∷ [])
named_push n vectors lv are places len k lt =
    elim (cases_lt k (length vectors)) [
      | inl low ↦ rw (get_or_append_left vectors (lv ∷ []) [] k low) (are k low)
      | inr high ↦ let last : length vectors ≡ k = omega (arith, length-append vectors (lv ∷ []), lt, high) in rw (get_or_push vectors lv [] k last) (places, len)
    ]

pub named_keep : (n : ℕ) (vectors : List (List ℕ)) (e : Entry) → AreVectors n vectors → FitsBody n vectors e → AreVectors n (named_after vectors e)
named_keep n vectors (Written number anchor dep writes) are fits = are
named_keep n vectors (Command number anchor dep call) are fits = are
named_keep n vectors (Anchor lv) are fits = named_push n vectors lv are fits.1 fits.0
named_keep n vectors (Catalogue text) are fits = are
named_keep n vectors (Epoch number lv) are fits = are

-- ---- the two laws

found_ok : (at : ℕ) (r : Result (Entry × List ℕ) RecordCause) (f : Entry × List ℕ → Result (List Placed) RecordFault) (ps : List Placed) → found_at at r f ≡ Ok ps → (x : Entry × List ℕ) × (r ≡ Ok x) × (f x ≡ Ok ps)
found_ok at (Ok x) f ps e = (x, refl, e)
found_ok at (Err c) f ps e = absurd cc

front_ok : (p : Placed) (r : Result (List Placed) RecordFault) (ps : List Placed) → in_front p r ≡ Ok ps → (qs : List Placed) × (r ≡ Ok qs) × (p ∷ qs ≡ ps)
front_ok p (Ok qs) ps e = (qs, refl, cc)
front_ok p (Err c) ps e = absurd cc

pub spelling_long : (format : Format) (vectors : List (List ℕ)) (e : Entry) → 5 ≤ length (spelling format vectors e)
spelling_long format vectors e = omega (arith, length-append (to_be_bytes w32 (5 + length (body format vectors e))) (body format vectors e))

abbrev pub done : List Placed → Result (List Placed) RecordFault
done ps = Ok ps

pub done_is : (x y : List Placed) → done x ≡ done y → x ≡ y
done_is x y e = cc

pub records_take : (format : Format) (n fuel at k : ℕ) (vectors : List (List ℕ)) (content : List ℕ) (ps : List Placed) → IsBytes content → AreVectors n vectors → length content ≤ fuel → records_at format n fuel at k vectors content ≡ Ok ps → Reads format n at k vectors content ps
unfolding records_at
records_take format n fuel at k vectors [] ps fits are le e = subst (λ (qs : List Placed). Reads format n at k vectors [] qs) (done_is [] ps e) refl
records_take format n zero at k vectors (b ∷ bytes) ps fits are le e = absurd (omega arith)
records_take format n (suc fuel) at k vectors (b ∷ bytes) ps fits are le e =
    let content : List ℕ = b ∷ bytes in
    let past : Entry × List ℕ → ℕ = λ x. at + (length content - length x.1) in
    let a = found_ok at (record_at format n k vectors (eqb at 0) content) (λ x. in_front (placed x.0 at (past x)) (records_at format n fuel (past x) (epoch_after k x.0) (named_after vectors x.0) x.1)) ps e in
    let f = front_ok (placed a.0.0 at (past a.0)) (records_at format n fuel (past a.0) (epoch_after k a.0.0) (named_after vectors a.0.0) a.0.1) ps a.2 in
    let t = record_takes format n k vectors (eqb at 0) content a.0 fits are a.1 in
    let text = spelling format vectors a.0.0 in
    let lens : length content ≡ length text + length a.0.1 = ap length t.0.parts ∙ length-append text a.0.1 in
    let long = spelling_long format vectors a.0.0 in
    let place : past a.0 ≡ at + length text = omega (arith, lens) in
    let more = records_take format n fuel (past a.0) (epoch_after k a.0.0) (named_after vectors a.0.0) a.0.1 f.0 t.0.rest_fits (named_keep n vectors a.0.0 are t.1.fields) (omega (arith, lens, long, le)) f.1 in
    subst (λ (qs : List Placed). Reads format n at k vectors content qs) f.2 (a.0.1, record { parts = t.0.parts; fits = t.1; next = t.2; starts = refl; ends = place }, more)

pub records_again : (format : Format) (n fuel at k : ℕ) (vectors : List (List ℕ)) (content : List ℕ) (ps : List Placed) → n ≤ most_streams format → AreVectors n vectors → length content ≤ fuel → Reads format n at k vectors content ps → records_at format n fuel at k vectors content ≡ Ok ps
unfolding records_at
records_again format n fuel at k vectors content [] room are le h = rw h refl
records_again format n zero at k vectors content (p ∷ ps) room are le h =
    absurd (omega (arith, le, ap length h.1.parts, length-append (spelling format vectors p.entry) h.0, spelling_long format vectors p.entry))
records_again format n (suc fuel) at k vectors content (p ∷ ps) room are le h =
    let rest = h.0 in
    let text = spelling format vectors p.entry in
    let lens : length content ≡ length text + length rest = ap length h.1.parts ∙ length-append text rest in
    let long = spelling_long format vectors p.entry in
    let less : length (text ++ rest) - length rest ≡ length text = omega (arith, length-append text rest) in
    let read = record_again format n k vectors (eqb at 0) p.entry rest room are h.1.fits h.1.next in
    let more = records_again format n fuel p.past (epoch_after k p.entry) (named_after vectors p.entry) rest ps room (named_keep n vectors p.entry are h.1.fits.fields) (omega (arith, lens, long, le)) h.2 in
    let place : at + (length (text ++ rest) - length rest) ≡ p.past = omega (arith, less, h.1.ends) in
    let one : found_at at (record_at format n k vectors (eqb at 0) (text ++ rest)) (λ x. in_front (placed x.0 at (at + (length (text ++ rest) - length x.1))) (records_at format n fuel (at + (length (text ++ rest) - length x.1)) (epoch_after k x.0) (named_after vectors x.0) x.1)) ≡ Ok (placed p.entry at p.past ∷ ps)
    = rw (read, place, more) refl in
    let whole : records_at format n (suc fuel) at k vectors (text ++ rest) ≡ Ok (placed p.entry at p.past ∷ ps) = one in
    let same : placed p.entry at p.past ≡ p = ap (λ (s : ℕ). placed p.entry s p.past) (sym h.1.starts) in
    ap (records_at format n (suc fuel) at k vectors) h.1.parts ∙ whole ∙ ap (λ (q : Placed). Ok (q ∷ ps)) same

pub content_takes : (format : Format) (n : ℕ) (content : List ℕ) (ps : List Placed) → IsBytes content → content_at format n content ≡ Ok ps → IsContent format n content ps
unfolding content_at
content_takes format n content ps fits e = records_take format n (length content) 0 0 (named n []) content ps fits (named_are n) (omega arith) e

pub content_again : (format : Format) (n : ℕ) (content : List ℕ) (ps : List Placed) → n ≤ most_streams format → IsContent format n content ps → content_at format n content ≡ Ok ps
unfolding content_at
content_again format n content ps room h = records_again format n (length content) 0 0 (named n []) content ps room (named_are n) (omega arith) h

-- ---- the first bad record

abbrev pub failed : RecordFault → Result (List Placed) RecordFault
failed fault = Err fault

failed_is : (x y : RecordFault) → failed x ≡ failed y → x ≡ y
failed_is x y e = cc

found_err : (at : ℕ) (r : Result (Entry × List ℕ) RecordCause) (f : Entry × List ℕ → Result (List Placed) RecordFault) (fault : RecordFault) → found_at at r f ≡ Err fault
    → ((cause : RecordCause) × (r ≡ Err cause) × (record { at = at; cause = cause } ≡ fault)) ⊎ ((x : Entry × List ℕ) × (r ≡ Ok x) × (f x ≡ Err fault))
found_err at (Ok x) f fault e = inr (x, refl, e)
found_err at (Err cause) f fault e = inl (cause, refl, failed_is (record { at = at; cause = cause }) fault e)

front_err : (p : Placed) (r : Result (List Placed) RecordFault) (fault : RecordFault) → in_front p r ≡ Err fault → r ≡ Err fault
front_err p (Ok qs) fault e = absurd cc
front_err p (Err c) fault e = e

-- the first bad record of what is left from a place on
pub record BadFrom (format : Format) (n at k : ℕ) (vectors : List (List ℕ)) (content : List ℕ) (fault : RecordFault) : Type 0 where
  pub before : List Placed
  pub passed : ℕ
  pub place : fault.at ≡ at + passed
  pub there : passed < length content
  pub good : Reads format n at k vectors (take passed content) before
  pub bad : record_at format n (last_epoch k before) (named_behind vectors before) (eqb fault.at 0) (drop passed content) ≡ Err fault.cause

records_bad : (format : Format) (n fuel at k : ℕ) (vectors : List (List ℕ)) (content : List ℕ) (fault : RecordFault) → IsBytes content → AreVectors n vectors → length content ≤ fuel → records_at format n fuel at k vectors content ≡ Err fault → BadFrom format n at k vectors content fault
unfolding records_at
records_bad format n fuel at k vectors [] fault fits are le e = absurd cc
records_bad format n zero at k vectors (b ∷ bytes) fault fits are le e = absurd (omega arith)
records_bad format n (suc fuel) at k vectors (b ∷ bytes) fault fits are le e =
    let content : List ℕ = b ∷ bytes in
    let past : Entry × List ℕ → ℕ = λ x. at + (length content - length x.1) in
    let after : Entry × List ℕ → Result (List Placed) RecordFault = λ x. in_front (placed x.0 at (past x)) (records_at format n fuel (past x) (epoch_after k x.0) (named_after vectors x.0) x.1) in
    elim (found_err at (record_at format n k vectors (eqb at 0) content) after fault e) [
      | inl h ↦ subst (λ (q : RecordFault). BadFrom format n at k vectors content q) h.2 (record {
        before = [];
        passed = 0;
        place = omega arith;
        there = omega arith;
        good = refl;
        bad = h.1;
      })
      | inr h ↦
          let x = h.0 in
          let p = placed x.0 at (past x) in
          let t = record_takes format n k vectors (eqb at 0) content x fits are h.1 in
          let text = spelling format vectors x.0 in
          let lens : length content ≡ length text + length x.1 = ap length t.0.parts ∙ length-append text x.1 in
          let long = spelling_long format vectors x.0 in
          let ends : past x ≡ at + length text = omega (arith, lens) in
          let m = records_bad format n fuel (past x) (epoch_after k x.0) (named_after vectors x.0) x.1 fault t.0.rest_fits (named_keep n vectors x.0 are t.1.fields) (omega (arith, lens, long, le)) (front_err p (records_at format n fuel (past x) (epoch_after k x.0) (named_after vectors x.0) x.1) fault h.2) in
          let front : take (length text + m.passed) content ≡ text ++ take m.passed x.1 = ap (take (length text + m.passed)) t.0.parts ∙ take-append-add text x.1 m.passed in
          let behind : drop (length text + m.passed) content ≡ drop m.passed x.1 = ap (drop (length text + m.passed)) t.0.parts ∙ drop-append-add text x.1 m.passed in
          record {
            before = p ∷ m.before;
            passed = length text + m.passed;
            place = omega (arith, m.place, ends);
            there = omega (arith, m.there, lens);
            good = (take m.passed x.1, record { parts = front; fits = t.1; next = t.2; starts = refl; ends = ends }, m.good);
            bad = ap (record_at format n (last_epoch (epoch_after k x.0) m.before) (named_behind (named_after vectors x.0) m.before) (eqb fault.at 0)) behind ∙ m.bad;
          }
    ]

pub content_bad : (format : Format) (n : ℕ) (content : List ℕ) (fault : RecordFault) → IsBytes content → content_at format n content ≡ Err fault → FirstBad format n content fault
unfolding content_at
content_bad format n content fault fits e =
    let m = records_bad format n (length content) 0 0 (named n []) content fault fits (named_are n) (omega arith) e in
    let same : m.passed ≡ fault.at = omega (arith, m.place) in
    record {
      before = m.before;
      there = omega (arith, m.there, same);
      good = subst (λ (k : ℕ). IsContent format n (take k content) m.before) same m.good;
      bad = subst (λ (k : ℕ). record_at format n (last_epoch 0 m.before) (named_behind (named n []) m.before) (eqb fault.at 0) (drop k content) ≡ Err fault.cause) same m.bad;
    }

-- a content has one reading
pub content_once : (format : Format) (n : ℕ) (content : List ℕ) (ps qs : List Placed) → n ≤ most_streams format → IsContent format n content ps → IsContent format n content qs → ps ≡ qs
content_once format n content ps qs room a b = done_is ps qs (sym (content_again format n content ps room a) ∙ content_again format n content qs room b)
