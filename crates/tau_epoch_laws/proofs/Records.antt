-- Where the records of a content stand that was read.
use Rattle.std.proofs.Common.{ℕ, zero, suc, ◌+◌, ◌-◌, ◌≤◌, ◌<◌, Bool, true, cond, eqb, ltb, ◌≡◌, inl, inr, List, [], ◌∷◌, ◌++◌, length, take, drop, Some, None, Result, Ok, Err, refl, sym, ap, subst, ◌∙◌, arith}
use Rattle.std.specs.Int.{w32, byte_len, from_be_bytes}
use Rattle.std.proofs.lemmas.Bool.{eqb-true}
use Rattle.std.proofs.lemmas.List.{length-drop}
use Rattle.tau_model.specs.History.{Member}
use Rattle.tau_model.proofs.Logged.{member_filtered}
use Rattle.std.specs.List.{filter}
use Rattle.tau_base.specs.Vectors.{covers}
use Rattle.tau_record.specs.declared.entry.Entry.{Entry}
use Rattle.tau_record.specs.declared.entry.Entry.TheVariants.{Written, Command, Anchor, Catalogue, Epoch}
use Rattle.tau_record.specs.declared.entry.Placed.{Placed}
use Rattle.tau_record.specs.declared.fault.RecordCause.{RecordCause}
use Rattle.tau_record.specs.declared.fault.RecordCause.TheVariants.{Short, BadKind, BadLength, BadBody}
use Rattle.tau_record.specs.declared.fault.RecordFault.{RecordFault}
use Rattle.tau_record.specs.Field.{◌>>=◌}
use Rattle.tau_record.specs.Format.{Format}
use Rattle.tau_record.specs.Record.{epoch_after, fields_at, body_at, sized_at, total_at, frame_at, record_at, kind_fits, named}
use Rattle.tau_record.specs.Content.{named_after, found_at, in_front, placed, records_at, content_at}
use Rattle.tau_record.proofs.FieldLaws.{bind_ok, guard_ok, ok_is}
use Rattle.tau_record.proofs.ItemLaws.{guard_held}
use Rattle.tau_record.proofs.ContentLaws.{done_is}
use Rattle.tau_scan.specs.Reading.{text_of, catalogue_of}
use Rattle.tau_scan.specs.Taken.{Kept, kept_as, taken_in}
use Rattle.tau_epoch_laws.proofs.Parts.{in_either}

-- ---- one record

sized_shorter : (kind total : ℕ) (left : List ℕ) (x : (ℕ × List ℕ) × List ℕ) → sized_at kind total left ≡ Ok x → (x.0.0 ≡ kind) × (length x.1 ≤ length left)
sized_shorter kind total left x e =
    let short = guard_ok (ltb (length left + 5) total) Short (cond (ltb total 5) (Err BadLength) (Ok ((kind, take (total - 5) left), drop (total - 5) left))) x e in
    let long = guard_ok (ltb total 5) BadLength (Ok ((kind, take (total - 5) left), drop (total - 5) left)) x short.1 in
    let is = ok_is ((kind, take (total - 5) left), drop (total - 5) left) x long.1 in
    let rest : length x.1 ≡ length left - (total - 5) = ap (λ (y : (ℕ × List ℕ) × List ℕ). length y.1) (sym is) ∙ length-drop (total - 5) left in
    (ap (λ (y : (ℕ × List ℕ) × List ℕ). y.0.0) (sym is), omega (arith, rest))

frame_shorter : (first : Bool) (bytes : List ℕ) (x : (ℕ × List ℕ) × List ℕ) → frame_at first bytes ≡ Ok x → (kind_fits first x.0.0 ≡ true) × (length x.1 < length bytes)
unfolding frame_at
frame_shorter first [] x e = absurd cc
frame_shorter first (kind ∷ bytes) x e =
    let fits = guard_held (kind_fits first kind) BadKind (total_at w32 kind bytes) x e in
    let long = guard_ok (ltb (length bytes) (byte_len w32)) Short (sized_at kind (from_be_bytes w32 (take (byte_len w32) bytes)) (drop (byte_len w32) bytes)) x fits.1 in
    let sized = sized_shorter kind (from_be_bytes w32 (take (byte_len w32) bytes)) (drop (byte_len w32) bytes) x long.1 in
    let shorter = sized.1 in
    let dropped = length-drop (byte_len w32) bytes in
    (subst (λ (k : ℕ). kind_fits first k ≡ true) (sym sized.0) fits.0, omega (arith, shorter, dropped))

-- a record is read of some of the bytes
record_shorter : (f : Format) (n k : ℕ) (vectors : List (List ℕ)) (first : Bool) (bytes : List ℕ) (x : Entry × List ℕ) → record_at f n k vectors first bytes ≡ Ok x → length x.1 < length bytes
unfolding record_at
record_shorter f n k vectors first bytes x e =
    let a = bind_ok (frame_at first bytes) (λ frame. body_at f n k vectors frame.0.0 frame.0.1 >>= λ e. Ok (e, frame.1)) x e in
    let b = bind_ok (body_at f n k vectors a.0.0.0 a.0.0.1) (λ e. Ok (e, a.0.1)) x a.2 in
    subst (λ (y : Entry × List ℕ). length y.1 < length bytes) (ok_is (b.0, a.0.1) x b.2) (frame_shorter first bytes a.0 a.1).1

fourth_is : (f : Format) (n k : ℕ) (vectors : List (List ℕ)) (bytes : List ℕ) (x : Entry × List ℕ) → fields_at f n k vectors 4 bytes ≡ Ok x → text_of x.0 ≡ Some bytes
unfolding fields_at
fourth_is f n k vectors bytes x e =
    let g = guard_ok (ltb 32768 (length bytes)) BadBody (Ok (Catalogue bytes, [])) x e in
    subst (λ (y : Entry × List ℕ). text_of y.0 ≡ Some bytes) (ok_is (Catalogue bytes, []) x g.1) refl

-- a first record is a catalogue
first_text : (f : Format) (n k : ℕ) (vectors : List (List ℕ)) (bytes : List ℕ) (x : Entry × List ℕ) → record_at f n k vectors true bytes ≡ Ok x → (text : List ℕ) × (text_of x.0 ≡ Some text)
unfolding record_at body_at
first_text f n k vectors bytes x e =
    let a = bind_ok (frame_at true bytes) (λ frame. body_at f n k vectors frame.0.0 frame.0.1 >>= λ e. Ok (e, frame.1)) x e in
    let b = bind_ok (body_at f n k vectors a.0.0.0 a.0.0.1) (λ e. Ok (e, a.0.1)) x a.2 in
    let d = bind_ok (fields_at f n k vectors a.0.0.0 a.0.0.1) (λ y. cond (eqb (length y.1) 0) (Ok y.0) (Err BadLength)) b.0 b.1 in
    let whole = guard_held (eqb (length d.0.1) 0) BadLength (Ok d.0.0) b.0 d.2 in
    let kind : a.0.0.0 ≡ 4 = eqb-true a.0.0.0 4 (frame_shorter true bytes a.0 a.1).0 in
    let text : text_of d.0.0 ≡ Some a.0.0.1 = fourth_is f n k vectors a.0.0.1 d.0 (subst (λ (m : ℕ). fields_at f n k vectors m a.0.0.1 ≡ Ok d.0) kind d.1) in
    (a.0.0.1, subst (λ (y : Entry × List ℕ). text_of y.0 ≡ Some a.0.0.1) (ok_is (b.0, a.0.1) x b.2) (subst (λ (y : Entry). text_of y ≡ Some a.0.0.1) (ok_is d.0.0 b.0 whole.1) text))

-- ---- the records of a content

-- the records stand one after another from one place to the other
abbrev pub Stand : ℕ → ℕ → List Placed → Type 0
Stand at end [] = at ≡ end
Stand at end (p ∷ ps) = (p.start ≡ at) × (at < p.past) × Stand p.past end ps

found_ok : (at : ℕ) (r : Result (Entry × List ℕ) RecordCause) (f : Entry × List ℕ → Result (List Placed) RecordFault) (ps : List Placed) → found_at at r f ≡ Ok ps → (x : Entry × List ℕ) × (r ≡ Ok x) × (f x ≡ Ok ps)
found_ok at (Ok x) f ps e = (x, refl, e)
found_ok at (Err c) f ps e = absurd cc

front_ok : (p : Placed) (r : Result (List Placed) RecordFault) (ps : List Placed) → in_front p r ≡ Ok ps → (qs : List Placed) × (r ≡ Ok qs) × (p ∷ qs ≡ ps)
front_ok p (Ok qs) ps e = (qs, refl, cc)
front_ok p (Err c) ps e = absurd cc

records_stand : (f : Format) (n fuel at k : ℕ) (vectors : List (List ℕ)) (content : List ℕ) (ps : List Placed) → length content ≤ fuel → records_at f n fuel at k vectors content ≡ Ok ps → Stand at (at + length content) ps
unfolding records_at
records_stand f n fuel at k vectors [] ps le e = subst (λ (qs : List Placed). Stand at (at + 0) qs) (done_is [] ps e) (omega arith)
records_stand f n zero at k vectors (b ∷ bytes) ps le e = absurd (omega (arith, le))
records_stand f n (suc fuel) at k vectors (b ∷ bytes) ps le e =
    let content : List ℕ = b ∷ bytes in
    let past : Entry × List ℕ → ℕ = λ x. at + (length content - length x.1) in
    let a = found_ok at (record_at f n k vectors (eqb at 0) content) (λ x. in_front (placed x.0 at (past x)) (records_at f n fuel (past x) (epoch_after k x.0) (named_after vectors x.0) x.1)) ps e in
    let g = front_ok (placed a.0.0 at (past a.0)) (records_at f n fuel (past a.0) (epoch_after k a.0.0) (named_after vectors a.0.0) a.0.1) ps a.2 in
    let shorter : length a.0.1 < length content = record_shorter f n k vectors (eqb at 0) content a.0 a.1 in
    let rest = records_stand f n fuel (past a.0) (epoch_after k a.0.0) (named_after vectors a.0.0) a.0.1 g.0 (omega (arith, le, shorter)) g.1 in
    let end : past a.0 + length a.0.1 ≡ at + length content = omega (arith, shorter) in
    subst (λ (qs : List Placed). Stand at (at + length content) qs) g.2 (refl, omega (arith, shorter), subst (λ (m : ℕ). Stand (past a.0) m g.0) end rest)

pub content_stands : (f : Format) (n : ℕ) (content : List ℕ) (ps : List Placed) → content_at f n content ≡ Ok ps → Stand 0 (length content) ps
unfolding content_at
content_stands f n content ps e =
    let end : 0 + length content ≡ length content = omega arith in
    subst (λ (m : ℕ). Stand 0 m ps) end (records_stand f n (length content) 0 0 (named n []) content ps (omega arith) e)

-- without a catalogue a content has no record
pub no_catalogue : (f : Format) (n : ℕ) (content : List ℕ) (ps : List Placed) → content_at f n content ≡ Ok ps → catalogue_of ps ≡ None → ps ≡ []
unfolding content_at records_at
no_catalogue f n [] ps e none = sym (done_is [] ps e)
no_catalogue f n (b ∷ bytes) ps e none =
    let content : List ℕ = b ∷ bytes in
    let past : Entry × List ℕ → ℕ = λ x. 0 + (length content - length x.1) in
    let a = found_ok 0 (record_at f n 0 (named n []) true content) (λ x. in_front (placed x.0 0 (past x)) (records_at f n (length bytes) (past x) (epoch_after 0 x.0) (named_after (named n []) x.0) x.1)) ps e in
    let g = front_ok (placed a.0.0 0 (past a.0)) (records_at f n (length bytes) (past a.0) (epoch_after 0 a.0.0) (named_after (named n []) a.0.0) a.0.1) ps a.2 in
    let text = first_text f n 0 (named n []) content a.0 a.1 in
    absurd (let is : Some text.0 ≡ None = sym text.1 ∙ subst (λ (qs : List Placed). catalogue_of qs ≡ None) (sym g.2) none in cc is)

-- ---- where taken records stand

stand_low : (at end : ℕ) (ps : List Placed) → Stand at end ps → at ≤ end
stand_low at end [] h = omega (arith, h)
stand_low at end (p ∷ ps) h = let rest = stand_low p.past end ps h.2 in let here = h.1 in omega (arith, here, rest)

-- records after others stand from where those end
pub stand_after : (at mid end : ℕ) (xs ms : List Placed) → Stand at mid xs → Stand at end (xs ++ ms) → Stand mid end ms
stand_after at mid end [] ms h g = subst (λ (a : ℕ). Stand a end ms) h g
stand_after at mid end (p ∷ xs) ms h g = stand_after p.past mid end xs ms h.2 g.2

kept_at : (j : ℕ) (p : Placed) (e : Entry) (r : Kept) → Member r (kept_as j p e) → (r.place.stream ≡ j) × (r.place.start ≡ p.start)
kept_at j p (Written number anchor dep writes) r (inl is) = (ap (λ (q : Kept). q.place.stream) (sym is), ap (λ (q : Kept). q.place.start) (sym is))
kept_at j p (Written number anchor dep writes) r (inr m) = absurd m
kept_at j p (Command number anchor dep call) r (inl is) = (ap (λ (q : Kept). q.place.stream) (sym is), ap (λ (q : Kept). q.place.start) (sym is))
kept_at j p (Command number anchor dep call) r (inr m) = absurd m
kept_at j p (Anchor lv) r m = absurd m
kept_at j p (Catalogue text) r m = absurd m
kept_at j p (Epoch number lv) r m = absurd m

-- a record that is taken of a stream
pub taken_within : (judge : ℕ → List ℕ) (j k at end : ℕ) (ps : List Placed) (r : Kept) → Stand at end ps → Member r (taken_in judge j k ps) → (r.place.stream ≡ j) × (at ≤ r.place.start) × (r.place.start < end)
taken_within judge j k at end [] r h m = absurd m
taken_within judge j k at end (p ∷ ps) r h m = elim (in_either r (filter (λ (q : Kept). covers (judge k) q.place.dep) (kept_as j p p.entry)) (taken_in judge j (epoch_after k p.entry) ps) m) [
  | inl here ↦
      let at_here = kept_at j p p.entry r (member_filtered (λ (q : Kept). covers (judge k) q.place.dep) r (kept_as j p p.entry) here).0 in
      let start = at_here.1 in
      let first = h.0 in
      let past = h.1 in
      let rest = stand_low p.past end ps h.2 in
      (at_here.0, omega (arith, start, first), omega (arith, start, first, past, rest))
  | inr there ↦
      let w = taken_within judge j (epoch_after k p.entry) p.past end ps r h.2 there in
      let past = h.1 in
      let low = w.1 in
      (w.0, omega (arith, past, low), w.2)
]
