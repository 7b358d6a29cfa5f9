-- Records: what is read is spelled so, and what is spelled so is read.
use Rattle.std.proofs.Common.{◌⊎◌, ◌≡◌, ℕ, zero, suc, ◌+◌, ◌-◌, ◌^◌, ◌<◌, ◌≤◌, Bool, true, false, cond, ltb, leb, eqb, List, [], ◌∷◌, ◌++◌, length, take, drop, None, Result, Ok, Err, refl, sym, ap, subst, ◌∙◌, append_assoc, arith, inl, inr}
use Rattle.std.specs.Int.{Width, w16, w32, w64, byte_len, to_be_bytes, from_be_bytes}
use Rattle.std.specs.List.{flat_map}
use Rattle.std.proofs.lemmas.Bool.{ltb-false, leb-true, leb-false, le-ltb, eqb-true, eqb-false}
use Rattle.std.proofs.lemmas.List.{take_at, drop_at, take-append-drop, length-append, length-take, append-nil, nil_from_length}
use Rattle.tau_base.specs.declared.value.Key.{Key}
use Rattle.tau_base.specs.declared.value.Call.{Call}
use Rattle.tau_base.specs.declared.value.Value.{Value}
use Rattle.tau_record.specs.declared.entry.Entry.{Entry}
use Rattle.tau_record.specs.declared.entry.Entry.TheVariants.{Written, Command, Anchor, Catalogue, Epoch}
use Rattle.tau_record.specs.declared.fault.RecordCause.{RecordCause}
use Rattle.tau_record.specs.declared.fault.RecordCause.TheVariants.{Short, BadKind, BadLength, BadAnchor, BadBody}
use Rattle.tau_record.specs.Field.{◌>>=◌, number_at}
use Rattle.tau_record.specs.Format.{Format, most_streams}
use Rattle.tau_record.specs.Vector.{ArePlaces, vector, vector_at}
use Rattle.tau_record.specs.Item.{value, write, writes_at, args_at, byte_at}
use Rattle.tau_record.specs.Record.{AreVectors, Fits, base_of, origin, kind_of, body, framed, spelling, FitsOrigin, FitsBody, kind_fits, IsNext, Origin, origin_at, written_at, command_at, lv_at, epoch_at, fields_at, body_at, sized_at, total_at, frame_at, record_at}
use Rattle.tau_record.proofs.FieldLaws.{IsBytes, IsBytes-rest, IsBytes-drop, IsBytes-take, Takes, Takes-none, Takes-then, bind_ok, guard_ok, ok_is, IsWide, wide16, wide32, wide64, number_takes, number_again}
use Rattle.tau_record.proofs.SizeLaws.{size_fits}
use Rattle.tau_record.proofs.VectorLaws.{raises, raises_width, raises_covers, raises_places, vector_takes, vector_again}
use Rattle.tau_record.proofs.ItemLaws.{guard_held, are_writes, writes_sorted, writes_fit, writes_take, writes_again, byte_takes, byte_again, args_take, args_again}
use Rattle.tau_record.proofs.Loop.{leb_not}

pub eqb_apart : (a b : ℕ) → (a ≡ b → ⊥) → eqb a b ≡ false
eqb_apart a b h = elim (eqb a b) as (λ v. eqb a b ≡ v → v ≡ false) [ true ↦ λ e. absurd (h (eqb-true a b e)) | false ↦ λ _. refl ] refl

-- ---- the number, the anchor and the vector

abbrev origin_text : Format → List (List ℕ) → Origin → List ℕ
origin_text format vectors o = origin format (base_of vectors o.anchor) o.number o.anchor o.dep

abbrev OriginFits : List (List ℕ) → Origin → Type 0
OriginFits vectors o = FitsOrigin vectors o.number o.anchor o.dep

origin_takes : (format : Format) (n : ℕ) (vectors : List (List ℕ)) (bytes : List ℕ) (x : Origin × List ℕ) → IsBytes bytes → AreVectors n vectors → origin_at format vectors bytes ≡ Ok x → Takes bytes (origin_text format vectors x.0) x.1 × OriginFits vectors x.0
unfolding origin_at
origin_takes format n vectors bytes x fits are e =
    let after : (ℕ × List ℕ) → (ℕ × List ℕ) → Result (Origin × List ℕ) RecordCause = λ number anchor. vector_at format (base_of vectors anchor.0) anchor.1 >>= λ dep. Ok (record { number = number.0; anchor = anchor.0; dep = dep.0 }, dep.1) in
    let a = bind_ok (number_at w64 bytes) (λ number. cond (eqb number.0 0) (Err BadBody) (number_at w32 number.1 >>= λ anchor. cond (leb (length vectors) anchor.0) (Err BadAnchor) (after number anchor))) x e in
    let g = guard_ok (eqb a.0.0 0) BadBody (number_at w32 a.0.1 >>= λ anchor. cond (leb (length vectors) anchor.0) (Err BadAnchor) (after a.0 anchor)) x a.2 in
    let b = bind_ok (number_at w32 a.0.1) (λ anchor. cond (leb (length vectors) anchor.0) (Err BadAnchor) (after a.0 anchor)) x g.1 in
    let h = guard_ok (leb (length vectors) b.0.0) BadAnchor (after a.0 b.0) x b.2 in
    let d = bind_ok (vector_at format (base_of vectors b.0.0) b.0.1) (λ dep. Ok (record { number = a.0.0; anchor = b.0.0; dep = dep.0 }, dep.1)) x h.1 in
    let t0 = number_takes w64 (2 ^ 64) wide64 bytes a.0 fits a.1 in
    let t1 = number_takes w32 (2 ^ 32) wide32 a.0.1 b.0 t0.0.rest_fits b.1 in
    let known : b.0.0 < length vectors = leb-false _ _ h.0 in
    let t2 = vector_takes format (base_of vectors b.0.0) b.0.1 d.0 t1.0.rest_fits (are b.0.0 known).0 d.1 in
    let e12 = Takes-then a.0.1 (to_be_bytes w32 b.0.0) b.0.1 (vector format (base_of vectors b.0.0) d.0.0) d.0.1 t1.0 t2.0 in
    let e02 = Takes-then bytes (to_be_bytes w64 a.0.0) a.0.1 (to_be_bytes w32 b.0.0 ++ vector format (base_of vectors b.0.0) d.0.0) d.0.1 t0.0 e12 in
    let some : a.0.0 ≡ 0 → ⊥ = eqb-false a.0.0 0 g.0 in
    let made : Origin × List ℕ = (record { number = a.0.0; anchor = b.0.0; dep = d.0.0 }, d.0.1) in
    subst (λ (y : Origin × List ℕ). Takes bytes (origin_text format vectors y.0) y.1 × OriginFits vectors y.0) (ok_is made x d.2)
    (e02, record { low = omega (arith, some); number_fits = t0.1; anchor_fits = t1.1; known = known; width = raises_width (base_of vectors b.0.0) d.0.0 t2.1; covers = raises_covers (base_of vectors b.0.0) d.0.0 t2.1; places = raises_places (base_of vectors b.0.0) d.0.0 t2.1 })

origin_again : (format : Format) (n : ℕ) (vectors : List (List ℕ)) (o : Origin) (rest : List ℕ) → n ≤ most_streams format → AreVectors n vectors → OriginFits vectors o → origin_at format vectors (origin_text format vectors o ++ rest) ≡ Ok (o, rest)
unfolding origin_at
origin_again format n vectors o rest room are fits =
    let base = base_of vectors o.anchor in
    let tail = vector format base o.dep ++ rest in
    let regrouped : origin_text format vectors o ++ rest ≡ to_be_bytes w64 o.number ++ (to_be_bytes w32 o.anchor ++ tail) = append_assoc (to_be_bytes w64 o.number) (to_be_bytes w32 o.anchor ++ vector format base o.dep) rest ∙ ap (λ (x : List ℕ). to_be_bytes w64 o.number ++ x) (append_assoc (to_be_bytes w32 o.anchor) (vector format base o.dep) rest) in
    let some : eqb o.number 0 ≡ false = eqb_apart o.number 0 (λ z. omega (arith, z, fits.low)) in
    let wide_enough : length base ≤ most_streams format = rw ((are o.anchor fits.known).1) room in
    ap (origin_at format vectors) regrouped ∙ rw (number_again w64 (2 ^ 64) wide64 o.number (to_be_bytes w32 o.anchor ++ tail) fits.number_fits, some, number_again w32 (2 ^ 32) wide32 o.anchor tail fits.anchor_fits, leb_not (length vectors) o.anchor fits.known, vector_again format base o.dep rest wide_enough (raises base o.dep fits.width fits.covers fits.places)) refl

-- ---- the frame

total_takes : (w : Width) (limit : ℕ) (wide : IsWide w limit) (kind : ℕ) (bytes : List ℕ) (x : (ℕ × List ℕ) × List ℕ) → IsBytes bytes → total_at w kind bytes ≡ Ok x
    → Takes bytes (to_be_bytes w (5 + length x.0.1) ++ x.0.1) x.1 × (kind ≡ x.0.0) × (5 + length x.0.1 < limit) × IsBytes x.0.1
total_takes w limit wide kind bytes x fits e =
    let k = byte_len w in
    let total = from_be_bytes w (take k bytes) in
    let left = drop k bytes in
    let h = guard_ok (ltb (length bytes) k) Short (sized_at kind total left) x e in
    let i = guard_ok (ltb (length left + 5) total) Short (cond (ltb total 5) (Err BadLength) (Ok ((kind, take (total - 5) left), drop (total - 5) left))) x h.1 in
    let j = guard_ok (ltb total 5) BadLength (Ok ((kind, take (total - 5) left), drop (total - 5) left)) x i.1 in
    let long : k ≤ length bytes = ltb-false _ _ h.0 in
    let room : total ≤ length left + 5 = ltb-false _ _ i.0 in
    let low : 5 ≤ total = ltb-false _ _ j.0 in
    let front : to_be_bytes w total ≡ take k bytes = wide.back (take k bytes) (omega (arith, length-take k bytes, long)) (IsBytes-take k bytes fits) in
    let below : total < limit = wide.below (take k bytes) (IsBytes-take k bytes fits) in
    let fields = take (total - 5) left in
    let len : 5 + length fields ≡ total = omega (arith, length-take (total - 5) left, room, low) in
    let left_fits = IsBytes-drop k bytes fits in
    let first : Takes bytes (to_be_bytes w total) left = record { parts = sym (take-append-drop k bytes) ∙ ap (λ (t : List ℕ). t ++ left) (sym front); rest_fits = left_fits } in
    let second : Takes left fields (drop (total - 5) left) = record { parts = sym (take-append-drop (total - 5) left); rest_fits = IsBytes-drop (total - 5) left left_fits } in
    let both = Takes-then bytes (to_be_bytes w total) left fields (drop (total - 5) left) first second in
    let whole : Takes bytes (to_be_bytes w (5 + length fields) ++ fields) (drop (total - 5) left) = subst (λ (m : ℕ). Takes bytes (to_be_bytes w m ++ fields) (drop (total - 5) left)) (sym len) both in
    subst (λ (y : (ℕ × List ℕ) × List ℕ). Takes bytes (to_be_bytes w (5 + length y.0.1) ++ y.0.1) y.1 × (kind ≡ y.0.0) × (5 + length y.0.1 < limit) × IsBytes y.0.1) (ok_is ((kind, fields), drop (total - 5) left) x j.1)
    (whole, refl, omega (arith, len, below), IsBytes-take (total - 5) left left_fits)

total_again : (w : Width) (limit : ℕ) (wide : IsWide w limit) (kind : ℕ) (fields rest : List ℕ) → 5 + length fields < limit → total_at w kind ((to_be_bytes w (5 + length fields) ++ fields) ++ rest) ≡ Ok ((kind, fields), rest)
total_again w limit wide kind fields rest small =
    let n = 5 + length fields in
    let text = to_be_bytes w n in
    let len = wide.len n in
    let regrouped : (text ++ fields) ++ rest ≡ text ++ (fields ++ rest) = append_assoc text fields rest in
    let long : ltb (length (text ++ (fields ++ rest))) (byte_len w) ≡ false = le-ltb _ _ (omega (arith, length-append text (fields ++ rest), len)) in
    let room : ltb (length (fields ++ rest) + 5) n ≡ false = le-ltb _ _ (omega (arith, length-append fields rest)) in
    let low : ltb n 5 ≡ false = le-ltb _ _ (omega arith) in
    let less : n - 5 ≡ length fields = omega arith in
    ap (total_at w kind) regrouped ∙ rw (long, take_at text (fields ++ rest) (byte_len w) len, drop_at text (fields ++ rest) (byte_len w) len, wide.again n small, room, low, less, take_at fields rest (length fields) refl, drop_at fields rest (length fields) refl) refl

pub frame_takes : (first : Bool) (bytes : List ℕ) (x : (ℕ × List ℕ) × List ℕ) → IsBytes bytes → frame_at first bytes ≡ Ok x → Takes bytes (framed x.0.0 x.0.1) x.1 × (kind_fits first x.0.0 ≡ true) × (5 + length x.0.1 < 2 ^ 32) × IsBytes x.0.1
unfolding frame_at
frame_takes first [] x fits e = absurd cc
frame_takes first (kind ∷ bytes) x fits e =
    let g = guard_held (kind_fits first kind) BadKind (total_at w32 kind bytes) x e in
    let t = total_takes w32 (2 ^ 32) wide32 kind bytes x (IsBytes-rest kind bytes fits) g.1 in
    let whole : Takes (kind ∷ bytes) (framed kind x.0.1) x.1 = record { parts = ap (λ (w : List ℕ). kind ∷ w) t.0.parts; rest_fits = t.0.rest_fits } in
    (subst (λ (k : ℕ). Takes (kind ∷ bytes) (framed k x.0.1) x.1) t.1 whole, subst (λ (k : ℕ). kind_fits first k ≡ true) t.1 g.0, t.2, t.3)

frame_again : (first : Bool) (kind : ℕ) (fields rest : List ℕ) → kind_fits first kind ≡ true → 5 + length fields < 2 ^ 32 → frame_at first (framed kind fields ++ rest) ≡ Ok ((kind, fields), rest)
unfolding frame_at
frame_again first kind fields rest allowed small = rw allowed (total_again w32 (2 ^ 32) wide32 kind fields rest small)

-- ---- the kinds

written_takes : (format : Format) (n : ℕ) (vectors : List (List ℕ)) (bytes : List ℕ) (x : Entry × List ℕ) → IsBytes bytes → AreVectors n vectors → written_at format vectors bytes ≡ Ok x → Takes bytes (body format vectors x.0) x.1 × FitsBody n vectors x.0 × (kind_of x.0 ≡ 1)
unfolding written_at
written_takes format n vectors bytes x fits are e =
    let made : Origin → List (Key × Value) → Entry = λ o ws. Written o.number o.anchor o.dep ws in
    let last : (Origin × List ℕ) → (ℕ × List ℕ) → Result (Entry × List ℕ) RecordCause = λ o count. writes_at count.0 None count.1 >>= λ ws. Ok (made o.0 ws.0, ws.1) in
    let a = bind_ok (origin_at format vectors bytes) (λ o. number_at w16 o.1 >>= λ count. cond (eqb count.0 0) (Err BadBody) (cond (ltb 64 count.0) (Err BadBody) (last o count))) x e in
    let b = bind_ok (number_at w16 a.0.1) (λ count. cond (eqb count.0 0) (Err BadBody) (cond (ltb 64 count.0) (Err BadBody) (last a.0 count))) x a.2 in
    let g = guard_ok (eqb b.0.0 0) BadBody (cond (ltb 64 b.0.0) (Err BadBody) (last a.0 b.0)) x b.2 in
    let h = guard_ok (ltb 64 b.0.0) BadBody (last a.0 b.0) x g.1 in
    let d = bind_ok (writes_at b.0.0 None b.0.1) (λ ws. Ok (made a.0.0 ws.0, ws.1)) x h.1 in
    let t0 = origin_takes format n vectors bytes a.0 fits are a.1 in
    let t1 = number_takes w16 (2 ^ 16) wide16 a.0.1 b.0 t0.0.rest_fits b.1 in
    let t2 = writes_take b.0.0 None b.0.1 d.0 t1.0.rest_fits d.1 in
    let e12 = Takes-then a.0.1 (to_be_bytes w16 b.0.0) b.0.1 (flat_map write d.0.0) d.0.1 t1.0 t2.0 in
    let e12' : Takes a.0.1 (to_be_bytes w16 (length d.0.0) ++ flat_map write d.0.0) d.0.1 = subst (λ (m : ℕ). Takes a.0.1 (to_be_bytes w16 m ++ flat_map write d.0.0) d.0.1) (sym t2.1) e12 in
    let e02 = Takes-then bytes (origin_text format vectors a.0.0) a.0.1 (to_be_bytes w16 (length d.0.0) ++ flat_map write d.0.0) d.0.1 t0.0 e12' in
    let some : b.0.0 ≡ 0 → ⊥ = eqb-false b.0.0 0 g.0 in
    let most : b.0.0 ≤ 64 = ltb-false _ _ h.0 in
    subst (λ (y : Entry × List ℕ). Takes bytes (body format vectors y.0) y.1 × FitsBody n vectors y.0 × (kind_of y.0 ≡ 1)) (ok_is (made a.0.0 d.0.0, d.0.1) x d.2)
    (e02, (t0.1, omega (arith, some, t2.1), omega (arith, most, t2.1), writes_sorted None d.0.0 t2.2, writes_fit None d.0.0 t2.2), refl)

written_again : (format : Format) (n : ℕ) (vectors : List (List ℕ)) (number anchor : ℕ) (dep : List ℕ) (writes : List (Key × Value)) (rest : List ℕ) → n ≤ most_streams format → AreVectors n vectors → FitsBody n vectors (Written number anchor dep writes)
    → written_at format vectors (body format vectors (Written number anchor dep writes) ++ rest) ≡ Ok (Written number anchor dep writes, rest)
unfolding written_at
written_again format n vectors number anchor dep writes rest room are fits =
    let o : Origin = record { number = number; anchor = anchor; dep = dep } in
    let count = to_be_bytes w16 (length writes) in
    let tail = flat_map write writes ++ rest in
    let regrouped : body format vectors (Written number anchor dep writes) ++ rest ≡ origin_text format vectors o ++ (count ++ tail) = append_assoc (origin_text format vectors o) (count ++ flat_map write writes) rest ∙ ap (λ (x : List ℕ). origin_text format vectors o ++ x) (append_assoc count (flat_map write writes) rest) in
    let some : eqb (length writes) 0 ≡ false = eqb_apart (length writes) 0 (λ z. omega (arith, z, fits.1)) in
    let most : ltb 64 (length writes) ≡ false = le-ltb _ _ fits.2 in
    ap (written_at format vectors) regrouped ∙ rw (origin_again format n vectors o (count ++ tail) room are fits.0, number_again w16 (2 ^ 16) wide16 (length writes) tail (omega (arith, fits.2)), some, most, writes_again None writes rest (are_writes writes fits.3 fits.4)) refl

lv_takes : (n : ℕ) (bytes : List ℕ) (x : List ℕ × List ℕ) → IsBytes bytes → lv_at n bytes ≡ Ok x → Takes bytes (flat_map (to_be_bytes w64) x.0) x.1 × (length x.0 ≡ n) × ArePlaces x.0
unfolding lv_at
lv_takes zero bytes x fits e =
    subst (λ (y : List ℕ × List ℕ). Takes bytes (flat_map (to_be_bytes w64) y.0) y.1 × (length y.0 ≡ 0) × ArePlaces y.0) (ok_is ([], bytes) x e) (Takes-none bytes fits, refl, tt)
lv_takes (suc n) bytes x fits e =
    let a = bind_ok (number_at w64 bytes) (λ part. cond (leb (2 ^ 62) part.0) (Err BadBody) (lv_at n part.1 >>= λ v. Ok (part.0 ∷ v.0, v.1))) x e in
    let g = guard_ok (leb (2 ^ 62) a.0.0) BadBody (lv_at n a.0.1 >>= λ v. Ok (a.0.0 ∷ v.0, v.1)) x a.2 in
    let b = bind_ok (lv_at n a.0.1) (λ v. Ok (a.0.0 ∷ v.0, v.1)) x g.1 in
    let t0 = number_takes w64 (2 ^ 64) wide64 bytes a.0 fits a.1 in
    let t1 = lv_takes n a.0.1 b.0 t0.0.rest_fits b.1 in
    let both = Takes-then bytes (to_be_bytes w64 a.0.0) a.0.1 (flat_map (to_be_bytes w64) b.0.0) b.0.1 t0.0 t1.0 in
    subst (λ (y : List ℕ × List ℕ). Takes bytes (flat_map (to_be_bytes w64) y.0) y.1 × (length y.0 ≡ suc n) × ArePlaces y.0) (ok_is (a.0.0 ∷ b.0.0, b.0.1) x b.2) (both, ap suc t1.1, (leb-false _ _ g.0, t1.2))

lv_again : (lv rest : List ℕ) → ArePlaces lv → lv_at (length lv) (flat_map (to_be_bytes w64) lv ++ rest) ≡ Ok (lv, rest)
unfolding lv_at
lv_again [] rest h = refl
lv_again (part ∷ lv) rest h =
    rw (number_again w64 (2 ^ 64) wide64 part (flat_map (to_be_bytes w64) lv ++ rest) (omega (arith, h.0)), leb_not (2 ^ 62) part h.0, lv_again lv rest h.1) refl

-- ---- all kinds

abbrev KindTakes : Format → ℕ → List (List ℕ) → List ℕ → ℕ → Entry × List ℕ → Type 0
KindTakes format n vectors bytes kind x = Takes bytes (body format vectors x.0) x.1 × FitsBody n vectors x.0 × (kind_of x.0 ≡ kind)

chosen : {A : Type 0} (b : Bool) (x y z : A) → cond b x y ≡ z → ((b ≡ true) × (x ≡ z)) ⊎ ((b ≡ false) × (y ≡ z))
chosen true x y z e = inl (refl, e)
chosen false x y z e = inr (refl, e)

kind_bound : (first : Bool) (kind : ℕ) → kind_fits first kind ≡ true → (1 ≤ kind) × (kind ≤ 5)
kind_bound true kind e = let k = eqb-true kind 4 e in (omega (arith, k), omega (arith, k))
kind_bound false kind e =
    elim (chosen (eqb kind 5) true (cond (leb 1 kind) (leb kind 3) false) true e) [
      | inl t ↦ let k = eqb-true kind 5 t.0 in (omega (arith, k), omega (arith, k))
      | inr t ↦ elim (chosen (leb 1 kind) (leb kind 3) false true t.1) [
        | inl s ↦ (leb-true 1 kind s.0, let le = leb-true kind 3 s.1 in omega (arith, le))
        | inr s ↦ absurd cc
      ]
    ]

anchor_takes : (format : Format) (n : ℕ) (vectors : List (List ℕ)) (bytes : List ℕ) (x : Entry × List ℕ) → IsBytes bytes → (lv_at n bytes >>= λ v. Ok (Anchor v.0, v.1)) ≡ Ok x → KindTakes format n vectors bytes 3 x
anchor_takes format n vectors bytes x fits e =
    let a = bind_ok (lv_at n bytes) (λ v. Ok (Anchor v.0, v.1)) x e in
    let t = lv_takes n bytes a.0 fits a.1 in
    subst (λ (y : Entry × List ℕ). KindTakes format n vectors bytes 3 y) (ok_is (Anchor a.0.0, a.0.1) x a.2) (t.0, (t.1, t.2), refl)

catalogue_takes : (format : Format) (n : ℕ) (vectors : List (List ℕ)) (bytes : List ℕ) (x : Entry × List ℕ) → IsBytes bytes → cond (ltb 32768 (length bytes)) (Err BadBody) (Ok (Catalogue bytes, [])) ≡ Ok x → KindTakes format n vectors bytes 4 x
catalogue_takes format n vectors bytes x fits e =
    let g = guard_ok (ltb 32768 (length bytes)) BadBody (Ok (Catalogue bytes, [])) x e in
    subst (λ (y : Entry × List ℕ). KindTakes format n vectors bytes 4 y) (ok_is (Catalogue bytes, []) x g.1)
    (record { parts = sym (append-nil bytes); rest_fits = λ i. omega arith }, (ltb-false _ _ g.0, fits), refl)

command_takes : (format : Format) (n : ℕ) (vectors : List (List ℕ)) (bytes : List ℕ) (x : Entry × List ℕ) → IsBytes bytes → AreVectors n vectors → command_at format vectors bytes ≡ Ok x → KindTakes format n vectors bytes 2 x
unfolding command_at
command_takes format n vectors bytes x fits are e =
    let made : Origin → ℕ → List Value → Entry = λ o proc args. Command o.number o.anchor o.dep (record { proc = proc; args = record { items = args } }) in
    let last : (Origin × List ℕ) → (ℕ × List ℕ) → (ℕ × List ℕ) → Result (Entry × List ℕ) RecordCause = λ o proc count. args_at count.0 count.1 >>= λ args. Ok (made o.0 proc.0 args.0, args.1) in
    let a = bind_ok (origin_at format vectors bytes) (λ o. number_at w16 o.1 >>= λ proc. byte_at proc.1 >>= λ count. cond (ltb 8 count.0) (Err BadBody) (last o proc count)) x e in
    let b = bind_ok (number_at w16 a.0.1) (λ proc. byte_at proc.1 >>= λ count. cond (ltb 8 count.0) (Err BadBody) (last a.0 proc count)) x a.2 in
    let d = bind_ok (byte_at b.0.1) (λ count. cond (ltb 8 count.0) (Err BadBody) (last a.0 b.0 count)) x b.2 in
    let g = guard_ok (ltb 8 d.0.0) BadBody (last a.0 b.0 d.0) x d.2 in
    let f = bind_ok (args_at d.0.0 d.0.1) (λ args. Ok (made a.0.0 b.0.0 args.0, args.1)) x g.1 in
    let t0 = origin_takes format n vectors bytes a.0 fits are a.1 in
    let t1 = number_takes w16 (2 ^ 16) wide16 a.0.1 b.0 t0.0.rest_fits b.1 in
    let t2 = byte_takes b.0.1 d.0 t1.0.rest_fits d.1 in
    let t3 = args_take d.0.0 d.0.1 f.0 t2.rest_fits f.1 in
    let e23 = Takes-then b.0.1 (d.0.0 ∷ []) d.0.1 (flat_map value f.0.0) f.0.1 t2 t3.0 in
    let e23' : Takes b.0.1 ((length f.0.0 ∷ []) ++ flat_map value f.0.0) f.0.1 = subst (λ (m : ℕ). Takes b.0.1 ((m ∷ []) ++ flat_map value f.0.0) f.0.1) (sym t3.1) e23 in
    let e13 = Takes-then a.0.1 (to_be_bytes w16 b.0.0) b.0.1 ((length f.0.0 ∷ []) ++ flat_map value f.0.0) f.0.1 t1.0 e23' in
    let e03 = Takes-then bytes (origin_text format vectors a.0.0) a.0.1 (to_be_bytes w16 b.0.0 ++ ((length f.0.0 ∷ []) ++ flat_map value f.0.0)) f.0.1 t0.0 e13 in
    let most : d.0.0 ≤ 8 = ltb-false _ _ g.0 in
    subst (λ (y : Entry × List ℕ). KindTakes format n vectors bytes 2 y) (ok_is (made a.0.0 b.0.0 f.0.0, f.0.1) x f.2) (e03, (t0.1, t1.1, omega (arith, most, t3.1), t3.2), refl)

command_again : (format : Format) (n : ℕ) (vectors : List (List ℕ)) (number anchor : ℕ) (dep : List ℕ) (call : Call) (rest : List ℕ) → n ≤ most_streams format → AreVectors n vectors → FitsBody n vectors (Command number anchor dep call)
    → command_at format vectors (body format vectors (Command number anchor dep call) ++ rest) ≡ Ok (Command number anchor dep call, rest)
unfolding command_at
command_again format n vectors number anchor dep call rest room are fits =
    let o : Origin = record { number = number; anchor = anchor; dep = dep } in
    let proc = to_be_bytes w16 call.proc in
    let args = call.args.items in
    let count : List ℕ = length args ∷ [] in
    let tail = flat_map value args ++ rest in
    let regrouped : body format vectors (Command number anchor dep call) ++ rest ≡ origin_text format vectors o ++ (proc ++ (count ++ tail))
    = append_assoc (origin_text format vectors o) (proc ++ (count ++ flat_map value args)) rest ∙ ap (λ (x : List ℕ). origin_text format vectors o ++ x) (append_assoc proc (count ++ flat_map value args) rest) in
    let most : ltb 8 (length args) ≡ false = le-ltb _ _ fits.2 in
    ap (command_at format vectors) regrouped ∙ rw (origin_again format n vectors o (proc ++ (count ++ tail)) room are fits.0, number_again w16 (2 ^ 16) wide16 call.proc (count ++ tail) fits.1, byte_again (length args) tail, most, args_again args rest fits.3) refl

-- an epoch that is read is the next one
epoch_takes : (format : Format) (n k : ℕ) (vectors : List (List ℕ)) (bytes : List ℕ) (x : Entry × List ℕ) → IsBytes bytes → epoch_at n k bytes ≡ Ok x → KindTakes format n vectors bytes 5 x × IsNext k x.0
unfolding epoch_at
epoch_takes format n k vectors bytes x fits e =
    let after : (ℕ × List ℕ) → Result (Entry × List ℕ) RecordCause = λ number. lv_at n number.1 >>= λ v. Ok (Epoch number.0 v.0, v.1) in
    let a = bind_ok (number_at w32 bytes) (λ number. cond (leb number.0 k) (Err BadBody) (after number)) x e in
    let g = guard_ok (leb a.0.0 k) BadBody (after a.0) x a.2 in
    let b = bind_ok (lv_at n a.0.1) (λ v. Ok (Epoch a.0.0 v.0, v.1)) x g.1 in
    let t0 = number_takes w32 (2 ^ 32) wide32 bytes a.0 fits a.1 in
    let t1 = lv_takes n a.0.1 b.0 t0.0.rest_fits b.1 in
    let both = Takes-then bytes (to_be_bytes w32 a.0.0) a.0.1 (flat_map (to_be_bytes w64) b.0.0) b.0.1 t0.0 t1.0 in
    let next : k < a.0.0 = leb-false _ _ g.0 in
    subst (λ (y : Entry × List ℕ). KindTakes format n vectors bytes 5 y × IsNext k y.0) (ok_is (Epoch a.0.0 b.0.0, b.0.1) x b.2) ((both, (omega (arith, next), t0.1, t1.1, t1.2), refl), next)

epoch_again : (n k number : ℕ) (lv rest : List ℕ) → number < 2 ^ 32 → length lv ≡ n → ArePlaces lv → k < number → epoch_at n k ((to_be_bytes w32 number ++ flat_map (to_be_bytes w64) lv) ++ rest) ≡ Ok (Epoch number lv, rest)
unfolding epoch_at
epoch_again n k number lv rest small width places next =
    let head = to_be_bytes w32 number in
    let list = flat_map (to_be_bytes w64) lv in
    let read : lv_at n (list ++ rest) ≡ Ok (lv, rest) = ap (λ (m : ℕ). lv_at m (list ++ rest)) (sym width) ∙ lv_again lv rest places in
    ap (epoch_at n k) (append_assoc head list rest) ∙ rw (number_again w32 (2 ^ 32) wide32 number (list ++ rest) small, leb_not number k next, read) refl

-- an entry of another kind is next after any epoch
kind_next : (k : ℕ) (e : Entry) → (kind_of e ≡ 5 → ⊥) → IsNext k e
kind_next k (Written number anchor dep writes) other = tt
kind_next k (Command number anchor dep call) other = tt
kind_next k (Anchor lv) other = tt
kind_next k (Catalogue text) other = tt
kind_next k (Epoch number lv) other = absurd (other refl)

pub first_epoch : (n : ℕ) (vectors : List (List ℕ)) (first : Bool) (e : Entry) → Fits n vectors first e → IsNext 0 e
first_epoch n vectors first (Written number anchor dep writes) fits = tt
first_epoch n vectors first (Command number anchor dep call) fits = tt
first_epoch n vectors first (Anchor lv) fits = tt
first_epoch n vectors first (Catalogue text) fits = tt
first_epoch n vectors first (Epoch number lv) fits = fits.fields.0

-- a record of another kind that is read
kind_takes : (format : Format) (n k : ℕ) (vectors : List (List ℕ)) (bytes : List ℕ) (is kind : ℕ) (x : Entry × List ℕ) → kind ≡ is → is < 5 → KindTakes format n vectors bytes is x → KindTakes format n vectors bytes kind x × IsNext k x.0
kind_takes format n k vectors bytes is kind x same low t =
    (subst (λ (m : ℕ). KindTakes format n vectors bytes m x) (sym same) t, kind_next k x.0 (λ five. omega (arith, five, t.2, low)))

fields_take : (format : Format) (n k : ℕ) (vectors : List (List ℕ)) (kind : ℕ) (bytes : List ℕ) (x : Entry × List ℕ) → IsBytes bytes → AreVectors n vectors → 1 ≤ kind → kind ≤ 5 → fields_at format n k vectors kind bytes ≡ Ok x → KindTakes format n vectors bytes kind x × IsNext k x.0
unfolding fields_at
fields_take format n k vectors kind bytes x fits are low high e =
    let fifth : Result (Entry × List ℕ) RecordCause = cond (ltb 32768 (length bytes)) (Err BadBody) (Ok (Catalogue bytes, [])) in
    let fourth : Result (Entry × List ℕ) RecordCause = cond (eqb kind 5) (epoch_at n k bytes) fifth in
    let third : Result (Entry × List ℕ) RecordCause = cond (eqb kind 3) (lv_at n bytes >>= λ v. Ok (Anchor v.0, v.1)) fourth in
    let second : Result (Entry × List ℕ) RecordCause = cond (eqb kind 2) (command_at format vectors bytes) third in
    elim (chosen (eqb kind 1) (written_at format vectors bytes) second (Ok x) e) [
      | inl t ↦ kind_takes format n k vectors bytes 1 kind x (eqb-true kind 1 t.0) (omega arith) (written_takes format n vectors bytes x fits are t.1)
      | inr t ↦ elim (chosen (eqb kind 2) (command_at format vectors bytes) third (Ok x) t.1) [
        | inl s ↦ kind_takes format n k vectors bytes 2 kind x (eqb-true kind 2 s.0) (omega arith) (command_takes format n vectors bytes x fits are s.1)
        | inr s ↦ elim (chosen (eqb kind 3) (lv_at n bytes >>= λ v. Ok (Anchor v.0, v.1)) fourth (Ok x) s.1) [
          | inl r ↦ kind_takes format n k vectors bytes 3 kind x (eqb-true kind 3 r.0) (omega arith) (anchor_takes format n vectors bytes x fits r.1)
          | inr r ↦ elim (chosen (eqb kind 5) (epoch_at n k bytes) fifth (Ok x) r.1) [
            | inl q ↦
                let t5 = epoch_takes format n k vectors bytes x fits q.1 in
                (subst (λ (m : ℕ). KindTakes format n vectors bytes m x) (sym (eqb-true kind 5 q.0)) t5.0, t5.1)
            | inr q ↦
                let a = eqb-false kind 1 t.0 in
                let b = eqb-false kind 2 s.0 in
                let d = eqb-false kind 3 r.0 in
                let f = eqb-false kind 5 q.0 in
                kind_takes format n k vectors bytes 4 kind x (omega (arith, a, b, d, f, low, high)) (omega arith) (catalogue_takes format n vectors bytes x fits q.1)
          ]
        ]
      ]
    ]

fields_again : (format : Format) (n k : ℕ) (vectors : List (List ℕ)) (e : Entry) → n ≤ most_streams format → AreVectors n vectors → FitsBody n vectors e → IsNext k e → fields_at format n k vectors (kind_of e) (body format vectors e) ≡ Ok (e, [])
unfolding fields_at
fields_again format n k vectors (Written number anchor dep writes) room are fits next = ap (written_at format vectors) (sym (append-nil (body format vectors (Written number anchor dep writes)))) ∙ written_again format n vectors number anchor dep writes [] room are fits
fields_again format n k vectors (Command number anchor dep call) room are fits next = ap (command_at format vectors) (sym (append-nil (body format vectors (Command number anchor dep call)))) ∙ command_again format n vectors number anchor dep call [] room are fits
fields_again format n k vectors (Anchor lv) room are fits next =
    let read : lv_at n (flat_map (to_be_bytes w64) lv) ≡ Ok (lv, []) = ap (lv_at n) (sym (append-nil (flat_map (to_be_bytes w64) lv))) ∙ ap (λ (m : ℕ). lv_at m (flat_map (to_be_bytes w64) lv ++ [])) (sym fits.0) ∙ lv_again lv [] fits.1 in
    rw read refl
fields_again format n k vectors (Catalogue text) room are fits next = rw (le-ltb _ _ fits.0) refl
fields_again format n k vectors (Epoch number lv) room are fits next =
    ap (epoch_at n k) (sym (append-nil (to_be_bytes w32 number ++ flat_map (to_be_bytes w64) lv))) ∙ epoch_again n k number lv [] fits.1 fits.2 fits.3 next

pub record_takes : (format : Format) (n k : ℕ) (vectors : List (List ℕ)) (first : Bool) (bytes : List ℕ) (x : Entry × List ℕ) → IsBytes bytes → AreVectors n vectors → record_at format n k vectors first bytes ≡ Ok x → Takes bytes (spelling format vectors x.0) x.1 × Fits n vectors first x.0 × IsNext k x.0
unfolding record_at body_at
record_takes format n k vectors first bytes x fits are e =
    let a = bind_ok (frame_at first bytes) (λ f. body_at format n k vectors f.0.0 f.0.1 >>= λ e. Ok (e, f.1)) x e in
    let kind = a.0.0.0 in
    let text = a.0.0.1 in
    let b = bind_ok (body_at format n k vectors kind text) (λ e. Ok (e, a.0.1)) x a.2 in
    let d = bind_ok (fields_at format n k vectors kind text) (λ y. cond (eqb (length y.1) 0) (Ok y.0) (Err BadLength)) b.0 b.1 in
    let g = guard_held (eqb (length d.0.1) 0) BadLength (Ok d.0.0) b.0 d.2 in
    let t0 = frame_takes first bytes a.0 fits a.1 in
    let bound = kind_bound first kind t0.1 in
    let t1 = fields_take format n k vectors kind text d.0 t0.3 are bound.0 bound.1 d.1 in
    let nothing : d.0.1 ≡ [] = nil_from_length d.0.1 (eqb-true _ _ g.0) in
    let whole : text ≡ body format vectors d.0.0 = t1.0.0.parts ∙ ap (λ (r : List ℕ). body format vectors d.0.0 ++ r) nothing ∙ append-nil (body format vectors d.0.0) in
    let first_takes : Takes bytes (framed kind (body format vectors d.0.0)) a.0.1 = subst (λ (t : List ℕ). Takes bytes (framed kind t) a.0.1) whole t0.0 in
    let takes : Takes bytes (spelling format vectors d.0.0) a.0.1 = subst (λ (k : ℕ). Takes bytes (framed k (body format vectors d.0.0)) a.0.1) (sym t1.0.2) first_takes in
    let fit : Fits n vectors first d.0.0 = record { kind = rw t1.0.2 t0.1; fields = t1.0.1 } in
    subst (λ (y : Entry × List ℕ). Takes bytes (spelling format vectors y.0) y.1 × Fits n vectors first y.0 × IsNext k y.0) (ok_is (d.0.0, a.0.1) x (ap (λ (y : Result Entry RecordCause). y >>= λ e. Ok (e, a.0.1)) g.1 ∙ b.2)) (takes, fit, t1.1)

pub record_again : (format : Format) (n k : ℕ) (vectors : List (List ℕ)) (first : Bool) (e : Entry) (rest : List ℕ) → n ≤ most_streams format → AreVectors n vectors → Fits n vectors first e → IsNext k e → record_at format n k vectors first (spelling format vectors e ++ rest) ≡ Ok (e, rest)
unfolding record_at body_at
record_again format n k vectors first e rest room are fits next =
    rw (frame_again first (kind_of e) (body format vectors e) rest fits.kind (size_fits format n vectors e room are fits.fields), fields_again format n k vectors e room are fits.fields next) refl

pub spelled_once : (format : Format) (n : ℕ) (vectors : List (List ℕ)) (first : Bool) (a b : Entry) (x y : List ℕ) → n ≤ most_streams format → AreVectors n vectors → Fits n vectors first a → Fits n vectors first b
    → spelling format vectors a ++ x ≡ spelling format vectors b ++ y → (a ≡ b) × (x ≡ y)
spelled_once format n vectors first a b x y room are fa fb e =
    let same : (a, x) ≡ (b, y) = ok_is (a, x) (b, y) (sym (record_again format n 0 vectors first a x room are fa (first_epoch n vectors first a fa)) ∙ ap (record_at format n 0 vectors first) e ∙ record_again format n 0 vectors first b y room are fb (first_epoch n vectors first b fb)) in
    (ap (λ (p : Entry × List ℕ). p.0) same, ap (λ (p : Entry × List ℕ). p.1) same)
