-- How long records are.
use Rattle.std.proofs.Common.{ℕ, suc, ◌+◌, ◌*◌, ◌^◌, ◌<◌, ◌≤◌, true, false, cond, ltb, List, [], ◌∷◌, ◌++◌, length, subst, sym, arith}
use Rattle.std.specs.Int.{w16, w32, w64, to_be_bytes}
use Rattle.std.specs.List.{flat_map, AllByRecursion}
use Rattle.std.proofs.lemmas.List.{length-append}
use Rattle.std.proofs.lemmas.List.Concat.{flat_map-cons}
use Rattle.tau_base.specs.declared.value.Key.{Key}
use Rattle.tau_base.specs.declared.value.Value.{Value}
use Rattle.tau_base.specs.declared.value.Value.TheVariants.{Absent, Int, Text}
use Rattle.tau_record.specs.Format.{Format, mask_width, most_streams}
use Rattle.tau_base.specs.declared.format.Format.TheVariants.{One, Two}
use Rattle.tau_record.specs.Vector.{mask_of}
use Rattle.tau_record.specs.Item.{value, FitsValue, write, FitsWrite}
use Rattle.tau_record.specs.Record.{origin, base_of, body, AreVectors, FitsBody}
use Rattle.tau_record.proofs.VectorLaws.{explicit, explicit_cons, piece}
use Rattle.tau_record.specs.declared.entry.Entry.{Entry}
use Rattle.tau_record.specs.declared.entry.Entry.TheVariants.{Written, Command, Anchor, Catalogue, Epoch}

pub explicit_len : (base dep : List ℕ) → length (explicit base dep) ≤ 8 * length base
explicit_len [] dep = omega arith
explicit_len (low ∷ base) [] = omega arith
explicit_len (low ∷ base) (part ∷ dep) =
    let more = explicit_len base dep in
    let one : length (piece low part) ≤ 8 = elim (ltb low part) as (λ v. length (cond v (to_be_bytes w64 part) []) ≤ 8) [ true ↦ omega arith | false ↦ omega arith ] in
    subst (λ (t : List ℕ). length t ≤ 8 * suc (length base)) (sym (explicit_cons low part base dep)) (omega (arith, length-append (piece low part) (explicit base dep), one, more))

-- a mask has at most 4 bytes in any format
mask_len : (f : Format) (m : ℕ) → length (to_be_bytes (mask_width f) m) ≤ 4
unfolding mask_width
mask_len One m = omega arith
mask_len Two m = omega arith

pub streams_most : (f : Format) → most_streams f ≤ 32
streams_most One = omega arith
streams_most Two = omega arith

origin_len : (f : Format) (base : List ℕ) (number anchor : ℕ) (dep : List ℕ) → length base ≤ 32 → length (origin f base number anchor dep) ≤ 272
origin_len f base number anchor dep le =
    omega (arith, length-append (to_be_bytes (mask_width f) (mask_of base dep)) (explicit base dep), mask_len f (mask_of base dep), explicit_len base dep, le)

pub value_len : (v : Value) → FitsValue v → length (value v) ≤ 67
value_len Absent h = omega arith
value_len (Int z) h = omega arith
value_len (Text t) h = omega (arith, h.0)

pub plus_le : (xs ys : List ℕ) (m : ℕ) → length xs ≤ 77 → length ys ≤ 77 * m → length (xs ++ ys) ≤ 77 * suc m
plus_le xs ys m a b = omega (arith, length-append xs ys, a, b)

pub writes_len : (ws : List (Key × Value)) → AllByRecursion FitsWrite ws → length (flat_map write ws) ≤ 77 * length ws
writes_len [] h = omega arith
writes_len (w ∷ ws) h =
    let more = writes_len ws h.1 in
    let one = value_len w.1 h.0.1 in
    let short : length (write w) ≤ 77 = omega (arith, one) in
    subst (λ (t : List ℕ). length t ≤ 77 * suc (length ws)) (sym (flat_map-cons write w ws)) (plus_le (write w) (flat_map write ws) (length ws) short more)

pub lv_len : (lv : List ℕ) → length (flat_map (to_be_bytes w64) lv) ≤ 8 * length lv
lv_len [] = omega arith
lv_len (part ∷ lv) = let more = lv_len lv in omega (arith, more)

pub args_len : (vs : List Value) → AllByRecursion FitsValue vs → length (flat_map value vs) ≤ 77 * length vs
args_len [] h = omega arith
args_len (v ∷ vs) h =
    let more = args_len vs h.1 in
    let short : length (value v) ≤ 77 = omega (arith, value_len v h.0) in
    subst (λ (t : List ℕ). length t ≤ 77 * suc (length vs)) (sym (flat_map-cons value v vs)) (plus_le (value v) (flat_map value vs) (length vs) short more)

-- what has fields that fit has a length that fits
pub size_fits : (f : Format) (n : ℕ) (vectors : List (List ℕ)) (e : Entry) → n ≤ most_streams f → AreVectors n vectors → FitsBody n vectors e → 5 + length (body f vectors e) < 2 ^ 32
size_fits f n vectors (Written number anchor dep writes) le are h =
    let base : length (base_of vectors anchor) ≤ 32 = omega (arith, (are anchor h.0.known).1, le, streams_most f) in
    omega (arith, length-append (origin f (base_of vectors anchor) number anchor dep) (to_be_bytes w16 (length writes) ++ flat_map write writes), origin_len f (base_of vectors anchor) number anchor dep base, writes_len writes h.4, h.2)
size_fits f n vectors (Command number anchor dep call) le are h =
    let base : length (base_of vectors anchor) ≤ 32 = omega (arith, (are anchor h.0.known).1, le, streams_most f) in
    omega (arith, length-append (origin f (base_of vectors anchor) number anchor dep) (to_be_bytes w16 call.proc ++ ((length call.args.items ∷ []) ++ flat_map value call.args.items)), origin_len f (base_of vectors anchor) number anchor dep base, args_len call.args.items h.3, h.2)
size_fits f n vectors (Anchor lv) le are h = omega (arith, lv_len lv, h.0, le, streams_most f)
size_fits f n vectors (Catalogue text) le are h = omega (arith, h.0)
size_fits f n vectors (Epoch number lv) le are h = omega (arith, length-append (to_be_bytes w32 number) (flat_map (to_be_bytes w64) lv), lv_len lv, h.2, le, streams_most f)
