-- The vector of a record: what is read is spelled so, and what is spelled so is read.
use Rattle.std.proofs.Common.{◌≡◌, ℕ, zero, suc, ◌+◌, ◌*◌, ◌/◌, ◌%◌, ◌^◌, ◌<◌, ◌≤◌, true, false, cond, ltb, leb, List, [], ◌∷◌, ◌++◌, length, get_or, drop, Ok, Err, refl, sym, ap, subst, ◌∙◌, append_assoc, arith}
use Rattle.std.specs.List.{flat_map}
use Rattle.std.specs.Int.{w64, to_be_bytes, bit_at}
use Rattle.std.proofs.lemmas.List.Concat.{flat_map-cons}
use Rattle.std.proofs.lemmas.Nat.Bits.{bit_at-suc, bit_at_lowest}
use Rattle.std.proofs.lemmas.Bool.{ltb-true, ltb-false, leb-false, lt-ltb, le-ltb}
use Rattle.std.proofs.Math.Nat.{pow-succ'}
use Rattle.std.proofs.lemmas.Nat.{pow_pos}
use Rattle.std.proofs.Math.Pow.{pow_mono}
use Rattle.std.proofs.lemmas.List.{length-drop}
use Rattle.tau_record.specs.declared.fault.RecordCause.TheVariants.{BadMask}
use Rattle.tau_record.specs.Field.{◌>>=◌, number_at}
use Rattle.tau_base.specs.Vectors.{AtMost}
use Rattle.tau_record.specs.Format.{Format, mask_width, most_streams}
use Rattle.tau_record.specs.Vector.{ArePlaces, mask_of, above, vector, decoded, part_at, parts_at, vector_at}
use Rattle.tau_record.proofs.FieldLaws.{wide_mask, IsBytes, Takes, Takes-none, Takes-then, bind_ok, guard_ok, ok_is, wide64, number_takes, number_again}
use Rattle.tau_record.proofs.Loop.{leb_not}

-- The vector covers the base, and each component is a place: component by component.
abbrev pub Raises : List ℕ → List ℕ → Type 0
Raises [] [] = Unit {0}
Raises [] (part ∷ dep) = ⊥
Raises (low ∷ base) [] = ⊥
Raises (low ∷ base) (part ∷ dep) = (low ≤ part) × (part < 2 ^ 62) × Raises base dep

pub raises : (base dep : List ℕ) → length dep ≡ length base → AtMost base dep → ArePlaces dep → Raises base dep
raises [] [] len le small = tt
raises [] (part ∷ dep) len le small = absurd (omega (arith, len))
raises (low ∷ base) [] len le small = absurd (omega (arith, len))
raises (low ∷ base) (part ∷ dep) len le small = (le 0, small.0, raises base dep (omega (arith, len)) (λ j. le (suc j)) small.1)

pub raises_width : (base dep : List ℕ) → Raises base dep → length dep ≡ length base
raises_width [] [] h = refl
raises_width [] (part ∷ dep) h = absurd h
raises_width (low ∷ base) [] h = absurd h
raises_width (low ∷ base) (part ∷ dep) h = ap suc (raises_width base dep h.2)

pub raises_covers : (base dep : List ℕ) → Raises base dep → AtMost base dep
raises_covers [] dep h j = omega arith
raises_covers (low ∷ base) [] h j = absurd h
raises_covers (low ∷ base) (part ∷ dep) h zero = h.0
raises_covers (low ∷ base) (part ∷ dep) h (suc j) = raises_covers base dep h.2 j

pub raises_places : (base dep : List ℕ) → Raises base dep → ArePlaces dep
raises_places [] [] h = tt
raises_places [] (part ∷ dep) h = absurd h
raises_places (low ∷ base) [] h = absurd h
raises_places (low ∷ base) (part ∷ dep) h = (h.1, raises_places base dep h.2)

-- the written components, as bytes
abbrev pub explicit : List ℕ → List ℕ → List ℕ
explicit base dep = flat_map (to_be_bytes w64) (above base dep)

-- one component, with its bit
abbrev bit_of : ℕ → ℕ → ℕ
bit_of low part = cond (ltb low part) 1 0

abbrev pub piece : ℕ → ℕ → List ℕ
piece low part = cond (ltb low part) (to_be_bytes w64 part) []

pub explicit_cons : (low part : ℕ) (base dep : List ℕ) → explicit (low ∷ base) (part ∷ dep) ≡ piece low part ++ explicit base dep
explicit_cons low part base dep =
    elim (ltb low part) as (λ v. flat_map (to_be_bytes w64) (cond v (part ∷ above base dep) (above base dep)) ≡ cond v (to_be_bytes w64 part) [] ++ explicit base dep)
    [ true ↦ flat_map-cons (to_be_bytes w64) part (above base dep) | false ↦ refl ]

part_takes : (low bit : ℕ) (bytes : List ℕ) (x : ℕ × List ℕ) → IsBytes bytes → low < 2 ^ 62 → bit < 2 → part_at low bit bytes ≡ Ok x → Takes bytes (piece low x.0) x.1 × (bit ≡ bit_of low x.0) × (low ≤ x.0) × (x.0 < 2 ^ 62)
unfolding part_at
part_takes low zero bytes x fits small bound e =
    subst (λ (y : ℕ × List ℕ). Takes bytes (piece low y.0) y.1 × (0 ≡ bit_of low y.0) × (low ≤ y.0) × (y.0 < 2 ^ 62)) (ok_is (low, bytes) x e)
    (let same : ltb low low ≡ false = le-ltb low low (omega arith) in rw same (Takes-none bytes fits, refl, omega arith, small))
part_takes low (suc zero) bytes x fits small bound e =
    let b = bind_ok (number_at w64 bytes) (λ part. cond (leb part.0 low) (Err BadMask) (cond (leb (2 ^ 62) part.0) (Err BadMask) (Ok part))) x e in
    let g = guard_ok (leb b.0.0 low) BadMask (cond (leb (2 ^ 62) b.0.0) (Err BadMask) (Ok b.0)) x b.2 in
    let h = guard_ok (leb (2 ^ 62) b.0.0) BadMask (Ok b.0) x g.1 in
    let t = number_takes w64 (2 ^ 64) wide64 bytes b.0 fits b.1 in
    let above : low < b.0.0 = leb-false _ _ g.0 in
    let below : b.0.0 < 2 ^ 62 = leb-false _ _ h.0 in
    let set : ltb low b.0.0 ≡ true = lt-ltb _ _ above in
    subst (λ (y : ℕ × List ℕ). Takes bytes (piece low y.0) y.1 × (1 ≡ bit_of low y.0) × (low ≤ y.0) × (y.0 < 2 ^ 62)) (ok_is b.0 x h.1)
    (rw set (t.0, refl, omega arith, below))
part_takes low (suc (suc bit)) bytes x fits small bound e = absurd (omega arith)

part_again : (low part : ℕ) (rest : List ℕ) → low ≤ part → part < 2 ^ 62 → part_at low (bit_of low part) (piece low part ++ rest) ≡ Ok (part, rest)
unfolding part_at
part_again low part rest le small =
    elim (ltb low part) as (λ v. ltb low part ≡ v → part_at low (cond v 1 0) (cond v (to_be_bytes w64 part) [] ++ rest) ≡ Ok (part, rest)) [
      | true ↦ λ e. rw (number_again w64 (2 ^ 64) wide64 part rest (omega arith), leb_not part low (ltb-true low part e), leb_not (2 ^ 62) part small) refl
      | false ↦ λ e. ap (λ (k : ℕ). Ok (k, rest)) (omega (arith, ltb-false low part e))
    ] refl

-- ---- all components

pub mask_of_lt : (base dep : List ℕ) → mask_of base dep < 2 ^ length base
mask_of_lt [] dep = omega arith
mask_of_lt (low ∷ base) [] = pow_pos (suc (length base))
mask_of_lt (low ∷ base) (part ∷ dep) =
    let more = mask_of_lt base dep in
    let p = pow-succ' 2 (length base) in
    elim (ltb low part) as (λ v. cond v 1 0 + 2 * mask_of base dep < 2 ^ suc (length base)) [ true ↦ omega (arith, more, p) | false ↦ omega (arith, more, p) ]

bit_of_lt : (low part : ℕ) → bit_of low part < 2
bit_of_lt low part = elim (ltb low part) as (λ v. cond v 1 0 < 2) [ true ↦ omega arith | false ↦ omega arith ]

pub parts_take : (base : List ℕ) (mask : ℕ) (bytes : List ℕ) (x : List ℕ × List ℕ) → IsBytes bytes → ArePlaces base → mask < 2 ^ length base → parts_at base mask bytes ≡ Ok x → Takes bytes (explicit base x.0) x.1 × (mask ≡ mask_of base x.0) × Raises base x.0
unfolding parts_at
parts_take [] mask bytes x fits small bound e =
    subst (λ (y : List ℕ × List ℕ). Takes bytes (explicit [] y.0) y.1 × (mask ≡ mask_of [] y.0) × Raises [] y.0) (ok_is ([], bytes) x e) (Takes-none bytes fits, omega arith, tt)
parts_take (low ∷ base) mask bytes x fits small bound e =
    let a = bind_ok (part_at low (mask % 2) bytes) (λ part. parts_at base (mask / 2) part.1 >>= λ parts. Ok (part.0 ∷ parts.0, parts.1)) x e in
    let b = bind_ok (parts_at base (mask / 2) a.0.1) (λ parts. Ok (a.0.0 ∷ parts.0, parts.1)) x a.2 in
    let first = part_takes low (mask % 2) bytes a.0 fits small.0 (omega arith) a.1 in
    let half : mask / 2 < 2 ^ length base = omega (arith, pow-succ' 2 (length base)) in
    let second = parts_take base (mask / 2) a.0.1 b.0 first.0.rest_fits small.1 half b.1 in
    let both = Takes-then bytes (piece low a.0.0) a.0.1 (explicit base b.0.0) b.0.1 first.0 second.0 in
    let whole : mask ≡ bit_of low a.0.0 + 2 * mask_of base b.0.0 = omega (arith, first.1, second.1) in
    let text : Takes bytes (explicit (low ∷ base) (a.0.0 ∷ b.0.0)) b.0.1 = subst (λ (t : List ℕ). Takes bytes t b.0.1) (sym (explicit_cons low a.0.0 base b.0.0)) both in
    subst (λ (y : List ℕ × List ℕ). Takes bytes (explicit (low ∷ base) y.0) y.1 × (mask ≡ mask_of (low ∷ base) y.0) × Raises (low ∷ base) y.0) (ok_is (a.0.0 ∷ b.0.0, b.0.1) x b.2)
    (text, whole, (first.2, first.3, second.2))

pub parts_again : (base dep rest : List ℕ) → Raises base dep → parts_at base (mask_of base dep) (explicit base dep ++ rest) ≡ Ok (dep, rest)
unfolding parts_at
parts_again [] [] rest h = refl
parts_again [] (part ∷ dep) rest h = absurd h
parts_again (low ∷ base) [] rest h = absurd h
parts_again (low ∷ base) (part ∷ dep) rest h =
    let bit = bit_of_lt low part in
    let odd : (bit_of low part + 2 * mask_of base dep) % 2 ≡ bit_of low part = omega (arith, bit) in
    let even : (bit_of low part + 2 * mask_of base dep) / 2 ≡ mask_of base dep = omega (arith, bit) in
    let regrouped : explicit (low ∷ base) (part ∷ dep) ++ rest ≡ piece low part ++ (explicit base dep ++ rest) = ap (λ (t : List ℕ). t ++ rest) (explicit_cons low part base dep) ∙ append_assoc (piece low part) (explicit base dep) rest in
    ap (parts_at (low ∷ base) (mask_of (low ∷ base) (part ∷ dep))) regrouped ∙ rw (odd, even, part_again low part (explicit base dep ++ rest) h.0 h.1, parts_again base dep rest h.2) refl

pub vector_takes : (format : Format) (base bytes : List ℕ) (x : List ℕ × List ℕ) → IsBytes bytes → ArePlaces base → vector_at format base bytes ≡ Ok x → Takes bytes (vector format base x.0) x.1 × Raises base x.0
unfolding vector_at
vector_takes format base bytes x fits small e =
    let w = mask_width format in
    let a = bind_ok (number_at w bytes) (λ mask. cond (leb (2 ^ length base) mask.0) (Err BadMask) (parts_at base mask.0 mask.1)) x e in
    let g = guard_ok (leb (2 ^ length base) a.0.0) BadMask (parts_at base a.0.0 a.0.1) x a.2 in
    let first = number_takes w (2 ^ most_streams format) (wide_mask format) bytes a.0 fits a.1 in
    let second = parts_take base a.0.0 a.0.1 x first.0.rest_fits small (leb-false _ _ g.0) g.1 in
    let both = Takes-then bytes (to_be_bytes w a.0.0) a.0.1 (explicit base x.0) x.1 first.0 second.0 in
    (subst (λ (m : ℕ). Takes bytes (to_be_bytes w m ++ explicit base x.0) x.1) second.1 both, second.2)

pub vector_again : (format : Format) (base dep rest : List ℕ) → length base ≤ most_streams format → Raises base dep → vector_at format base (vector format base dep ++ rest) ≡ Ok (dep, rest)
unfolding vector_at
vector_again format base dep rest room h =
    let w = mask_width format in
    let below = mask_of_lt base dep in
    let enough : 2 ^ length base ≤ 2 ^ most_streams format = pow_mono room in
    let regrouped : vector format base dep ++ rest ≡ to_be_bytes w (mask_of base dep) ++ (explicit base dep ++ rest) = append_assoc (to_be_bytes w (mask_of base dep)) (explicit base dep) rest in
    ap (vector_at format base) regrouped ∙ rw (number_again w (2 ^ most_streams format) (wide_mask format) (mask_of base dep) (explicit base dep ++ rest) (omega (arith, below, enough)), leb_not (2 ^ length base) (mask_of base dep) below, parts_again base dep rest h) refl

-- the mask and the written components decode to the vector
pub decoded_again : (base dep : List ℕ) → length dep ≡ length base → AtMost base dep → decoded base (mask_of base dep) (above base dep) ≡ dep
decoded_again [] [] len le = refl
decoded_again [] (part ∷ dep) len le = absurd (omega (arith, len))
decoded_again (low ∷ base) [] len le = absurd (omega (arith, len))
decoded_again (low ∷ base) (part ∷ dep) len le =
    let more = decoded_again base dep (omega (arith, len)) (λ j. le (suc j)) in
    let first : low ≤ part = le 0 in
    elim (ltb low part) as (λ v. ltb low part ≡ v → decoded (low ∷ base) (cond v 1 0 + 2 * mask_of base dep) (cond v (part ∷ above base dep) (above base dep)) ≡ part ∷ dep) [
      | true ↦ λ e. let odd : (1 + 2 * mask_of base dep) % 2 ≡ 1 = omega arith in let half : (1 + 2 * mask_of base dep) / 2 ≡ mask_of base dep = omega arith in rw (odd, half, more) refl
      | false ↦ λ e. let even : (0 + 2 * mask_of base dep) % 2 ≡ 0 = omega arith in let half : (0 + 2 * mask_of base dep) / 2 ≡ mask_of base dep = omega arith in
          let same : low ≡ part = omega (arith, first, ltb-false low part e) in rw (even, half, more, same) refl
    ] refl

-- the masks of parts of vectors
pub mask_room : (format : Format) (base dep : List ℕ) (j : ℕ) → length base ≤ most_streams format → mask_of (drop j base) dep < 2 ^ most_streams format
mask_room format base dep j le =
    let short : length (drop j base) ≤ most_streams format = omega (arith, length-drop j base, le) in
    omega (arith, mask_of_lt (drop j base) dep, pow_mono short)

-- bit j of the mask
pub mask_bits : (base dep : List ℕ) (j : ℕ) → length dep ≡ length base → j < length dep → bit_at (mask_of base dep) j ≡ cond (ltb (get_or base j 0) (get_or dep j 0)) 1 0
mask_bits [] [] j len lt = absurd (omega arith)
mask_bits [] (part ∷ dep) j len lt = absurd (omega (arith, len))
mask_bits (low ∷ base) [] j len lt = absurd (omega arith)
mask_bits (low ∷ base) (part ∷ dep) zero len lt = let bit = bit_of_lt low part in bit_at_lowest (bit_of low part + 2 * mask_of base dep) ∙ omega (arith, bit)
mask_bits (low ∷ base) (part ∷ dep) (suc j) len lt =
    let bit = bit_of_lt low part in
    let half : (bit_of low part + 2 * mask_of base dep) / 2 ≡ mask_of base dep = omega (arith, bit) in
    bit_at-suc (bit_of low part + 2 * mask_of base dep) j ∙ ap (λ (m : ℕ). bit_at m j) half ∙ mask_bits base dep j (omega (arith, len)) (omega arith)

-- ---- a mask with no bits

pub parts_none : (base bytes : List ℕ) → parts_at base 0 bytes ≡ Ok (base, bytes)
unfolding parts_at part_at
parts_none [] bytes = refl
parts_none (low ∷ base) bytes = rw (parts_none base bytes) refl
