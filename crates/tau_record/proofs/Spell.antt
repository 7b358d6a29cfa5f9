-- What the encoders write is the spelling.
use Rattle.std.proofs.Common.{◌≡◌, ℕ, ◌+◌, ◌*◌, ◌^◌, ◌<◌, ◌≤◌, true, false, List, [], ◌∷◌, ◌++◌, length, refl, sym, ap, ◌∙◌, append_assoc, arith, inl, inr}
use Rattle.std.specs.Int.{w16, w32, w64, byte_len, to_be_bytes}
use Rattle.std.specs.FinMap.{is_sorted}
use Rattle.std.specs.List.{flat_map, AllByRecursion}
use Rattle.std.proofs.lemmas.Bool.{cases_lt}
use Rattle.std.proofs.lemmas.List.{length-append, get_or_past}
use Rattle.tau_base.specs.Database.{key_cmp}
use Rattle.tau_base.specs.Vectors.{AtMost}
use Rattle.tau_base.specs.declared.value.Call.{Call}
use Rattle.tau_base.specs.declared.value.Key.{Key}
use Rattle.tau_base.specs.declared.value.Value.{Value}
use Rattle.tau_record.specs.declared.entry.Entry.TheVariants.{Written, Command, Anchor, Epoch}
use Rattle.tau_record.specs.Format.{Format, mask_width}
use Rattle.tau_record.specs.Vector.{ArePlaces, mask_of}
use Rattle.tau_record.specs.Item.{value, FitsValue, write, FitsWrite}
use Rattle.tau_record.specs.Record.{base_of, origin, framed, FitsOrigin, Spells}
use Rattle.tau_record.proofs.FieldLaws.{wide_mask}
use Rattle.tau_record.proofs.VectorLaws.{explicit}
use Rattle.tau_record.proofs.Loop.{put_three}

framed_is : (kind size : ℕ) (fields one out : List ℕ) → size ≡ length fields → one ≡ kind ∷ to_be_bytes w32 (5 + size) → out ≡ one ++ fields → out ≡ framed kind fields
framed_is kind size fields one out len a b = b ∙ ap (λ (t : List ℕ). t ++ fields) a ∙ ap (λ (m : ℕ). kind ∷ (to_be_bytes w32 (5 + m) ++ fields)) len

origin_len : (f : Format) (base : List ℕ) (number anchor : ℕ) (dep : List ℕ) → length (origin f base number anchor dep) ≡ 12 + byte_len (mask_width f) + length (explicit base dep)
origin_len f base number anchor dep = omega (arith, length-append (to_be_bytes (mask_width f) (mask_of base dep)) (explicit base dep), (wide_mask f).len (mask_of base dep))

known_at : (vectors : List (List ℕ)) (k : ℕ) (base : List ℕ) → base_of vectors k ≡ base → 1 ≤ length base → k < length vectors
known_at vectors k base e some =
    elim (cases_lt k (length vectors)) [ inl lt ↦ lt | inr le ↦ let past : length (base_of vectors k) ≡ 0 = ap length (get_or_past vectors k [] le) in absurd (omega (arith, some, ap length e, past)) ]

-- what an encoder was given
pub record Given (base dep : List ℕ) (number anchor : ℕ) : Type 0 where
  pub wide : 1 ≤ length base
  pub low : 1 ≤ number
  pub number_fits : number < 2 ^ 64
  pub anchor_fits : anchor < 2 ^ 32
  pub width : length dep ≡ length base
  pub covers : AtMost base dep
  pub places : ArePlaces dep

origin_fits : (vectors : List (List ℕ)) (base dep : List ℕ) (number anchor : ℕ) → base_of vectors anchor ≡ base → Given base dep number anchor → FitsOrigin vectors number anchor dep
origin_fits vectors base dep number anchor e g = record {
  low = g.low;
  number_fits = g.number_fits;
  anchor_fits = g.anchor_fits;
  known = known_at vectors anchor base e g.wide;
  width = rw e g.width;
  covers = rw e g.covers;
  places = g.places;
}

pub written_spells : (f : Format) (base dep : List ℕ) (number anchor : ℕ) (writes : List (Key × Value)) (vectors : List (List ℕ)) (size : ℕ) (one two three four : List ℕ)
    → Given base dep number anchor → 1 ≤ length writes → length writes ≤ 64 → is_sorted key_cmp writes ≡ true → AllByRecursion FitsWrite writes → size ≡ 14 + byte_len (mask_width f) + length (explicit base dep) + length (flat_map write writes)
    → one ≡ 1 ∷ to_be_bytes w32 (5 + size) → two ≡ one ++ origin f base number anchor dep → three ≡ two ++ to_be_bytes w16 (length writes) → four ≡ three ++ flat_map write writes
    → base_of vectors anchor ≡ base → Spells f (length dep) vectors false (Written number anchor dep writes) four
written_spells f base dep number anchor writes vectors size one two three four given some most sorted fit is a b c d e =
    let count = to_be_bytes w16 (length writes) in
    let list = flat_map write writes in
    let fields = origin f base number anchor dep ++ (count ++ list) in
    let len : size ≡ length fields = omega (arith, is, length-append (origin f base number anchor dep) (count ++ list), length-append count list, origin_len f base number anchor dep) in
    let parts : four ≡ one ++ fields = put_three one (origin f base number anchor dep) count list two three four b c d in
    record {
      fits = record { kind = refl; fields = (origin_fits vectors base dep number anchor e given, some, most, sorted, fit) };
      text = framed_is 1 size fields one four len a parts ∙ ap (λ (v : List ℕ). framed 1 (origin f v number anchor dep ++ (count ++ list))) (sym e);
    }

pub command_spells : (f : Format) (base dep : List ℕ) (number anchor : ℕ) (call : Call) (vectors : List (List ℕ)) (size : ℕ) (one two three four five : List ℕ)
    → Given base dep number anchor → call.proc < 2 ^ 16 → length call.args.items ≤ 8 → AllByRecursion FitsValue call.args.items → size ≡ 15 + byte_len (mask_width f) + length (explicit base dep) + length (flat_map value call.args.items)
    → one ≡ 2 ∷ to_be_bytes w32 (5 + size) → two ≡ one ++ origin f base number anchor dep → three ≡ two ++ to_be_bytes w16 call.proc → four ≡ three ++ length call.args.items ∷ [] → five ≡ four ++ flat_map value call.args.items
    → base_of vectors anchor ≡ base → Spells f (length dep) vectors false (Command number anchor dep call) five
command_spells f base dep number anchor call vectors size one two three four five given proc_fits most fit is a b c d g e =
    let proc = to_be_bytes w16 call.proc in
    let count : List ℕ = length call.args.items ∷ [] in
    let list = flat_map value call.args.items in
    let tail = proc ++ (count ++ list) in
    let fields = origin f base number anchor dep ++ tail in
    let len : size ≡ length fields = omega (arith, is, length-append (origin f base number anchor dep) tail, length-append proc (count ++ list), length-append count list, origin_len f base number anchor dep) in
    let behind : five ≡ two ++ tail = put_three two proc count list three four five c d g in
    let parts : five ≡ one ++ fields = behind ∙ ap (λ (t : List ℕ). t ++ tail) b ∙ append_assoc one (origin f base number anchor dep) tail in
    record {
      fits = record { kind = refl; fields = (origin_fits vectors base dep number anchor e given, proc_fits, most, fit) };
      text = framed_is 2 size fields one five len a parts ∙ ap (λ (v : List ℕ). framed 2 (origin f v number anchor dep ++ tail)) (sym e);
    }

lv_len : (lv : List ℕ) → length (flat_map (to_be_bytes w64) lv) ≡ 8 * length lv
lv_len [] = refl
lv_len (part ∷ lv) = let more = lv_len lv in omega (arith, more)

pub anchor_spells : (f : Format) (lv : List ℕ) (vectors : List (List ℕ)) (size : ℕ) (one two : List ℕ) → ArePlaces lv → size ≡ 8 * length lv
    → one ≡ 3 ∷ to_be_bytes w32 (5 + size) → two ≡ one ++ flat_map (to_be_bytes w64) lv → Spells f (length lv) vectors false (Anchor lv) two
anchor_spells f lv vectors size one two places is a b = record {
  fits = record { kind = refl; fields = (refl, places) };
  text = framed_is 3 size (flat_map (to_be_bytes w64) lv) one two (omega (arith, is, lv_len lv)) a b;
}

pub epoch_spells : (f : Format) (number : ℕ) (lv : List ℕ) (vectors : List (List ℕ)) (size : ℕ) (one two three : List ℕ) → 1 ≤ number → number < 2 ^ 32 → ArePlaces lv → size ≡ 4 + 8 * length lv
    → one ≡ 5 ∷ to_be_bytes w32 (5 + size) → two ≡ one ++ to_be_bytes w32 number → three ≡ two ++ flat_map (to_be_bytes w64) lv → Spells f (length lv) vectors false (Epoch number lv) three
epoch_spells f number lv vectors size one two three low fits is size_is a b c =
    let head = to_be_bytes w32 number in
    let list = flat_map (to_be_bytes w64) lv in
    let len : size ≡ length (head ++ list) = omega (arith, size_is, lv_len lv, length-append head list) in
    let parts : three ≡ one ++ (head ++ list) = c ∙ ap (λ (t : List ℕ). t ++ list) b ∙ append_assoc one head list in
    record {
      fits = record { kind = refl; fields = (low, fits, refl, is) };
      text = framed_is 5 size (head ++ list) one three len a parts;
    }
