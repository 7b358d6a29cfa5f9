-- A record that is made above an anchor is shorter than 2^32 bytes.
use Rattle.std.proofs.Common.{ℕ, zero, suc, ◌+◌, ◌<◌, ◌≤◌, ◌^◌, ◌≡◌, false, List, [], ◌∷◌, length, refl, sym, ap, subst, ◌∙◌, length-append, arith}
use Rattle.std.specs.Prelude.{replicate}
use Rattle.tau_base.specs.Modes.{format_of, most_streams}
use Rattle.tau_base.specs.declared.value.LogMode.{LogMode}
use Rattle.tau_base.specs.declared.value.LogMode.TheVariants.{Values, Commands, WideValues, WideCommands}
use Rattle.tau_base.specs.Vectors.{AtMost}
use Rattle.tau_model.specs.History.{Act}
use Rattle.tau_machine.specs.Hands.{Txn}
use Rattle.std.specs.Int.{w32, to_be_bytes}
use Rattle.tau_record.specs.Vector.{ArePlaces}
use Rattle.tau_record.specs.Record.{base_of, AreVectors, FitsOrigin, FitsBody, body, Spells}
use Rattle.tau_record.proofs.SizeLaws.{size_fits}
use Rattle.tau_txn.specs.Record.{entry_of}

places_below : (base dep : List ℕ) → length base ≡ length dep → AtMost base dep → ArePlaces dep → ArePlaces base
places_below [] dep e low q = tt
places_below (b ∷ base) [] e low q = absurd (omega arith)
places_below (b ∷ base) (d ∷ dep) e low q = ((let l = low 0 in let h = q.0 in omega arith), places_below base dep (omega arith) (λ j. low (suc j)) q.1)

pub named_copies : (m k : ℕ) (base : List ℕ) → k < m → base_of (replicate m base) k ≡ base
named_copies zero k base lt = absurd (omega arith)
named_copies (suc m) zero base lt = refl
named_copies (suc m) (suc k) base lt = named_copies m k base (omega arith)

copies_long : (m : ℕ) (base : List ℕ) → length (replicate m base) ≡ m
copies_long zero base = refl
copies_long (suc m) base = ap suc (copies_long m base)

origin_in : (n : ℕ) (vectors : List (List ℕ)) (mode : LogMode) (t : Act Txn) → FitsBody n vectors (entry_of mode t) → FitsOrigin vectors t.call.call.number t.call.anchor t.call.place.dep
origin_in n vectors Values t q = q.0
origin_in n vectors Commands t q = q.0
origin_in n vectors WideValues t q = q.0
origin_in n vectors WideCommands t q = q.0

pub size_small : (n : ℕ) (base : List ℕ) (mode : LogMode) (t : Act Txn) (bytes : List ℕ) → n ≤ most_streams (format_of mode) → length base ≡ n →
    ((vectors : List (List ℕ)) → base_of vectors t.call.anchor ≡ base → Spells (format_of mode) n vectors false (entry_of mode t) bytes) → length bytes < 2 ^ 32
size_small n base mode t bytes few wide spelled =
    let vectors : List (List ℕ) = replicate (suc t.call.anchor) base in
    let named : base_of vectors t.call.anchor ≡ base = named_copies (suc t.call.anchor) t.call.anchor base (omega arith) in
    let s = spelled vectors named in
    let o = origin_in n vectors mode t s.fits.fields in
    let width : length base ≡ length t.call.place.dep = sym (o.width ∙ ap (length {A = ℕ}) named) in
    let places : ArePlaces base = places_below base t.call.place.dep width (subst (λ (b : List ℕ). AtMost b t.call.place.dep) named o.covers) o.places in
    let are : AreVectors n vectors = (λ (k : ℕ) (lt : k < length vectors).
    let is : base_of vectors k ≡ base = named_copies (suc t.call.anchor) k base (let l = copies_long (suc t.call.anchor) base in omega arith) in
    (subst (λ (b : List ℕ). ArePlaces b) (sym is) places, ap (length {A = ℕ}) is ∙ wide)) in
    let small = size_fits (format_of mode) n vectors (entry_of mode t) few are s.fits.fields in
    let size = ap (length {A = ℕ}) s.text in
    omega (arith, length-append (to_be_bytes w32 (5 + length (body (format_of mode) vectors (entry_of mode t)))) (body (format_of mode) vectors (entry_of mode t)))
