-- Words of plain bytes: numbers and names are such words.
use Rattle.std.proofs.Common.{◌≡◌, ℕ, ◌+◌, ◌-◌, ◌*◌, ◌<◌, ◌≤◌, Bool, true, false, cond, not, nat_lt, List, [], ◌∷◌, length, Option, Some, None, Result, Ok, Err, IsUtf8, refl, sym, arith}
use Rattle.std.specs.Prelude.{◌⊎◌}
use Rattle.std.proofs.lemmas.Grind.{common_steps}
use Rattle.std.proofs.lemmas.Bool.{and_parts}
use Rattle.std.specs.List.{list_all}
use Rattle.tau_base.specs.declared.limits.TheConstants.{MAX_NAME}
use Rattle.tau_text.specs.declared.fault.TextCause.{TextCause}
use Rattle.tau_text.specs.declared.fault.TextCause.TheVariants.{BadStep, TooMany}
use Rattle.tau_text.specs.Canonical.{text_word}
use Rattle.tau_text.specs.Plain.{is_plain, IsPlain}
use Rattle.tau_text.specs.Spelled.{is_digit, is_letter, is_name_byte, is_text_byte, is_named, digits_after, name}

-- ---- choices

pub taken : {A : Type 0} (t : Bool) (o : Option A) (x : A) → cond t o None ≡ Some x → (t ≡ true) × (o ≡ Some x)
taken true o x e = (refl, e)
taken false o x e = absurd cc

pub unless_bad : {A : Type 0} (t : Bool) (c : TextCause) (r : Result A TextCause) (x : A) → cond t (Err c) r ≡ Ok x → (t ≡ false) × (r ≡ Ok x)
unless_bad true c r x e = absurd cc
unless_bad false c r x e = (refl, e)

pub all_more : (p q : ℕ → Bool) (w : List ℕ) → ((b : ℕ) → p b ≡ true → q b ≡ true) → list_all p w ≡ true → list_all q w ≡ true
all_more p q [] h e = refl
all_more p q (b ∷ w) h e =
    let s = and_parts (p b) (list_all p w) e in
    rw (h b s.0, all_more p q w h s.1) refl

-- ---- words

pub record IsText (w : List ℕ) : Type 0 where
  pub inside : List ℕ
  pub quoted : w ≡ text_word inside
  pub bytes : list_all is_text_byte inside ≡ true
  pub utf8 : IsUtf8 inside

abbrev pub IsWord : List ℕ → Type 0
IsWord w = IsPlain w ⊎ IsText w

pub digit_low : (b : ℕ) → is_digit b ≡ true → 48 ≤ b
digit_low b e = grind (arith, common_steps)

pub digit_high : (b : ℕ) → is_digit b ≡ true → b ≤ 57
digit_high b e = grind (arith, common_steps)

plain_between : (b : ℕ) → 36 ≤ b → b < 128 → is_plain b ≡ true
plain_between b l h = grind (arith, common_steps)

plain_digit : (b : ℕ) → is_digit b ≡ true → is_plain b ≡ true
plain_digit b e = plain_between b (omega (arith, digit_low b e)) (omega (arith, digit_high b e))

plain_name_byte : (b : ℕ) → is_name_byte b ≡ true → is_plain b ≡ true
plain_name_byte b e =
    let l : 36 ≤ b = grind (arith, common_steps) in
    let h : b < 128 = grind (arith, common_steps) in
    plain_between b l h

plain_letter : (b : ℕ) → is_letter b ≡ true → is_plain b ≡ true
plain_letter b e =
    let l : 36 ≤ b = grind (arith, common_steps) in
    let h : b < 128 = grind (arith, common_steps) in
    plain_between b l h

-- a word after one more byte
pub plain_cons : (b : ℕ) (w : List ℕ) → is_plain b ≡ true → list_all is_plain w ≡ true → IsPlain (b ∷ w)
plain_cons b w e f = record { bytes = rw (e, f) refl; some = omega arith }

-- ---- numbers and names

pub digits_plain : (v n : ℕ) (ds : List ℕ) → digits_after v ds ≡ Some n → list_all is_plain ds ≡ true
unfolding digits_after
digits_plain v n [] e = refl
digits_plain v n (b ∷ ds) e =
    let p = taken (is_digit b) (digits_after (v * 10 + (b - 48)) ds) n e in
    rw (plain_digit b p.0, digits_plain (v * 10 + (b - 48)) n ds p.1) refl

pub named_plain : (w : List ℕ) → is_named w ≡ true → IsPlain w
named_plain [] e = absurd cc
named_plain (b ∷ bs) e =
    let p = and_parts (is_letter b) (list_all is_name_byte bs) e in
    plain_cons b bs (plain_letter b p.0) (all_more is_name_byte is_plain bs plain_name_byte p.1)

not_not : (b : Bool) → not b ≡ false → b ≡ true
not_not true e = refl
not_not false e = absurd cc

pub name_spells : (w n : List ℕ) → name w ≡ Ok n → (n ≡ w) × IsPlain w
unfolding name
name_spells w n e =
    let p = unless_bad (not (is_named w)) BadStep (cond (nat_lt MAX_NAME (length w)) (Err TooMany) (Ok w)) n e in
    let q = unless_bad (nat_lt MAX_NAME (length w)) TooMany (Ok w) n p.1 in
    let k : w ≡ n = cc in
    (sym k, named_plain w (not_not (is_named w) p.0))
