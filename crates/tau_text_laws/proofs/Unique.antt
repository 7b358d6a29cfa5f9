-- Each word has one spelling: what is read of a word is printed as that word.
use Rattle.std.proofs.Common.{◌≡◌, ℕ, zero, suc, ◌+◌, ◌-◌, ◌*◌, ◌/◌, ◌%◌, ◌^◌, ◌<◌, ◌≤◌, ◌==◌, Bool, true, false, cond, ◌&&◌, nat_le, nat_lt, List, [], ◌∷◌, ◌++◌, length, ℤ, pos, negsuc, Option, Some, None, Result, Ok, Err, bytes_eq, decimal, option_map, option_and_then, refl, sym, ap, ◌∙◌, append_assoc, arith}
use Rattle.std.specs.Prelude.{neg_ℤ}
use Rattle.std.proofs.lemmas.Grind.{common_steps}
use Rattle.std.proofs.lemmas.Bool.{and_parts}
use Rattle.std.proofs.lemmas.Bool.Decides.{Decides-eqb}
use Rattle.std.proofs.lemmas.Fmt.{decimal_digit, decimal_step}
use Rattle.std.proofs.lemmas.List.{append-nil}
use Rattle.std.proofs.lemmas.Slice.Eq.{bytes_eq-Decides}
use Rattle.std.specs.Fmt.{signed_decimal}
use Rattle.tau_base.specs.declared.limits.TheConstants.{MAX_ARGS, REGISTERS}
use Rattle.tau_text.specs.declared.fault.TextCause.{TextCause}
use Rattle.tau_text.specs.declared.fault.TextCause.TheVariants.{BadNumber, TooMany, UnknownName}
use Rattle.tau_text.specs.Given.{or_else}
use Rattle.tau_text.specs.Canonical.{name_at}
use Rattle.tau_text.specs.Spelled.{is_digit, digits_after, at_most, magnitude, number, whole, as_count, count, below, index, name, place_from, known, register, positive, argument}
use Rattle.tau_text.proofs.Binds.{bind_ok}
pub use Rattle.tau_text.specs.Plain.{is_plain, IsPlain}
pub use Rattle.tau_text.proofs.PlainWords.{taken, unless_bad, all_more, IsText, IsWord, digit_low, digit_high, plain_cons, digits_plain, named_plain, name_spells}

-- ---- choices

pub passed : {A : Type 0} (t : Bool) (o : Option A) (x : A) → cond t None o ≡ Some x → (t ≡ false) × (o ≡ Some x)
passed true o x e = absurd cc
passed false o x e = (refl, e)

pub only_if : {A : Type 0} (t : Bool) (c : TextCause) (r : Result A TextCause) (x : A) → cond t r (Err c) ≡ Ok x → (t ≡ true) × (r ≡ Ok x)
only_if true c r x e = (refl, e)
only_if false c r x e = absurd cc

pub was_some : {A : Type 0} (c : TextCause) (o : Option A) (x : A) → or_else c o ≡ Ok x → o ≡ Some x
was_some c (Some y) x e = cc
was_some c None x e = absurd cc

mapped : {A B : Type 0} (f : A → B) (o : Option A) (y : B) → option_map f o ≡ Some y → (x : A) × (o ≡ Some x) × (f x ≡ y)
mapped f (Some x) y e = (x, refl, cc)
mapped f None y e = absurd cc

chained : {A B : Type 0} (f : A → Option B) (o : Option A) (y : B) → option_and_then f o ≡ Some y → (x : A) × (o ≡ Some x) × (f x ≡ Some y)
chained f (Some x) y e = (x, refl, e)
chained f None y e = absurd cc

-- ---- digits

digits_le : (v n : ℕ) (ds : List ℕ) → digits_after v ds ≡ Some n → v ≤ n
unfolding digits_after
digits_le v n [] e =
    let k : v ≡ n = cc in
    omega arith
digits_le v n (b ∷ ds) e =
    let p = taken (is_digit b) (digits_after (v * 10 + (b - 48)) ds) n e in
    let q : v * 10 + (b - 48) ≤ n = digits_le (v * 10 + (b - 48)) n ds p.1 in
    omega arith

digit_again : (b : ℕ) → 48 ≤ b → 48 + (b - 48) ≡ b
digit_again b l = omega arith

tail_step : (v b : ℕ) → 0 < v → 48 ≤ b → b ≤ 57 → v * 10 + (b - 48) < 2 ^ 64 → decimal (v * 10 + (b - 48)) ≡ decimal v ++ b ∷ []
tail_step v b z l h lt =
    let ten : 10 ≤ v * 10 + (b - 48) = omega arith in
    let q : (v * 10 + (b - 48)) / 10 ≡ v = omega arith in
    let r : 48 + (v * 10 + (b - 48)) % 10 ≡ b = omega arith in
    rw (decimal_step (v * 10 + (b - 48)) ten lt, q, r) refl

digits_spell : (v n : ℕ) (ds : List ℕ) → 0 < v → n < 2 ^ 64 → digits_after v ds ≡ Some n → decimal n ≡ decimal v ++ ds
unfolding digits_after
digits_spell v n [] z lt e =
    let k : v ≡ n = cc in
    rw (← k) (sym (append-nil (decimal v)))
digits_spell v n (b ∷ ds) z lt e =
    let p = taken (is_digit b) (digits_after (v * 10 + (b - 48)) ds) n e in
    let le : v * 10 + (b - 48) ≤ n = digits_le (v * 10 + (b - 48)) n ds p.1 in
    let m : 0 < v * 10 + (b - 48) = omega arith in
    let s : decimal (v * 10 + (b - 48)) ≡ decimal v ++ b ∷ [] = tail_step v b z (digit_low b p.0) (digit_high b p.0) (omega arith) in
    digits_spell (v * 10 + (b - 48)) n ds m lt p.1 ∙ ap (λ t. t ++ ds) s ∙ append_assoc (decimal v) (b ∷ []) ds

pub first_digit : (b n : ℕ) (ds : List ℕ) → (b == 48) ≡ false → n < 2 ^ 64 → digits_after 0 (b ∷ ds) ≡ Some n → (decimal n ≡ b ∷ ds) × (0 < n)
unfolding digits_after
first_digit b n ds ne lt e =
    let p = taken (is_digit b) (digits_after (0 * 10 + (b - 48)) ds) n e in
    let l : 48 ≤ b = digit_low b p.0 in
    let h : b ≤ 57 = digit_high b p.0 in
    let apart : b ≡ 48 → ⊥ = λ q. absurd (same_false b ne q) in
    let z : 0 < b - 48 = omega arith in
    let k : 0 * 10 + (b - 48) ≡ b - 48 = omega arith in
    let d : digits_after (b - 48) ds ≡ Some n = rw (← k) p.1 in
    let le : b - 48 ≤ n = digits_le (b - 48) n ds d in
    let one : decimal (b - 48) ≡ b ∷ [] = decimal_digit (b - 48) (omega arith) ∙ ap (λ c. c ∷ []) (digit_again b l) in
    (digits_spell (b - 48) n ds z lt d ∙ ap (λ t. t ++ ds) one, omega arith)
  where
    same_false : (b : ℕ) → (b == 48) ≡ false → b ≡ 48 → ⊥
    same_false b f q = let t : (b == 48) ≡ true = (Decides-eqb b 48).1 q in cc

-- ---- numbers

bounded : (top n : ℕ) (o : Option ℕ) → option_and_then (at_most top) o ≡ Some n → (o ≡ Some n) × (n ≤ top)
bounded top n (Some m) e =
    let p = taken (nat_le m top) (Some m) n e in
    let k : m ≡ n = cc in
    let le : m ≤ top = grind (arith, common_steps) in
    (ap Some k, omega arith)
bounded top n None e = absurd cc

magnitude_spell : (top n : ℕ) (w : List ℕ) → top < 2 ^ 64 → magnitude top w ≡ Some n → (decimal n ≡ w) × (0 < n) × IsPlain w
unfolding magnitude
magnitude_spell top n [] lt e = absurd cc
magnitude_spell top n (b ∷ ds) lt e =
    let p = passed (b == 48) (option_and_then (at_most top) (digits_after 0 (b ∷ ds))) n e in
    let q = bounded top n (digits_after 0 (b ∷ ds)) p.1 in
    let f = first_digit b n ds p.0 (omega arith) q.0 in
    (f.0, f.1, record { bytes = digits_plain 0 n (b ∷ ds) q.0; some = omega arith })

-- a word that spells this number
pub record Spells (w : List ℕ) (z : ℤ) : Type 0 where
  pub same : signed_decimal z ≡ w
  pub word : IsPlain w

negative : (n : ℕ) → 0 < n → signed_decimal (neg_ℤ (pos n)) ≡ 45 ∷ decimal n
negative zero lt = absurd (omega arith)
negative (suc n) lt = refl

zero_word : (bs : List ℕ) (b : ℕ) → (b == 48) ≡ true → (length bs == 0) ≡ true → b ∷ bs ≡ 48 ∷ []
zero_word [] b e f = ap (λ c. c ∷ []) ((Decides-eqb b 48).0 e)
zero_word (c ∷ bs) b e f =
    let z : length (c ∷ bs) ≡ 0 = (Decides-eqb (length (c ∷ bs)) 0).0 f in
    absurd (omega arith)

zero_spells : Spells (48 ∷ []) (pos 0)
zero_spells = record { same = decimal_digit 0 (omega arith); word = record { bytes = refl; some = omega arith } }

number_plain : (b : ℕ) (bs : List ℕ) (z : ℤ) (t : Bool) → (b == 48 && length bs == 0) ≡ t → cond t (Some (pos 0)) (option_map (λ n. pos n) (magnitude (2 ^ 63 - 1) (b ∷ bs))) ≡ Some z → Spells (b ∷ bs) z
number_plain b bs z true t e =
    let p = and_parts (b == 48) (length bs == 0) t in
    let k : pos 0 ≡ z = cc in
    rw (zero_word bs b p.0 p.1, ← k) zero_spells
number_plain b bs z false t e =
    let m = mapped (λ n. pos n) (magnitude (2 ^ 63 - 1) (b ∷ bs)) z e in
    let s = magnitude_spell (2 ^ 63 - 1) m.0 (b ∷ bs) (omega arith) m.1 in
    record { same = ap signed_decimal (sym m.2) ∙ s.0; word = s.2 }

number_signed : (b : ℕ) (bs : List ℕ) (z : ℤ) (t : Bool) → (b == 45) ≡ t
    → cond t (option_map (λ n. neg_ℤ (pos n)) (magnitude (2 ^ 63) bs)) (cond (b == 48 && length bs == 0) (Some (pos 0)) (option_map (λ n. pos n) (magnitude (2 ^ 63 - 1) (b ∷ bs)))) ≡ Some z → Spells (b ∷ bs) z
number_signed b bs z true t e =
    let m = mapped (λ n. neg_ℤ (pos n)) (magnitude (2 ^ 63) bs) z e in
    let s = magnitude_spell (2 ^ 63) m.0 bs (omega arith) m.1 in
    let k : b ≡ 45 = (Decides-eqb b 45).0 t in
    record { same = ap signed_decimal (sym m.2) ∙ negative m.0 s.1 ∙ ap (λ w. 45 ∷ w) s.0 ∙ ap (λ c. c ∷ bs) (sym k); word = plain_cons b bs (rw k refl) s.2.bytes }
number_signed b bs z false t e = number_plain b bs z (b == 48 && length bs == 0) refl e

pub number_spells : (w : List ℕ) (z : ℤ) → number w ≡ Some z → Spells w z
unfolding number
number_spells [] z e = absurd cc
number_spells (b ∷ bs) z e = number_signed b bs z (b == 45) refl e

pub whole_spells : (w : List ℕ) (z : ℤ) → whole w ≡ Ok z → Spells w z
unfolding whole
whole_spells w z e = number_spells w z (was_some BadNumber (number w) z e)

-- ---- counts, registers, arguments

-- a word that spells this number from 0 up
pub record Counts (w : List ℕ) (n : ℕ) : Type 0 where
  pub same : decimal n ≡ w
  pub word : IsPlain w

natural : (w : List ℕ) (z : ℤ) (n : ℕ) → z ≡ pos n → Spells w z → Counts w n
natural w z n e s = record { same = ap signed_decimal (sym e) ∙ s.same; word = s.word }

count_of : (z : ℤ) (n : ℕ) → as_count z ≡ Ok n → z ≡ pos n
count_of (pos m) n e =
    let p = only_if (nat_le m MAX_ARGS) TooMany (Ok m) n e in
    let k : m ≡ n = cc in
    ap pos k
count_of (negsuc m) n e = absurd cc

pub count_spells : (w : List ℕ) (n : ℕ) → count w ≡ Ok n → Counts w n
unfolding count
count_spells w n e =
    let p = bind_ok (whole w) as_count n e in
    natural w p.0 n (count_of p.0 n p.2) (whole_spells w p.0 p.1)

below_of : (limit n : ℕ) (z : ℤ) → below limit z ≡ Some n → z ≡ pos n
below_of limit n (pos m) e =
    let p = taken (nat_lt m limit) (Some m) n e in
    let k : m ≡ n = cc in
    ap pos k
below_of limit n (negsuc m) e = absurd cc

pub index_spells : (limit n : ℕ) (w : List ℕ) → index limit w ≡ Some n → Counts w n
unfolding index
index_spells limit n w e =
    let p = chained (below limit) (number w) n e in
    natural w p.0 n (below_of limit n p.0 p.2) (number_spells w p.0 p.1)

-- a word of this letter and this number
pub record Letter (letter : ℕ) (w : List ℕ) (n : ℕ) : Type 0 where
  pub same : letter ∷ decimal n ≡ w
  pub word : IsPlain w

pub lettered : (c b n : ℕ) (bs : List ℕ) → is_plain c ≡ true → (b == c) ≡ true → Counts bs n → Letter c (b ∷ bs) n
lettered c b n bs e t h =
    let k : b ≡ c = (Decides-eqb b c).0 t in
    record { same = ap (λ w. c ∷ w) h.same ∙ ap (λ a. a ∷ bs) (sym k); word = plain_cons b bs (rw k e) h.word.bytes }

pub register_spells : (w : List ℕ) (r : ℕ) → register w ≡ Some r → Letter 114 w r
unfolding register
register_spells [] r e = absurd cc
register_spells (b ∷ bs) r e =
    let p = taken (b == 114) (index REGISTERS bs) r e in
    lettered 114 b r bs refl p.0 (index_spells REGISTERS r bs p.1)

positive_of : (m n : ℕ) → positive m ≡ Some n → m ≡ n
positive_of zero n e = absurd cc
positive_of (suc m) n e = cc

pub argument_spells : (args : ℕ) (w : List ℕ) (k : ℕ) → argument args w ≡ Some k → Letter 36 w k
unfolding argument
argument_spells args [] k e = absurd cc
argument_spells args (b ∷ bs) k e =
    let p = taken (b == 36) (option_and_then positive (index (args + 1) bs)) k e in
    let q = chained positive (index (args + 1) bs) k p.1 in
    let s : q.0 ≡ k = positive_of q.0 k q.2 in
    lettered 36 b k bs refl p.0 (index_spells (args + 1) k bs (q.1 ∙ ap Some s))

-- ---- names

-- the name at this place, counted from the place k
pub record At (k : ℕ) (names : List (List ℕ)) (w : List ℕ) (i : ℕ) : Type 0 where
  pub place : ℕ
  pub counted : k + place ≡ i
  pub within : place < length names
  pub there : name_at names place ≡ w

at_step : (k i : ℕ) (n w : List ℕ) (ns : List (List ℕ)) (t : Bool) → bytes_eq n w ≡ t → (place_from (k + 1) w ns ≡ Some i → At (k + 1) ns w i) → cond t (Some k) (place_from (k + 1) w ns) ≡ Some i → At k (n ∷ ns) w i
at_step k i n w ns true t h e =
    let p : k ≡ i = cc in
    record { place = 0; counted = omega arith; within = omega arith; there = (bytes_eq-Decides n w).0 t }
at_step k i n w ns false t h e =
    let a = h e in
    record { place = suc a.place; counted = omega (arith, a.counted); within = omega (arith, a.within); there = a.there }

pub place_at : (k i : ℕ) (w : List ℕ) (names : List (List ℕ)) → place_from k w names ≡ Some i → At k names w i
unfolding place_from
place_at k i w [] e = absurd cc
place_at k i w (n ∷ ns) e = at_step k i n w ns (bytes_eq n w) refl (λ f. place_at (k + 1) i w ns f) e

-- a word that names what stands at this place
pub record Names (names : List (List ℕ)) (w : List ℕ) (i : ℕ) : Type 0 where
  pub same : name_at names i ≡ w
  pub within : i < length names
  pub word : IsPlain w

pub known_spells : (names : List (List ℕ)) (w : List ℕ) (i : ℕ) → known names w ≡ Ok i → Names names w i
unfolding known
known_spells names w i e =
    let p = bind_ok (name w) (λ n. or_else UnknownName (place_from 0 n names)) i e in
    let s = name_spells w p.0 p.1 in
    let f : place_from 0 w names ≡ Some i = rw (← s.0) (was_some UnknownName (place_from 0 p.0 names) i p.2) in
    let a = place_at 0 i w names f in
    let k : a.place ≡ i = omega (arith, a.counted) in
    record { same = ap (name_at names) (sym k) ∙ a.there; within = omega (arith, a.within); word = s.1 }

pub number_same : (w : List ℕ) (z : ℤ) → number w ≡ Some z → signed_decimal z ≡ w
number_same w z e = (number_spells w z e).same
