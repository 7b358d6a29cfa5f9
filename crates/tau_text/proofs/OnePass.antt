-- Lines of calls that are read in one pass.
use Rattle.std.proofs.Common.{◌≡◌, ℕ, zero, suc, ◌+◌, ◌-◌, ◌*◌, ◌^◌, ◌<◌, ◌≤◌, ◌==◌, Bool, true, false, nat_le, nat_lt, List, [], ◌∷◌, ◌++◌, length, take, drop, get_or, ℤ, pos, Option, Some, None, Ok, IsUtf8, bytes_eq, inl, refl, sym, ap, subst, ◌∙◌, append_assoc, length-append, drop-cons, add-one, to_z, w64, arith}
use Rattle.std.specs.Prelude.{IfSome, IsTrue, codes}
use Rattle.std.proofs.lemmas.Bool.Decides.{nat_tests, Decides-eqb}
use Rattle.std.proofs.lemmas.Grind.{common_steps}
use Rattle.std.proofs.lemmas.Int.{to_z_pos}
use Rattle.std.proofs.lemmas.List.{take-append-drop, take_more, take_rest, length-take-le, append-nil}
use Rattle.std.proofs.lemmas.List.Elements.{All-get_or, All-map}
use Rattle.std.proofs.lemmas.Slice.Eq.{bytes_eq-Decides}
use Rattle.std.proofs.lemmas.Str.{IsUtf8-drop, IsCharBoundary-after_ascii}
use Rattle.std.proofs.Math.Seq.{get_or-append_seam, drop-append-add}
use Rattle.tau_base.specs.declared.value.Call.{Call}
use Rattle.tau_base.specs.declared.value.Value.{Value}
use Rattle.tau_base.specs.declared.value.Value.TheVariants.{Int}
use Rattle.tau_base.specs.declared.limits.TheConstants.{MAX_CALLS}
use Rattle.tau_proc.specs.declared.proc.Proc.{Proc}
use Rattle.tau_proc.specs.declared.procs.TheConstants.{PUT, ADD, GET, DEL, FIRST_DECLARED}
use Rattle.tau_proc.specs.Takes.{is_table, takes_put, takes_add, takes_row}
use Rattle.tau_text.specs.declared.heads.Head.{Head}
use Rattle.tau_text.specs.declared.heads.Head.TheVariants as heads
use Rattle.tau_text.specs.declared.reading.Begun.{Begun}
use Rattle.tau_text.specs.declared.reading.Reading.{Reading}
use Rattle.tau_text.specs.Called.{called}
use Rattle.tau_text.specs.Canonical.{behind, line_text}
use Rattle.tau_text.specs.Forms.{names_of, number_value, literals, key_words, put_call, add_call, key_call, call_of, proc_call, args_at, head, room}
use Rattle.tau_text.specs.Lines.{lines}
use Rattle.tau_text.specs.Plain.{IsPlain, ArePlain}
use Rattle.tau_text.specs.Quick.{AreNames, AreNamed, IsNumbered, IsDeclared, IsRead, IsCallLine, IsLineRead}
use Rattle.tau_text.specs.Spelled.{is_digit, digits_after, magnitude, number, whole, literal, name, known, place_from, begins_with}
use Rattle.tau_text.specs.Text.{is_before, outer_read, statement_read, words_read}
use Rattle.tau_text.proofs.Binds.{bind_ok}
use Rattle.tau_text.proofs.Names.{place_here, place_later}
use Rattle.tau_text.proofs.PlainWords.{taken, digits_plain, name_spells}
use Rattle.tau_text.proofs.Texts.{statement_outside}
use Rattle.tau_text.proofs.WordLines.{AreWords, gaps, behind_gaps, text_is, line_ends, line_reads}

-- ---- numbers

pub no_digits : (text : List ℕ) → digits_after 0 (take 0 text) ≡ Some 0
unfolding digits_after
no_digits text = refl

digits_push : (w : List ℕ) (v n b : ℕ) → digits_after v w ≡ Some n → is_digit b ≡ true → digits_after v (w ++ b ∷ []) ≡ Some (n * 10 + (b - 48))
unfolding digits_after
digits_push [] v n b e d =
    let k : v ≡ n = cc in
    rw (d, k) refl
digits_push (c ∷ w) v n b e d =
    let p = taken (is_digit c) (digits_after (v * 10 + (c - 48)) w) n e in
    rw p.0 (digits_push w (v * 10 + (c - 48)) n b p.1 d)

-- one digit more
pub digit_more : (text : List ℕ) (i value next b : ℕ) → i < length text → b ≡ get_or text i 0 → 48 ≤ b → b ≤ 57 → next ≡ value * 10 + b - 48 → digits_after 0 (take i text) ≡ Some value → digits_after 0 (take (i + 1) text) ≡ Some next
digit_more text i value next b lt at low high is read =
    let test : is_digit b ≡ true = grind (arith, nat_tests) in
    let same : value * 10 + (b - 48) ≡ next = omega (arith, low, is) in
    ap (digits_after 0) (take_more text i 0 lt ∙ ap (λ (c : ℕ). take i text ++ c ∷ []) (sym at)) ∙ digits_push (take i text) 0 value b read test ∙ ap (λ (n : ℕ). Some n) same

pub few_more : (value i b : ℕ) → 48 ≤ b → b ≤ 57 → value < 10 ^ i → value * 10 + b - 48 < 10 ^ (i + 1)
few_more value i b low high few =
    let more : value * 10 + b - 48 < 10 ^ suc i = omega (arith, low, high, few) in
    subst (λ (k : ℕ). value * 10 + b - 48 < 10 ^ k) (sym (add-one i)) more

no_minus : (b : ℕ) → is_digit b ≡ true → (b == 45) ≡ false
no_minus b d = grind (arith, common_steps)

zero_value : (b value : ℕ) → (b == 48) ≡ true → digits_after 0 (b ∷ []) ≡ Some value → value ≡ 0
unfolding digits_after
zero_value b value z read =
    let p = taken (is_digit b) (Some (0 * 10 + (b - 48))) value read in
    let k : 0 * 10 + (b - 48) ≡ value = cc p.1 in
    let s : b ≡ 48 = (Decides-eqb b 48).0 z in
    omega (arith, k, s)

number_is : (b : ℕ) (bs : List ℕ) (value : ℕ) (t : Bool) → is_digit b ≡ true → (b == 48) ≡ t → (t ≡ true → length bs ≡ 0) → value < 10 ^ 18 → digits_after 0 (b ∷ bs) ≡ Some value → number (b ∷ bs) ≡ Some (pos value)
unfolding number magnitude
number_is b [] value true d z one few read = rw (no_minus b d, z) (ap (λ (n : ℕ). Some (pos n)) (sym (zero_value b value z read)))
number_is b (c ∷ bs) value true d z one few read = absurd (omega (arith, one refl))
number_is b bs value false d z one few read =
    let small : value ≤ 9223372036854775807 = omega (arith, few) in
    let fits : nat_le value 9223372036854775807 ≡ true = grind (arith, nat_tests) in
    rw (no_minus b d, z, read, fits) refl

first_is_digit : (b value : ℕ) (bs : List ℕ) → digits_after 0 (b ∷ bs) ≡ Some value → is_digit b ≡ true
unfolding digits_after
first_is_digit b value bs read = (taken (is_digit b) (digits_after (0 * 10 + (b - 48)) bs) value read).0

whole_is : (w : List ℕ) (z : ℤ) → number w ≡ Some z → whole w ≡ Ok z
unfolding whole
whole_is w z e = rw e refl

literal_is : (b : ℕ) (bs : List ℕ) (z : ℤ) → is_digit b ≡ true → whole (b ∷ bs) ≡ Ok z → literal (b ∷ bs) ≡ Ok (Int z)
unfolding literal
literal_is b bs z d e = rw (d, e) refl

-- a word of digits
record Spelled (w : List ℕ) (value : ℕ) : Type 0 where
  plain : IsPlain w
  whole : whole w ≡ Ok (pos value)
  literal : literal w ≡ Ok (Int (pos value))

word_is : (w : List ℕ) (value : ℕ) → 1 ≤ length w → ((get_or w 0 0 == 48) ≡ true → length w ≡ 1) → value < 10 ^ 18 → digits_after 0 w ≡ Some value → Spelled w value
word_is [] value some one few read = absurd (omega (arith, some))
word_is (b ∷ bs) value some one few read =
    let d = first_is_digit b value bs read in
    let n = number_is b bs value (b == 48) d refl (λ t. omega (arith, one t)) few read in
    let h = whole_is (b ∷ bs) (pos value) n in
    record { plain = record { bytes = digits_plain 0 value (b ∷ bs) read; some = omega arith }; whole = h; literal = literal_is b bs (pos value) d h }

first_taken : (count : ℕ) (text : List ℕ) → 1 ≤ count → get_or (take count text) 0 0 ≡ get_or text 0 0
first_taken zero text some = absurd (omega (arith, some))
first_taken (suc count) [] some = refl
first_taken (suc count) (b ∷ text) some = refl

numbered : (text : List ℕ) (count value end : ℕ) → 1 ≤ count → count < length text → ((get_or text 0 0 == 48) ≡ true → count ≡ 1) → value < 10 ^ 18 → digits_after 0 (take count text) ≡ Some value → get_or text count 0 ≡ end
    → IsNumbered text end value (take (length text - (count + 1)) (drop (count + 1) text))
numbered text count value end some lt one few read at =
    let long : length (take count text) ≡ count = length-take-le count text (omega (arith, lt)) in
    let w = word_is (take count text) value (omega (arith, long, some)) (λ t. long ∙ one (ap (λ (b : ℕ). b == 48) (sym (first_taken count text some)) ∙ t)) few read in
    let is : text ≡ take count text ++ end ∷ drop (count + 1) text = sym (take-append-drop count text) ∙ ap (λ (l : List ℕ). take count text ++ l) (drop-cons text count 0 lt) ∙ rw (at, add-one count) refl in
    record {
      word = take count text;
      is = is ∙ ap (λ (l : List ℕ). take count text ++ end ∷ l) (sym (take_rest text (count + 1)));
      plain = w.plain;
      whole = w.whole;
      literal = w.literal;
      few = few;
    }

pub numbered_one : (text : List ℕ) (count value end : ℕ) → count ≡ 1 → count < length text → value < 10 ^ 18 → digits_after 0 (take count text) ≡ Some value → get_or text count 0 ≡ end
    → IsNumbered text end value (take (length text - 2) (drop 2 text))
numbered_one text count value end one lt few read at =
    subst (λ (n : ℕ). IsNumbered text end value (take (length text - (n + 1)) (drop (n + 1) text))) one (numbered text count value end (omega (arith, one)) lt (λ _. one) few read at)

apart : (t : Bool) → t ≡ false → t ≡ true → ⊥
apart true e f = absurd cc
apart false e f = absurd cc

pub numbered_more : (text : List ℕ) (count value end : ℕ) → 1 ≤ count → count < length text → (get_or text 0 0 == 48) ≡ false → value < 10 ^ 18 → digits_after 0 (take count text) ≡ Some value → get_or text count 0 ≡ end
    → IsNumbered text end value (take (length text - (count + 1)) (drop (count + 1) text))
numbered_more text count value end some lt first few read at = numbered text count value end some lt (λ t. absurd (apart (get_or text 0 0 == 48) first t)) few read at

-- ---- names

-- none of the first so many names is the word with which a text begins
abbrev pub NotBefore : ℕ → List (List ℕ) → List ℕ → Type 0
NotBefore i names text = (word rest : List ℕ) → text ≡ word ++ 32 ∷ rest → place_from i word (drop i names) ≡ place_from 0 word names

pub none_before : (names : List (List ℕ)) (text : List ℕ) → NotBefore 0 names text
none_before names text word rest is = refl

not_same : (n word : List ℕ) (t : Bool) → bytes_eq n word ≡ t → (n ≡ word → ⊥) → t ≡ false
not_same n word true e h = absurd (h ((bytes_eq-Decides n word).0 e))
not_same n word false e h = refl

pub not_here : (i : ℕ) (n : List ℕ) (names : List (List ℕ)) (text : List ℕ) → i < length names → n ≡ get_or names i n → ((rest : List ℕ) → text ≡ n ++ 32 ∷ rest → ⊥) → NotBefore i names text → NotBefore (i + 1) names text
not_here i n names text lt at other before word rest is =
    let e = not_same n word (bytes_eq n word) refl (λ same. other rest (is ∙ ap (λ (w : List ℕ). w ++ 32 ∷ rest) (sym same))) in
    sym (place_later word n i names lt at e) ∙ before word rest is

known_is : (names : List (List ℕ)) (n : List ℕ) (i : ℕ) → name n ≡ Ok n → place_from 0 n names ≡ Some i → known names n ≡ Ok i
unfolding known
known_is names n i e p = rw (e, p) refl

pub name_here : (i : ℕ) (n : List ℕ) (names : List (List ℕ)) (text rest : List ℕ) → i < length names → n ≡ get_or names i n → AreNames names → NotBefore i names text → text ≡ n ++ 32 ∷ rest → IsDeclared names text i rest
name_here i n names text rest lt at named before is =
    let spelled : name n ≡ Ok n = subst (λ (w : List ℕ). name w ≡ Ok w) (sym at) (All-get_or (λ w. name w ≡ Ok w) names i n lt named) in
    let place : place_from 0 n names ≡ Some i = sym (before n rest is) ∙ place_here n n i names lt at ((bytes_eq-Decides n n).1 refl) in
    record { word = n; is = is; plain = (name_spells n n spelled).1; known = known_is names n i spelled place; within = lt }

pub proc_name : (p : Proc) (i : ℕ) (procs : List Proc) → p ≡ get_or procs i p → p.name ≡ get_or (names_of procs) i p.name
proc_name p i [] e = refl
proc_name p zero (q ∷ procs) e = ap (λ (r : Proc). r.name) e
proc_name p (suc i) (q ∷ procs) e = proc_name p i procs e

pub named_procs : (procs : List Proc) → AreNamed procs → AreNames (names_of procs)
named_procs procs h = All-map (λ n. name n ≡ Ok n) (λ p. p.name) procs h

pub names_length : (procs : List Proc) → length (names_of procs) ≡ length procs
names_length [] = refl
names_length (p ∷ procs) = ap suc (names_length procs)

-- ---- tables, rows and numbers

key_is : (tables : List (List ℕ)) (t k : List ℕ) (ws : List (List ℕ)) (n : ℕ) (z : ℤ) → known tables t ≡ Ok n → whole k ≡ Ok z → key_words tables (t ∷ k ∷ ws) ≡ Ok (number_value n ∷ Int z ∷ [], ws)
unfolding key_words
key_is tables t k ws n z e f = rw (e, f) refl

put_is : (tables : List (List ℕ)) (t k v : List ℕ) (n : ℕ) (z : ℤ) (x : Value) → known tables t ≡ Ok n → whole k ≡ Ok z → literal v ≡ Ok x → put_call tables (t ∷ k ∷ v ∷ []) ≡ Ok (number_value n ∷ Int z ∷ x ∷ [])
unfolding put_call
put_is tables t k v n z x e f g = rw (key_is tables t k (v ∷ []) n z e f, g) refl

add_is : (tables : List (List ℕ)) (t k v : List ℕ) (n : ℕ) (z x : ℤ) → known tables t ≡ Ok n → whole k ≡ Ok z → whole v ≡ Ok x → add_call tables (t ∷ k ∷ v ∷ []) ≡ Ok (number_value n ∷ Int z ∷ Int x ∷ [])
unfolding add_call
add_is tables t k v n z x e f g = rw (key_is tables t k (v ∷ []) n z e f, g) refl

two_are : (tables : List (List ℕ)) (t k : List ℕ) (n : ℕ) (z : ℤ) → known tables t ≡ Ok n → whole k ≡ Ok z → key_call tables (t ∷ k ∷ []) ≡ Ok (number_value n ∷ Int z ∷ [])
unfolding key_call
two_are tables t k n z e f = rw (key_is tables t k [] n z e f) refl

pub three_put : (tables : List (List ℕ)) (text a b rest : List ℕ) (n y z : ℕ) (args : List Value) → IsDeclared tables text n a → IsNumbered a 32 y b → IsNumbered b 10 z rest → args ≡ Int (pos n) ∷ Int (pos y) ∷ Int (pos z) ∷ [] → IsRead (put_call tables) text args rest
three_put tables text a b rest n y z args t k v same = record {
  words = t.word ∷ k.word ∷ v.word ∷ [];
  is = three_words t.word k.word v.word text a b rest t.is k.is v.is;
  plain = (t.plain, (k.plain, (v.plain, tt)));
  given = put_is tables t.word k.word v.word n (pos y) (Int (pos z)) t.known k.whole v.literal ∙ ap (λ (l : List Value). Ok l) (sym same);
}
  where
    three_words : (t k v text a b rest : List ℕ) → text ≡ t ++ 32 ∷ a → a ≡ k ++ 32 ∷ b → b ≡ v ++ 10 ∷ rest → 32 ∷ text ≡ behind (t ∷ k ∷ v ∷ []) ++ rest
    three_words t k v text a b rest e f g = rw (e, f, g) (simp append_assoc)

pub three_add : (tables : List (List ℕ)) (text a b rest : List ℕ) (n y z : ℕ) (args : List Value) → IsDeclared tables text n a → IsNumbered a 32 y b → IsNumbered b 10 z rest → args ≡ Int (pos n) ∷ Int (pos y) ∷ Int (pos z) ∷ [] → IsRead (add_call tables) text args rest
three_add tables text a b rest n y z args t k v same = record {
  words = t.word ∷ k.word ∷ v.word ∷ [];
  is = three_words t.word k.word v.word text a b rest t.is k.is v.is;
  plain = (t.plain, (k.plain, (v.plain, tt)));
  given = add_is tables t.word k.word v.word n (pos y) (pos z) t.known k.whole v.whole ∙ ap (λ (l : List Value). Ok l) (sym same);
}
  where
    three_words : (t k v text a b rest : List ℕ) → text ≡ t ++ 32 ∷ a → a ≡ k ++ 32 ∷ b → b ≡ v ++ 10 ∷ rest → 32 ∷ text ≡ behind (t ∷ k ∷ v ∷ []) ++ rest
    three_words t k v text a b rest e f g = rw (e, f, g) (simp append_assoc)

pub two_read : (tables : List (List ℕ)) (text a rest : List ℕ) (n y : ℕ) (args : List Value) → IsDeclared tables text n a → IsNumbered a 10 y rest → args ≡ Int (pos n) ∷ Int (pos y) ∷ [] → IsRead (key_call tables) text args rest
two_read tables text a rest n y args t k same = record {
  words = t.word ∷ k.word ∷ [];
  is = two_words t.word k.word text a rest t.is k.is;
  plain = (t.plain, (k.plain, tt));
  given = two_are tables t.word k.word n (pos y) t.known k.whole ∙ ap (λ (l : List Value). Ok l) (sym same);
}
  where
    two_words : (t k text a rest : List ℕ) → text ≡ t ++ 32 ∷ a → a ≡ k ++ 10 ∷ rest → 32 ∷ text ≡ behind (t ∷ k ∷ []) ++ rest
    two_words t k text a rest e f = rw (e, f) (simp append_assoc)

pub three_kept : (x y z : Value) (a b c d : List Value) → take 1 b ≡ take 0 a ++ x ∷ [] → take 2 c ≡ take 1 b ++ y ∷ [] → take 3 d ≡ take 2 c ++ z ∷ [] → take 3 d ≡ x ∷ y ∷ z ∷ []
three_kept x y z a b c d e f g = g ∙ ap (λ (l : List Value). l ++ z ∷ []) (f ∙ ap (λ (l : List Value). l ++ y ∷ []) e)

pub two_kept : (x y : Value) (a b c : List Value) → take 1 b ≡ take 0 a ++ x ∷ [] → take 2 c ≡ take 1 b ++ y ∷ [] → take 2 c ≡ x ∷ y ∷ []
two_kept x y a b c e f = f ∙ ap (λ (l : List Value). l ++ y ∷ []) e

pub few_signed : (n : ℕ) → n < 2 ^ 63 → to_z w64 n ≡ pos n
few_signed n few = to_z_pos w64 n few

table_there : (table : ℕ) → table < 65536 → is_table (pos table) ≡ true
table_there table lt =
    grind (arith, common_steps)

pub three_taken : (table y z : ℕ) (args : List Value) → table < 65536 → args ≡ Int (pos table) ∷ Int (pos y) ∷ Int (pos z) ∷ [] → IsTrue (takes_put args) × IsTrue (takes_add args)
three_taken table y z args lt e = rw (e, table_there table lt) (refl, refl)

pub two_taken : (table y : ℕ) (args : List Value) → table < 65536 → args ≡ Int (pos table) ∷ Int (pos y) ∷ [] → IsTrue (takes_row args)
two_taken table y args lt e = rw (e, table_there table lt) refl

-- ---- numbers, one after the other

-- of a text, to which a space is put in front, these words are read, each after a space; then come a space and the rest
pub record SoFar (n : ℕ) (text : List ℕ) (args : List Value) (rest : List ℕ) : Type 0 where
  pub words : List (List ℕ)
  pub is : 32 ∷ text ≡ gaps words ++ 32 ∷ rest
  pub plain : ArePlain words
  pub given : literals n words ≡ Ok (args, [])

pub none_read : (text : List ℕ) (args : List Value) → SoFar 0 text (take 0 args) text
unfolding literals
none_read text args = record { words = []; is = refl; plain = tt; given = refl }

plain_push : (ws : List (List ℕ)) (w : List ℕ) → ArePlain ws → IsPlain w → ArePlain (ws ++ w ∷ [])
plain_push [] w h p = (p, tt)
plain_push (v ∷ ws) w h p = (h.0, plain_push ws w h.1 p)

gaps_push : (ws : List (List ℕ)) (w : List ℕ) → gaps (ws ++ w ∷ []) ≡ gaps ws ++ 32 ∷ w
gaps_push [] w = append-nil (32 ∷ w)
gaps_push (v ∷ ws) w = ap (λ (l : List ℕ). 32 ∷ v ++ l) (gaps_push ws w) ∙ sym (append_assoc (32 ∷ v) (gaps ws) (32 ∷ w))

-- the first literal, and those after it
record Literals (n : ℕ) (u : List ℕ) (us : List (List ℕ)) (vs : List Value) : Type 0 where
  one : Value
  more : List Value
  first : literal u ≡ Ok one
  after : literals n us ≡ Ok (more, [])
  all : one ∷ more ≡ vs

literals_parts : (n : ℕ) (u : List ℕ) (us : List (List ℕ)) (vs : List Value) → literals (suc n) (u ∷ us) ≡ Ok (vs, []) → Literals n u us vs
unfolding literals
literals_parts n u us vs e =
    let a = bind_ok (literal u) _ (vs, []) e in
    let b = bind_ok (literals n us) _ (vs, []) a.2 in
    let k : (a.0 ∷ b.0.0, b.0.1) ≡ (vs, []) = cc b.2 in
    let end : b.0.1 ≡ [] = ap (λ (p : List Value × List (List ℕ)). p.1) k in
    record {
      one = a.0;
      more = b.0.0;
      first = a.1;
      after = b.1 ∙ ap (λ (l : List (List ℕ)). Ok (b.0.0, l)) end;
      all = ap (λ (p : List Value × List (List ℕ)). p.0) k;
    }

literals_one : (w : List ℕ) (v : Value) → literal w ≡ Ok v → literals 1 (w ∷ []) ≡ Ok (v ∷ [], [])
unfolding literals
literals_one w v f = rw f refl

literals_none : (ws : List (List ℕ)) (vs : List Value) → literals 0 ws ≡ Ok (vs, []) → (ws ≡ []) × (vs ≡ [])
unfolding literals
literals_none ws vs e =
    let k : ([], ws) ≡ (vs, []) = cc e in
    (ap (λ (p : List Value × List (List ℕ)). p.1) k, sym (ap (λ (p : List Value × List (List ℕ)). p.0) k))

literals_short : (n : ℕ) (vs : List Value) → literals (suc n) [] ≡ Ok (vs, []) → ⊥
unfolding literals
literals_short n vs e = absurd cc

literals_step : (n : ℕ) (u : List ℕ) (us : List (List ℕ)) (x : Value) (more : List Value) → literal u ≡ Ok x → literals n us ≡ Ok (more, []) → literals (suc n) (u ∷ us) ≡ Ok (x ∷ more, [])
unfolding literals
literals_step n u us x more e f = rw (e, f) refl

literals_push : (ws : List (List ℕ)) (n : ℕ) (w : List ℕ) (vs : List Value) (v : Value) → literals n ws ≡ Ok (vs, []) → literal w ≡ Ok v → literals (suc n) (ws ++ w ∷ []) ≡ Ok (vs ++ v ∷ [], [])
literals_push ws zero w vs v e f =
    let k = literals_none ws vs e in
    rw (k.0, k.1) (literals_one w v f)
literals_push [] (suc n) w vs v e f = absurd (literals_short n vs e)
literals_push (u ∷ us) (suc n) w vs v e f =
    let p = literals_parts n u us vs e in
    literals_step (suc n) u (us ++ w ∷ []) p.one (p.more ++ v ∷ []) p.first (literals_push us n w p.more v p.after f) ∙ ap (λ (l : List Value). Ok (l ++ v ∷ [], [])) p.all

pub one_more : (n : ℕ) (text : List ℕ) (args more : List Value) (rest behind : List ℕ) (z : ℕ) → SoFar n text (take n args) rest → IsNumbered rest 32 z behind → take (n + 1) more ≡ take n args ++ Int (pos z) ∷ [] → SoFar (n + 1) text (take (n + 1) more) behind
one_more n text args more rest behind z s k same = record {
  words = s.words ++ k.word ∷ [];
  is = s.is ∙ ap (λ (l : List ℕ). gaps s.words ++ 32 ∷ l) k.is ∙ sym (append_assoc (gaps s.words) (32 ∷ k.word) (32 ∷ behind)) ∙ ap (λ (l : List ℕ). l ++ 32 ∷ behind) (sym (gaps_push s.words k.word));
  plain = plain_push s.words k.word s.plain k.plain;
  given = ap (λ (i : ℕ). literals i (s.words ++ k.word ∷ [])) (add-one n) ∙ literals_push s.words n k.word (take n args) (Int (pos z)) s.given k.literal ∙ ap (λ (l : List Value). Ok (l, [])) (sym same);
}

pub last_one : (n : ℕ) (text : List ℕ) (args more : List Value) (rest after : List ℕ) (z : ℕ) → SoFar n text (take n args) rest → IsNumbered rest 10 z after → more ≡ take n args ++ Int (pos z) ∷ [] → IsRead (literals (n + 1)) text (more, []) after
last_one n text args more rest after z s k same = record {
  words = s.words ++ k.word ∷ [];
  is = s.is ∙ ap (λ (l : List ℕ). gaps s.words ++ 32 ∷ l) k.is ∙ sym (append_assoc (gaps s.words) (32 ∷ k.word) (10 ∷ after)) ∙ ap (λ (l : List ℕ). l ++ 10 ∷ after) (sym (gaps_push s.words k.word))
      ∙ sym (append_assoc (gaps (s.words ++ k.word ∷ [])) (10 ∷ []) after) ∙ ap (λ (l : List ℕ). l ++ after) (sym (behind_gaps (s.words ++ k.word ∷ [])));
  plain = plain_push s.words k.word s.plain k.plain;
  given = ap (λ (i : ℕ). literals i (s.words ++ k.word ∷ [])) (add-one n) ∙ literals_push s.words n k.word (take n args) (Int (pos z)) s.given k.literal ∙ ap (λ (l : List Value). Ok (l, [])) (sym same);
}

-- ---- lines of calls

pub put_called : (tables : List (List ℕ)) (procs : List Proc) (text : List ℕ) (args : List Value) (rest : List ℕ) → IsRead (put_call tables) text args rest → IsRead (called tables procs heads.Put) text (call_of PUT args) rest
unfolding called
put_called tables procs text args rest r = record { words = r.words; is = r.is; plain = r.plain; given = rw r.given refl }

pub add_called : (tables : List (List ℕ)) (procs : List Proc) (text : List ℕ) (args : List Value) (rest : List ℕ) → IsRead (add_call tables) text args rest → IsRead (called tables procs heads.Add) text (call_of ADD args) rest
unfolding called
add_called tables procs text args rest r = record { words = r.words; is = r.is; plain = r.plain; given = rw r.given refl }

pub get_called : (tables : List (List ℕ)) (procs : List Proc) (text : List ℕ) (args : List Value) (rest : List ℕ) → IsRead (key_call tables) text args rest → IsRead (called tables procs heads.Get) text (call_of GET args) rest
unfolding called
get_called tables procs text args rest r = record { words = r.words; is = r.is; plain = r.plain; given = rw r.given refl }

pub del_called : (tables : List (List ℕ)) (procs : List Proc) (text : List ℕ) (args : List Value) (rest : List ℕ) → IsRead (key_call tables) text args rest → IsRead (called tables procs heads.Del) text (call_of DEL args) rest
unfolding called
del_called tables procs text args rest r = record { words = r.words; is = r.is; plain = r.plain; given = rw r.given refl }

pub declared_called : (tables : List (List ℕ)) (procs : List Proc) (text after : List ℕ) (args : List Value) (rest : List ℕ) (i n : ℕ) → args_at i procs ≡ n → IsDeclared (names_of procs) text i after → IsRead (literals n) after (args, []) rest
    → IsRead (called tables procs heads.Call) text (call_of (FIRST_DECLARED + i) args) rest
unfolding called proc_call
declared_called tables procs text after args rest i n count d r = record {
  words = d.word ∷ r.words;
  is = ap (λ (l : List ℕ). 32 ∷ l) d.is ∙ ap (λ (l : List ℕ). 32 ∷ d.word ++ l) r.is ∙ sym (append_assoc (32 ∷ d.word) (behind r.words) rest);
  plain = (d.plain, r.plain);
  given = rw (d.known, count, r.given) refl;
}

pub call_head : head (codes "call") ≡ Ok heads.Call
unfolding head
call_head = refl

pub add_head : head (codes "add") ≡ Ok heads.Add
unfolding head
add_head = refl

pub put_head : head (codes "put") ≡ Ok heads.Put
unfolding head
put_head = refl

pub get_head : head (codes "get") ≡ Ok heads.Get
unfolding head
get_head = refl

pub del_head : head (codes "del") ≡ Ok heads.Del
unfolding head
del_head = refl

pub some_line : {X : Type 0} (Q S : X → Type 0) (o : Option X) → ((x : X) → Q x → S x) → IfSome o Q → IfSome o S
some_line Q S None f m = tt
some_line Q S (Some x) f m = f x m

pub line_is : (tables : List (List ℕ)) (procs : List Proc) (text word after : List ℕ) (call : Call) (rest : List ℕ) (kind : Head) → text ≡ word ++ 32 ∷ after → IsPlain word → begins_with 35 word ≡ false → head word ≡ Ok kind
    → IsRead (called tables procs kind) after call rest → IsCallLine tables procs text call rest
line_is tables procs text word after call rest kind is plain said begins r = record { word = word; kind = kind; after = after; is = is; plain = plain; no_comment = said; begins = begins; called = r }

-- ---- what such a line says

are_words : (ws : List (List ℕ)) → ArePlain ws → AreWords ws
are_words [] h = tt
are_words (w ∷ ws) h = (inl h.0, are_words ws h.1)

room_there : (s : Reading) → length s.calls < MAX_CALLS → room MAX_CALLS (length s.calls) ≡ Ok tt
room_there s lt =
    let t : nat_lt (length s.calls) MAX_CALLS ≡ true = grind (arith, nat_tests) in
    rw t refl

outer_call : (s : Reading) (n : ℕ) (kind : Head) (all ws : List (List ℕ)) (call : Call) → called s.tables s.procs kind ws ≡ Ok call → s.turns ≡ None → length s.calls < MAX_CALLS
    → (is_before kind s ≡ true) × (outer_read s n kind all ws ≡ Ok (record s { calls = s.calls ++ call ∷ [] }))
unfolding called is_before outer_read
outer_call s n heads.Put all ws call e f lt = (rw f refl, rw (e, room_there s lt) refl)
outer_call s n heads.Add all ws call e f lt = (rw f refl, rw (e, room_there s lt) refl)
outer_call s n heads.Get all ws call e f lt = (rw f refl, rw (e, room_there s lt) refl)
outer_call s n heads.Del all ws call e f lt = (rw f refl, rw (e, room_there s lt) refl)
outer_call s n heads.Call all ws call e f lt = (rw f refl, rw (e, room_there s lt) refl)
outer_call s n heads.Table all ws call e f lt = absurd cc
outer_call s n heads.Proc all ws call e f lt = absurd cc
outer_call s n heads.Turns all ws call e f lt = absurd cc

call_words : (s : Reading) (n : ℕ) (w : List ℕ) (ws : List (List ℕ)) (kind : Head) (call : Call) → s.begun ≡ None → begins_with 35 w ≡ false → head w ≡ Ok kind → called s.tables s.procs kind ws ≡ Ok call → s.turns ≡ None → length s.calls < MAX_CALLS
    → words_read s n (w ∷ ws) ≡ Ok (record s { calls = s.calls ++ call ∷ [] })
unfolding words_read
call_words s n w ws kind call outside said begins e f lt =
    let o = outer_call s n kind (w ∷ ws) ws call e f lt in
    let told : words_read s n (w ∷ ws) ≡ statement_read s n s.begun w ws = rw said refl in
    told ∙ ap (λ (b : Option Begun). statement_read s n b w ws) outside ∙ statement_outside s n w ws kind begins o.0 ∙ o.1

pub call_line : (s : Reading) (n : ℕ) (text rest : List ℕ) (call : Call) → IsCallLine s.tables s.procs text call rest → s.begun ≡ None → s.turns ≡ None → length s.calls < MAX_CALLS → IsLineRead s n text (record s { calls = s.calls ++ call ∷ [] }) rest
call_line s n text rest call c outside f lt =
    let r = c.called in
    let h : AreWords (c.word ∷ r.words) = (inl c.plain, are_words r.words r.plain) in
    let told : text ≡ line_text (c.word ∷ r.words) ++ rest = c.is ∙ ap (λ (l : List ℕ). c.word ++ l) r.is ∙ sym (append_assoc c.word (behind r.words) rest) in
    let front = c.word ++ gaps r.words in
    let cut : text ≡ front ++ 10 ∷ rest = told ∙ ap (λ (l : List ℕ). l ++ rest) (text_is c.word r.words) ∙ append_assoc front (10 ∷ []) rest in
    let some : 0 < length (line_text (c.word ∷ r.words)) = omega (arith, c.plain.some, length-append c.word (behind r.words)) in
    record {
      line = line_text (c.word ∷ r.words);
      cut = ap lines told ∙ line_ends c.word r.words rest h;
      read = line_reads s n c.word r.words h ∙ call_words s n c.word r.words c.kind call outside c.no_comment c.begins r.given f lt;
      some = some;
      long = sym (ap length told ∙ length-append (line_text (c.word ∷ r.words)) rest);
      utf8 = λ u. rest_utf8 front rest (subst IsUtf8 cut u);
    }
  where
    rest_utf8 : (front rest : List ℕ) → IsUtf8 (front ++ 10 ∷ rest) → IsUtf8 rest
    rest_utf8 front rest u =
        let at : get_or (front ++ 10 ∷ rest) (length front) 0 ≡ 10 = get_or-append_seam front 10 rest 0 in
        let small : get_or (front ++ 10 ∷ rest) (length front) 0 < 128 = omega (arith, at) in
        let lt : length front < length (front ++ 10 ∷ rest) = omega (arith, length-append front (10 ∷ rest)) in
        subst IsUtf8 (drop-append-add front (10 ∷ rest) 1) (IsUtf8-drop (front ++ 10 ∷ rest) (length front + 1) u (IsCharBoundary-after_ascii (front ++ 10 ∷ rest) (length front) u lt small))
