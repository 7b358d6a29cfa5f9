-- Words as bytes: a line of words is cut into these words again.
use Rattle.std.proofs.Common.{◌≡◌, ℕ, zero, suc, ◌+◌, ◌≤◌, ◌<◌, ◌==◌, Bool, true, false, not, ◌&&◌, nat_lt, nat_le, get_or, List, [], ◌∷◌, ◌++◌, length, Result, Ok, IsUtf8, refl, sym, ap, ◌∙◌, append_assoc, inl, inr, arith}
use Rattle.std.specs.List.{list_all}
use Rattle.std.specs.Str.{is_utf8}
use Rattle.std.proofs.lemmas.Grind.{common_steps}
use Rattle.std.proofs.lemmas.Bool.{and_parts}
use Rattle.std.proofs.lemmas.List.Folds.{list_all-append}
use Rattle.std.proofs.lemmas.Str.{IsUtf8-append, IsUtf8-nil, IsUtf8-from_ascii, is_utf8-from_IsUtf8}
use Rattle.tau_base.specs.declared.limits.TheConstants.{MAX_WORKLOAD}
use Rattle.tau_text.specs.declared.reading.Reading.{Reading}
use Rattle.tau_text.specs.declared.fault.TextCause.{TextCause}
use Rattle.tau_text.specs.declared.fault.TextFault.{TextFault}
use Rattle.tau_text.specs.Given.{◌>>=◌}
use Rattle.tau_text.specs.Lines.{Between, Plain, Quoted, lines, body, words, words_from}
use Rattle.tau_text.specs.Canonical.{behind, line_text, text_word}
use Rattle.tau_text.specs.Plain.{is_plain, IsPlain}
use Rattle.tau_text.specs.Spelled.{is_text_byte}
use Rattle.tau_text.specs.Forms.{within}
use Rattle.tau_text.specs.Text.{words_read, line_read, at_line, lines_read}
use Rattle.tau_text.proofs.PlainWords.{IsWord, all_more}

abbrev pub AreWords : List (List ℕ) → Type 0
AreWords [] = Unit {0}
AreWords (w ∷ ws) = IsWord w × AreWords ws

-- the words after the first, each after a space
abbrev pub gaps : List (List ℕ) → List ℕ
gaps [] = []
gaps (w ∷ ws) = 32 ∷ w ++ gaps ws

pub behind_gaps : (ws : List (List ℕ)) → behind ws ≡ gaps ws ++ 10 ∷ []
behind_gaps [] = refl
behind_gaps (w ∷ ws) = ap (λ t. 32 ∷ w ++ t) (behind_gaps ws) ∙ sym (append_assoc (32 ∷ w) (gaps ws) (10 ∷ []))

abbrev in_line : ℕ → Bool
in_line b = not (b == 10)

not_true : (b : Bool) → not b ≡ true → b ≡ false
not_true true e = absurd cc
not_true false e = refl

both : (p : ℕ → Bool) (a b : List ℕ) → list_all p a ≡ true → list_all p b ≡ true → list_all p (a ++ b) ≡ true
both p a b e f = list_all-append p a b ∙ rw (e, f) refl

-- ---- no word has a byte 10

plain_in_line : (b : ℕ) → is_plain b ≡ true → in_line b ≡ true
plain_in_line b e = grind (arith, common_steps)

text_in_line : (b : ℕ) → is_text_byte b ≡ true → in_line b ≡ true
text_in_line b e =
    let l : 32 ≤ b = grind (arith, common_steps) in
    grind (arith, common_steps)

word_in_line : (w : List ℕ) → IsWord w → list_all in_line w ≡ true
word_in_line w (inl p) = all_more is_plain in_line w plain_in_line p.bytes
word_in_line w (inr t) = rw t.quoted (both in_line t.inside (34 ∷ []) (all_more is_text_byte in_line t.inside text_in_line t.bytes) refl)

gaps_in_line : (ws : List (List ℕ)) → AreWords ws → list_all in_line (gaps ws) ≡ true
gaps_in_line [] h = refl
gaps_in_line (w ∷ ws) h = both in_line w (gaps ws) (word_in_line w h.0) (gaps_in_line ws h.1)

line_cut : (l more : List ℕ) → list_all in_line l ≡ true → lines ((l ++ 10 ∷ []) ++ more) ≡ (l ++ 10 ∷ []) ∷ lines more
unfolding lines
line_cut [] more e = refl
line_cut (b ∷ l) more e =
    let p = and_parts (in_line b) (list_all in_line l) e in
    let s = not_true (b == 10) p.0 in
    rw (s, line_cut l more p.1) refl

line_body : (l : List ℕ) → list_all in_line l ≡ true → body (l ++ 10 ∷ []) ≡ l
unfolding body
line_body [] e = refl
line_body (b ∷ l) e =
    let p = and_parts (in_line b) (list_all in_line l) e in
    let s = not_true (b == 10) p.0 in
    rw (s, line_body l p.1) refl

-- ---- the words of a line again

plain_parts : (b : ℕ) → is_plain b ≡ true → ((b == 32) ≡ false) × ((b == 34) ≡ false)
plain_parts b e =
    let p = and_parts (not (b == 32) && not (b == 34) && not (b == 10)) (nat_lt b 128) e in
    let q = and_parts (not (b == 32) && not (b == 34)) (not (b == 10)) p.0 in
    let r = and_parts (not (b == 32)) (not (b == 34)) q.0 in
    (not_true (b == 32) r.0, not_true (b == 34) r.1)

plain_tail : (bs : List ℕ) (ws : List (List ℕ)) → list_all is_plain bs ≡ true → words_from Plain (bs ++ gaps ws) ≡ bs ∷ words_from Between (gaps ws)
unfolding words_from
plain_tail [] [] e = refl
plain_tail [] (w ∷ ws) e = refl
plain_tail (b ∷ bs) ws e =
    let p = and_parts (is_plain b) (list_all is_plain bs) e in
    rw ((plain_parts b p.0).0, plain_tail bs ws p.1) refl

text_no_quote : (b : ℕ) → is_text_byte b ≡ true → (b == 34) ≡ false
text_no_quote b e =
    let p = and_parts (nat_le 32 b && not (b == 34) && not (b == 92)) (not (b == 127)) e in
    let q = and_parts (nat_le 32 b && not (b == 34)) (not (b == 92)) p.0 in
    let r = and_parts (nat_le 32 b) (not (b == 34)) q.0 in
    not_true (b == 34) r.1

quoted_tail : (t : List ℕ) (ws : List (List ℕ)) → list_all is_text_byte t ≡ true → words_from Quoted ((t ++ 34 ∷ []) ++ gaps ws) ≡ (t ++ 34 ∷ []) ∷ words_from Between (gaps ws)
unfolding words_from
quoted_tail [] ws e = rw (plain_tail [] ws refl) refl
quoted_tail (b ∷ t) ws e =
    let p = and_parts (is_text_byte b) (list_all is_text_byte t) e in
    rw (text_no_quote b p.0, quoted_tail t ws p.1) refl

plain_word : (w : List ℕ) (ws : List (List ℕ)) → IsPlain w → words (w ++ gaps ws) ≡ w ∷ words_from Between (gaps ws)
unfolding words_from
plain_word [] ws p = absurd (omega (arith, p.some))
plain_word (b ∷ bs) ws p =
    let q = and_parts (is_plain b) (list_all is_plain bs) p.bytes in
    let r = plain_parts b q.0 in
    rw (r.0, r.1, plain_tail bs ws q.1) refl

quoted_word : (t : List ℕ) (ws : List (List ℕ)) → list_all is_text_byte t ≡ true → words (text_word t ++ gaps ws) ≡ text_word t ∷ words_from Between (gaps ws)
unfolding words_from
quoted_word t ws e = rw (quoted_tail t ws e) refl

first_word : (w : List ℕ) (ws : List (List ℕ)) → IsWord w → words (w ++ gaps ws) ≡ w ∷ words_from Between (gaps ws)
first_word w ws (inl p) = plain_word w ws p
first_word w ws (inr t) = rw t.quoted (quoted_word t.inside ws t.bytes)

gap_words : (ws : List (List ℕ)) → AreWords ws → words_from Between (gaps ws) ≡ ws
unfolding words_from
gap_words [] h = refl
gap_words (w ∷ ws) h = first_word w ws h.0 ∙ ap (λ vs. w ∷ vs) (gap_words ws h.1)

pub words_again : (w : List ℕ) (ws : List (List ℕ)) → AreWords (w ∷ ws) → words (w ++ gaps ws) ≡ w ∷ ws
words_again w ws h = first_word w ws h.0 ∙ ap (λ vs. w ∷ vs) (gap_words ws h.1)

-- ---- a line of words is a text

small_at : (bs : List ℕ) (i : ℕ) → list_all is_plain bs ≡ true → get_or bs i 0 < 128
small_at [] i e = omega arith
small_at (b ∷ bs) zero e =
    let p = and_parts (is_plain b) (list_all is_plain bs) e in
    let q = and_parts (not (b == 32) && not (b == 34) && not (b == 10)) (nat_lt b 128) p.0 in
    grind (arith, common_steps)
small_at (b ∷ bs) (suc i) e = small_at bs i (and_parts (is_plain b) (list_all is_plain bs) e).1

byte_at : (b i : ℕ) → b < 128 → get_or (b ∷ []) i 0 < 128
byte_at b zero lt = lt
byte_at b (suc i) lt = omega arith

byte_utf8 : (b : ℕ) → b < 128 → IsUtf8 (b ∷ [])
byte_utf8 b lt = IsUtf8-from_ascii (b ∷ []) (λ i. byte_at b i lt)

word_utf8 : (w : List ℕ) → IsWord w → IsUtf8 w
word_utf8 w (inl p) = IsUtf8-from_ascii w (λ i. small_at w i p.bytes)
word_utf8 w (inr t) = rw t.quoted (IsUtf8-append (34 ∷ []) (t.inside ++ 34 ∷ []) (byte_utf8 34 (omega arith)) (IsUtf8-append t.inside (34 ∷ []) t.utf8 (byte_utf8 34 (omega arith))))

gaps_utf8 : (ws : List (List ℕ)) → AreWords ws → IsUtf8 (gaps ws)
gaps_utf8 [] h = IsUtf8-nil
gaps_utf8 (w ∷ ws) h = IsUtf8-append (32 ∷ []) (w ++ gaps ws) (byte_utf8 32 (omega arith)) (IsUtf8-append w (gaps ws) (word_utf8 w h.0) (gaps_utf8 ws h.1))

pub line_again : (s : Reading) (n : ℕ) (w : List ℕ) (ws : List (List ℕ)) → AreWords (w ∷ ws) → line_read s n (w ++ gaps ws) ≡ words_read s n (w ∷ ws)
unfolding line_read
line_again s n w ws h =
    let u : is_utf8 (w ++ gaps ws) ≡ true = is_utf8-from_IsUtf8 (w ++ gaps ws) (IsUtf8-append w (gaps ws) (word_utf8 w h.0) (gaps_utf8 ws h.1)) in
    rw (u, words_again w ws h) refl

-- ---- a line of words, and more lines

pub text_is : (w : List ℕ) (ws : List (List ℕ)) → line_text (w ∷ ws) ≡ (w ++ gaps ws) ++ 10 ∷ []
text_is w ws = ap (λ t. w ++ t) (behind_gaps ws) ∙ sym (append_assoc w (gaps ws) (10 ∷ []))

fits : (n : ℕ) → n ≤ MAX_WORKLOAD → within MAX_WORKLOAD n ≡ Ok tt
fits n le =
    let t : nat_le n MAX_WORKLOAD ≡ true = grind (arith, common_steps) in
    rw t refl

pub next : {A B : Type 0} (r : Result A TextFault) (f : A → Result B TextFault) (x : A) (y : Result B TextFault) → r ≡ Ok x → f x ≡ y → (r >>= f) ≡ y
next r f x y e g = rw e g

at_same : {A : Type 0} (n : ℕ) (r : Result A TextCause) (x : A) → r ≡ Ok x → at_line n r ≡ Ok x
at_same n r x e = rw e refl

pub line_ends : (w : List ℕ) (ws : List (List ℕ)) (more : List ℕ) → AreWords (w ∷ ws) → lines (line_text (w ∷ ws) ++ more) ≡ line_text (w ∷ ws) ∷ lines more
line_ends w ws more h =
    let l = w ++ gaps ws in
    let nl : list_all in_line l ≡ true = both in_line w (gaps ws) (word_in_line w h.0) (gaps_in_line ws h.1) in
    ap (λ x. lines (x ++ more)) (text_is w ws) ∙ line_cut l more nl ∙ ap (λ x. x ∷ lines more) (sym (text_is w ws))

pub line_reads : (s : Reading) (n : ℕ) (w : List ℕ) (ws : List (List ℕ)) → AreWords (w ∷ ws) → line_read s n (body (line_text (w ∷ ws))) ≡ words_read s n (w ∷ ws)
line_reads s n w ws h =
    let l = w ++ gaps ws in
    let nl : list_all in_line l ≡ true = both in_line w (gaps ws) (word_in_line w h.0) (gaps_in_line ws h.1) in
    let inside : body (line_text (w ∷ ws)) ≡ l = ap body (text_is w ws) ∙ line_body l nl in
    ap (line_read s n) inside ∙ line_again s n w ws h

pub one_line : (s t : Reading) (n past : ℕ) (w : List ℕ) (ws : List (List ℕ)) (more : List ℕ) (r : Result Reading TextFault) → AreWords (w ∷ ws) → words_read s n (w ∷ ws) ≡ Ok t → past + length (line_text (w ∷ ws)) ≤ MAX_WORKLOAD
    → lines_read t (n + 1) (past + length (line_text (w ∷ ws))) (lines more) ≡ r → lines_read s n past (lines (line_text (w ∷ ws) ++ more)) ≡ r
unfolding lines_read
one_line s t n past w ws more r h e le f =
    let cut = line_ends w ws more h in
    let read : line_read s n (body (line_text (w ∷ ws))) ≡ Ok t = line_reads s n w ws h ∙ e in
    ap (lines_read s n past) cut ∙ next (at_line n (line_read s n (body (line_text (w ∷ ws))))) _ t r (at_same n (line_read s n (body (line_text (w ∷ ws)))) t read)
    (next (at_line n (within MAX_WORKLOAD (past + length (line_text (w ∷ ws))))) _ tt r (at_same n (within MAX_WORKLOAD (past + length (line_text (w ∷ ws)))) tt (fits (past + length (line_text (w ∷ ws))) le)) f)
