-- Where a line and a word end.
use Rattle.std.proofs.Common.{◌≡◌, ◌≢◌, ℕ, zero, suc, ◌+◌, ◌-◌, ◌<◌, ◌≤◌, ◌==◌, Bool, true, false, cond, not, List, [], ◌∷◌, length, take, drop, get_or, length-drop, IsUtf8, refl, sym, ap, ◌∙◌, arith}
use Rattle.std.proofs.lemmas.Grind.{common_steps}
use Rattle.std.specs.List.{position_or_len}
use Rattle.std.proofs.lemmas.List.{take_all}
use Rattle.std.proofs.lemmas.Str.{IsUtf8-nil, IsUtf8-take, IsUtf8-drop, IsCharBoundary-before_ascii, IsCharBoundary-after_ascii}
use Rattle.tau_text.specs.Lines.{Between, Plain, Quoted, onto, lines, body, words, words_from}

one_add : (n : ℕ) → 1 + n ≡ suc n
one_add n = omega arith

abbrev pub place : ℕ → List ℕ → ℕ
place b bs = position_or_len (λ x. x == b) bs

-- ---- lines

lines_step : (v : Bool) (b p : ℕ) (bs : List ℕ) → (v ≡ false → lines bs ≡ take (p + 1) bs ∷ lines (drop (p + 1) bs))
    → cond v ((b ∷ []) ∷ lines bs) (onto b (lines bs)) ≡ take (cond (not v) (1 + p) 0 + 1) (b ∷ bs) ∷ lines (drop (cond (not v) (1 + p) 0 + 1) (b ∷ bs))
lines_step true b p bs h = refl
lines_step false b p bs h =
    let e : 1 + p ≡ suc p = omega arith in
    let f : suc p + 1 ≡ suc (p + 1) = omega arith in
    rw (h refl, e, f) refl

lines_short : (v : Bool) (p n : ℕ) → cond (not v) (1 + p) 0 < suc n → v ≡ false → p < n
lines_short true p n h e = absurd cc
lines_short false p n h e = omega arith

pub lines_cut : (bs : List ℕ) → place 10 bs < length bs → lines bs ≡ take (place 10 bs + 1) bs ∷ lines (drop (place 10 bs + 1) bs)
unfolding lines
lines_cut [] h = absurd (omega arith)
lines_cut (b ∷ bs) h = lines_step (b == 10) b (place 10 bs) bs (λ e. lines_cut bs (lines_short (b == 10) (place 10 bs) (length bs) h e))

whole_step : (v : Bool) (b p : ℕ) (bs : List ℕ) → cond (not v) (1 + p) 0 ≡ suc (length bs) → (p ≡ length bs → onto b (lines bs) ≡ (b ∷ bs) ∷ [])
    → cond v ((b ∷ []) ∷ lines bs) (onto b (lines bs)) ≡ (b ∷ bs) ∷ []
whole_step true b p bs e h = absurd (omega arith)
whole_step false b p bs e h = h (omega arith)

pub lines_whole : (bs : List ℕ) → 0 < length bs → place 10 bs ≡ length bs → lines bs ≡ bs ∷ []
unfolding lines
lines_whole [] lt e = absurd (omega arith)
lines_whole (b ∷ []) lt e = whole_step (b == 10) b 0 [] e (λ _. refl)
lines_whole (b ∷ c ∷ bs) lt e = whole_step (b == 10) b (place 10 (c ∷ bs)) (c ∷ bs) e (λ f. ap (onto b) (lines_whole (c ∷ bs) (omega arith) f))

body_step : (v : Bool) (b p : ℕ) (bs : List ℕ) → body (take (p + 1) bs) ≡ take p bs
    → (b == 10) ≡ v → body (take (cond (not v) (1 + p) 0 + 1) (b ∷ bs)) ≡ take (cond (not v) (1 + p) 0) (b ∷ bs)
unfolding body
body_step true b p bs h e = rw e refl
body_step false b p bs h e =
    let s : 1 + p ≡ suc p = omega arith in
    let f : suc p + 1 ≡ suc (p + 1) = omega arith in
    rw (s, f, e, h) refl

pub body_cut : (bs : List ℕ) → body (take (place 10 bs + 1) bs) ≡ take (place 10 bs) bs
unfolding body
body_cut [] = refl
body_cut (b ∷ bs) = body_step (b == 10) b (place 10 bs) bs (body_cut bs) refl

-- ---- words

plain_step : (v : Bool) (b p : ℕ) (bs : List ℕ) → (b == 32) ≡ v → words_from Plain bs ≡ take p bs ∷ words_from Between (drop p bs)
    → cond v ([] ∷ words_from Between bs) (onto b (words_from Plain bs)) ≡ take (cond (not v) (1 + p) 0) (b ∷ bs) ∷ words_from Between (drop (cond (not v) (1 + p) 0) (b ∷ bs))
unfolding words_from
plain_step true b p bs e h = rw e refl
plain_step false b p bs e h =
    let s : 1 + p ≡ suc p = omega arith in
    rw (h, s) refl

pub plain_cut : (bs : List ℕ) → words_from Plain bs ≡ take (place 32 bs) bs ∷ words_from Between (drop (place 32 bs) bs)
unfolding words_from
plain_cut [] = refl
plain_cut (b ∷ bs) = plain_step (b == 32) b (place 32 bs) bs refl (plain_cut bs)

quoted_step : (v : Bool) (b q n r : ℕ) (bs : List ℕ) → n ≡ cond (not v) (1 + q) 0 → r ≡ place 32 (drop (n + 1) (b ∷ bs))
    → (v ≡ false → (r ≡ place 32 (drop (q + 1) bs)) → words_from Quoted bs ≡ take (q + 1 + r) bs ∷ words_from Between (drop (q + 1 + r) bs))
    → onto b (words_from (cond v Plain Quoted) bs) ≡ take (n + 1 + r) (b ∷ bs) ∷ words_from Between (drop (n + 1 + r) (b ∷ bs))
quoted_step true b q n r bs e f h =
    let g : r ≡ place 32 bs = f ∙ rw e refl in
    let k : n + 1 + r ≡ suc (place 32 bs) = omega arith in
    rw (plain_cut bs, k) refl
quoted_step false b q n r bs e f h =
    let m : n + 1 ≡ suc (q + 1) = omega arith in
    let g : r ≡ place 32 (drop (q + 1) bs) = f ∙ rw m refl in
    let k : n + 1 + r ≡ suc (q + 1 + r) = omega arith in
    rw (h refl g, k) refl

pub quoted_cut : (bs : List ℕ) (r : ℕ) → place 34 bs < length bs → r ≡ place 32 (drop (place 34 bs + 1) bs)
    → words_from Quoted bs ≡ take (place 34 bs + 1 + r) bs ∷ words_from Between (drop (place 34 bs + 1 + r) bs)
unfolding words_from
quoted_cut [] r lt e = absurd (omega arith)
quoted_cut (b ∷ bs) r lt e = quoted_step (b == 34) b (place 34 bs) (place 34 (b ∷ bs)) r bs refl e (λ f g. quoted_cut bs r (lines_short (b == 34) (place 34 bs) (length bs) lt f) g)

open_step : (v : Bool) (b p : ℕ) (bs : List ℕ) → cond (not v) (1 + p) 0 ≡ suc (length bs) → (p ≡ length bs → words_from Quoted bs ≡ bs ∷ [])
    → onto b (words_from (cond v Plain Quoted) bs) ≡ (b ∷ bs) ∷ []
open_step true b p bs e h = absurd (omega arith)
open_step false b p bs e h = rw (h (omega arith)) refl

pub quoted_open : (bs : List ℕ) → place 34 bs ≡ length bs → words_from Quoted bs ≡ bs ∷ []
unfolding words_from
quoted_open [] e = refl
quoted_open (b ∷ bs) e = open_step (b == 34) b (place 34 bs) bs e (λ f. quoted_open bs f)

-- ---- the first word of a line that begins with no space

not_same : (b c : ℕ) → b ≢ c → (b == c) ≡ false
not_same b c h = grind (arith, common_steps)

pub word_plain : (line : List ℕ) (n : ℕ) → 0 < length line → get_or line 0 0 ≢ 32 → get_or line 0 0 ≢ 34 → n ≡ place 32 line
    → words line ≡ take n line ∷ words (drop n line)
unfolding words_from
word_plain [] n lt h k e = absurd (omega arith)
word_plain (b ∷ bs) n lt h k e =
    let s = not_same b 32 h in
    let t = not_same b 34 k in
    let f : n ≡ suc (place 32 bs) = e ∙ rw s (one_add (place 32 bs)) in
    rw (f, s, t, plain_cut bs) refl

pub word_quoted : (line : List ℕ) (q r : ℕ) → get_or line 0 0 ≡ 34 → q ≡ place 34 (drop 1 line) → q + 2 ≤ length line → r ≡ place 32 (drop (q + 2) line)
    → words line ≡ take (q + 2 + r) line ∷ words (drop (q + 2 + r) line)
unfolding words_from
word_quoted [] q r h e le f = absurd (omega arith)
word_quoted (b ∷ bs) q r h e le f =
    let g : q + 2 ≡ suc (q + 1) = omega arith in
    let k : q + 2 + r ≡ suc (q + 1 + r) = omega arith in
    let m : r ≡ place 32 (drop (place 34 bs + 1) bs) = f ∙ rw (g, e) refl in
    let w : words_from Quoted bs ≡ take (q + 1 + r) bs ∷ words_from Between (drop (q + 1 + r) bs) = rw e (quoted_cut bs r (omega (arith, e)) m) in
    rw (h, k, w) refl

pub word_open : (line : List ℕ) → get_or line 0 0 ≡ 34 → place 34 (drop 1 line) + 2 ≡ length line + 1
    → words line ≡ line ∷ []
unfolding words_from
word_open [] h e = absurd cc
word_open (b ∷ bs) h e = rw (h, quoted_open bs (omega arith)) refl

pub words_done : (line : List ℕ) → length line ≡ 0 → words line ≡ []
unfolding words_from
words_done [] e = refl
words_done (b ∷ bs) e = absurd (omega arith)

pub space_passed : (line : List ℕ) (i : ℕ) → i < length line → get_or line i 0 ≡ 32 → words (drop (i + 1) line) ≡ words (drop i line)
unfolding words_from
space_passed [] i lt e = absurd (omega arith)
space_passed (b ∷ bs) zero lt e = rw e refl
space_passed (b ∷ bs) (suc i) lt e =
    let k : suc i + 1 ≡ suc (i + 1) = omega arith in
    rw k (space_passed bs i (omega arith) e)

pub lines_nil : lines [] ≡ []
unfolding lines
lines_nil = refl

pub body_all : (bs : List ℕ) → place 10 bs ≡ length bs → body bs ≡ bs
body_all bs e =
    let p : body (take (place 10 bs + 1) bs) ≡ take (place 10 bs) bs = body_cut bs in
    let f : take (place 10 bs + 1) bs ≡ bs = take_all (place 10 bs + 1) bs (omega arith) in
    let g : take (place 10 bs) bs ≡ bs = take_all (place 10 bs) bs (omega arith) in
    sym (ap body f) ∙ p ∙ g

behind_line : (bs : List ℕ) (n : ℕ) → n < length bs → length bs - length (drop (n + 1) bs) ≡ n + 1
behind_line bs n lt = omega (arith, length-drop (n + 1) bs)

pub line_cut : (bs : List ℕ) (n : ℕ) → n ≡ place 10 bs → n < length bs → lines bs ≡ take (length bs - length (drop (n + 1) bs)) bs ∷ lines (drop (n + 1) bs)
line_cut bs n e lt =
    let k : place 10 bs < length bs = omega (arith, e) in
    rw (behind_line bs n lt, e) (lines_cut bs k)

pub line_body : (bs : List ℕ) (n : ℕ) → n ≡ place 10 bs → n < length bs → body (take (length bs - length (drop (n + 1) bs)) bs) ≡ take n bs
line_body bs n e lt = rw (behind_line bs n lt, e) (body_cut bs)

-- ---- the byte at which a text is cut

same_byte : (b c : ℕ) → (c == b) ≡ true → c ≡ b
same_byte b c e = grind (arith, common_steps)

place_step : (v : Bool) (b c p : ℕ) (bs : List ℕ) → (c == b) ≡ v → cond (not v) (1 + p) 0 < suc (length bs) → (p < length bs → get_or bs p 0 ≡ b) → get_or (c ∷ bs) (cond (not v) (1 + p) 0) 0 ≡ b
place_step true b c p bs e lt h = same_byte b c e
place_step false b c p bs e lt h =
    let s : 1 + p ≡ suc p = one_add p in
    rw s (h (omega arith))

place_is : (b : ℕ) (bs : List ℕ) → place b bs < length bs → get_or bs (place b bs) 0 ≡ b
place_is b [] lt = absurd (omega arith)
place_is b (c ∷ bs) lt = place_step (c == b) b c (place b bs) bs refl lt (λ h. place_is b bs h)

-- A line of a text that is UTF-8 is UTF-8, and so is what comes after it.
pub line_utf8 : (bs : List ℕ) (n : ℕ) → n ≡ place 10 bs → n < length bs → IsUtf8 bs → IsUtf8 (take n bs) × IsUtf8 (drop (n + 1) bs)
line_utf8 bs n e lt u =
    let small : get_or bs n 0 < 128 =
    let here : get_or bs n 0 ≡ 10 = rw e (place_is 10 bs (omega (arith, e))) in
    omega (arith, here) in
    (IsUtf8-take bs n u (IsCharBoundary-before_ascii bs n lt small), IsUtf8-drop bs (n + 1) u (IsCharBoundary-after_ascii bs n u lt small))

pub last_utf8 : (bs : List ℕ) → IsUtf8 bs → IsUtf8 bs × IsUtf8 []
last_utf8 bs u = (u, IsUtf8-nil)
