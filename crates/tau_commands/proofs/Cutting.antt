-- Cutting a text at a line: only one that begins with the word may be it.
use Rattle.std.proofs.Common.{ℕ, zero, suc, ◌+◌, ◌-◌, ◌≤◌, ◌<◌, ◌≡◌, ◌≢◌, ◌==◌, Bool, true, false, List, [], ◌∷◌, ◌++◌, take, drop, get_or, length, Option, refl, sym, ap, subst, ◌∙◌, append_assoc, length-drop, arith}
use Rattle.std.specs.Prelude.{Some, None, codes, if◌then◌else◌}
use Rattle.std.specs.List.{concat}
use Rattle.std.proofs.lemmas.Bool.{eqb-true}
use Rattle.std.proofs.lemmas.List.{append-nil, drop_all, drop-drop, take_rest}
use Rattle.std.proofs.Math.Seq.{take-add}
use Rattle.std.proofs.lemmas.Slice.Eq.{bytes_eq-Decides}
use Rattle.memchr.specs.Find.{OccursAt, Nowhere, FindsNeedle}
use Rattle.memchr.proofs.lemmas.MatchLemmas.{OccursAt-from_part, OccursAt-split}
use Rattle.tau_text.specs.Lines.{lines, body, onto}
use Rattle.tau_commands.specs.Cut.{is_report_line, begun_by, cut_lines, cut_at_report, cut_later_lines, cut_past_line}

-- ---- the lines of a text are the text

onto_one : (b : ℕ) (ls : List (List ℕ)) → concat (onto b ls) ≡ b ∷ concat ls
onto_one b [] = refl
onto_one b (l ∷ ls) = refl

lines_one : (t : Bool) (b : ℕ) (bs : List ℕ) → (if t then (b ∷ []) ∷ lines bs else onto b (lines bs)) ≡ lines (b ∷ bs) → concat (lines bs) ≡ bs → concat (lines (b ∷ bs)) ≡ b ∷ bs
lines_one true b bs e h = sym (ap concat e) ∙ ap (λ (l : List ℕ). b ∷ l) h
lines_one false b bs e h = sym (ap concat e) ∙ onto_one b (lines bs) ∙ ap (λ (l : List ℕ). b ∷ l) h

lines_are : (text : List ℕ) → concat (lines text) ≡ text
unfolding lines
lines_are [] = refl
lines_are (b ∷ bs) = lines_one (b == 10) b bs refl (lines_are bs)

-- ---- what stands before a cut

begun_nil : (cut : Option (List ℕ × List ℕ)) → begun_by [] cut ≡ cut
begun_nil None = refl
begun_nil (Some cut) = refl

begun_twice : (a b : List ℕ) (cut : Option (List ℕ × List ℕ)) → begun_by a (begun_by b cut) ≡ begun_by (a ++ b) cut
begun_twice a b None = refl
begun_twice a b (Some cut) = ap (λ (l : List ℕ). Some (l, cut.1)) (sym (append_assoc a b cut.0))

-- ---- a line that does not begin with the word

body_one : (t : Bool) (b : ℕ) (bs : List ℕ) → (rest : List ℕ) × (bs ≡ body bs ++ rest) → (rest : List ℕ) × (b ∷ bs ≡ (if t then [] else b ∷ body bs) ++ rest)
body_one true b bs h = (b ∷ bs, refl)
body_one false b bs h = (h.0, ap (λ (l : List ℕ). b ∷ l) h.1)

body_front : (line : List ℕ) → (rest : List ℕ) × (line ≡ body line ++ rest)
unfolding body
body_front [] = ([], refl)
body_front (b ∷ bs) = body_one (b == 10) b bs (body_front bs)

word_front : (text line : List ℕ) (more : List (List ℕ)) → lines text ≡ line ∷ more → is_report_line line ≡ true → (rest : List ℕ) × (text ≡ codes "report" ++ rest)
word_front text line more cut is =
    let front = body_front line in
    let word : body line ≡ codes "report" = (bytes_eq-Decides (body line) (codes "report")).0 is in (
      front.0 ++ concat more,
      sym (lines_are text) ∙ ap concat cut ∙ ap (λ (l : List ℕ). l ++ concat more) (front.1 ∙ ap (λ (l : List ℕ). l ++ front.0) word) ∙ append_assoc (codes "report") front.0 (concat more),
    )

is_not : (t : Bool) → (t ≡ true → ⊥) → t ≡ false
is_not true h = absurd (h refl)
is_not false h = refl

other_lines : (ls : List (List ℕ)) → ((line : List ℕ) (more : List (List ℕ)) → ls ≡ line ∷ more → is_report_line line ≡ false) → cut_lines ls ≡ cut_later_lines ls
unfolding cut_lines
other_lines [] h = refl
other_lines (line ∷ more) h = rw (h line more refl) refl

pub other_line : (text : List ℕ) → ((rest : List ℕ) → text ≢ codes "report" ++ rest) → cut_at_report text ≡ cut_past_line text
other_line text h = other_lines (lines text) (λ line more cut. is_not (is_report_line line) (λ is. let front = word_front text line more cut is in h front.0 front.1))

-- ---- a line that begins with it

pub line_whole : (text after : List ℕ) → text ≡ codes "report" ++ after → length after ≡ 0 → cut_at_report text ≡ Some ([], after)
unfolding lines body cut_lines
line_whole text [] e none = ap cut_at_report e
line_whole text (b ∷ bs) e none = absurd (omega (arith, none))

pub line_ended : (text after : List ℕ) → text ≡ codes "report" ++ 10 ∷ after → cut_at_report text ≡ Some ([], after)
unfolding lines body cut_lines
line_ended text after e = ap cut_at_report e ∙ ap (λ (l : List ℕ). Some ([], l)) (lines_are after)

onto_some : (b : ℕ) (ls : List (List ℕ)) → (line : List ℕ) × (more : List (List ℕ)) × (onto b ls ≡ (b ∷ line) ∷ more)
onto_some b [] = ([], [], refl)
onto_some b (l ∷ ls) = (l, ls, refl)

longer_lines : (b : ℕ) (after : List ℕ) → (b == 10) ≡ false → (line : List ℕ) × (more : List (List ℕ)) × (lines (codes "report" ++ b ∷ after) ≡ (codes "report" ++ b ∷ line) ∷ more)
unfolding lines
longer_lines b after other =
    let some = onto_some b (lines after) in
    let rest : lines (b ∷ after) ≡ (b ∷ some.0) ∷ some.1 = rw other some.2 in
    (some.0, some.1, rw rest refl)

longer_other : (b : ℕ) (line : List ℕ) → (b == 10) ≡ false → is_report_line (codes "report" ++ b ∷ line) ≡ false
unfolding body
longer_other b line other = rw other refl

pub line_longer : (text : List ℕ) (b : ℕ) (after : List ℕ) → text ≡ codes "report" ++ b ∷ after → (b == 10) ≡ false → cut_at_report text ≡ cut_past_line text
unfolding cut_lines
line_longer text b after e other =
    let cut = longer_lines b after other in
    let first : lines text ≡ (codes "report" ++ b ∷ cut.0) ∷ cut.1 = ap lines e ∙ cut.2 in
    rw (first, longer_other b cut.0 other) refl

-- ---- bytes inside of a line

onto_past : (b : ℕ) (ls : List (List ℕ)) → cut_later_lines (onto b ls) ≡ begun_by (b ∷ []) (cut_later_lines ls)
unfolding cut_lines
onto_past b [] = refl
onto_past b (l ∷ ls) = sym (begun_twice (b ∷ []) l (cut_lines ls))

past_one : (t : Bool) (b : ℕ) (bs : List ℕ) → (b == 10) ≡ t → (t ≡ true → cut_at_report bs ≡ cut_past_line bs) → cut_past_line (b ∷ bs) ≡ begun_by (b ∷ []) (cut_past_line bs)
unfolding lines
past_one true b bs is h = rw is (ap (begun_by (b ∷ [])) (h refl))
past_one false b bs is h = rw is (onto_past b (lines bs))

past_end : (bs : List ℕ) → cut_past_line (10 ∷ bs) ≡ begun_by (10 ∷ []) (cut_at_report bs)
unfolding lines
past_end bs = refl

-- none of the first so many bytes is a byte 10 before the word
abbrev IsFree : ℕ → List ℕ → Type 0
IsFree n bs = (k : ℕ) → k < n → (rest : List ℕ) → drop k bs ≢ codes "\nreport" ++ rest

walked : (n : ℕ) (bs : List ℕ) → n ≤ length bs → IsFree n bs → cut_past_line bs ≡ begun_by (take n bs) (cut_past_line (drop n bs))
walked zero bs le free = sym (begun_nil (cut_past_line bs))
walked (suc n) [] le free = absurd (omega (arith, le))
walked (suc n) (b ∷ bs) le free =
    past_one (b == 10) b bs refl (λ is. other_line bs (λ rest e. free 0 (omega arith) rest (ap (λ (l : List ℕ). b ∷ l) e ∙ ap (λ (x : ℕ). x ∷ codes "report" ++ rest) (eqb-true b 10 is))))
    ∙ ap (begun_by (b ∷ [])) (walked n bs (omega (arith, le)) (λ k lt rest e. free (suc k) (omega (arith, lt)) rest e))
    ∙ begun_twice (b ∷ []) (take n bs) (cut_past_line (drop n bs))

free_of : (n : ℕ) (bs : List ℕ) → Nowhere (OccursAt bs (codes "\nreport")) 0 n → IsFree n bs
free_of n bs none k lt rest e =
    let long = ap length e in
    none k (omega arith) lt (OccursAt-from_part bs (codes "\nreport") k (omega (arith, long, length-drop k bs)) (ap (take 7) e))

-- ---- the search

-- what stands from this byte on begins inside of a line, and no line before is the one that is sought
pub record IsPassed (text : List ℕ) (at : ℕ) : Type 0 where
  pub within : at ≤ length text
  pub same : cut_at_report text ≡ begun_by (take at text) (cut_past_line (drop at text))

pub passed_first : (text : List ℕ) → cut_at_report text ≡ cut_past_line text → IsPassed text 0
passed_first text is = record { within = omega arith; same = is ∙ sym (begun_nil (cut_past_line text)) }

-- the word is nowhere
pub passed_none : (text : List ℕ) (at : ℕ) → IsPassed text at → FindsNeedle (drop at text) (codes "\nreport") 0 None → cut_at_report text ≡ None
unfolding lines cut_lines
passed_none text at h none =
    let rest = drop at text in
    let all : drop (length rest) rest ≡ [] = drop_all (length rest) rest (omega arith) in
    h.same ∙ ap (begun_by (take at text)) (walked (length rest) rest (omega arith) (free_of (length rest) rest (λ k low lt. none k low (omega (arith, lt)))) ∙ ap (λ (l : List ℕ). begun_by (take (length rest) rest) (cut_past_line l)) all)

-- a line begins with it
pub passed_on : (text : List ℕ) (at end : ℕ) → IsPassed text at → FindsNeedle (drop at text) (codes "\nreport") 0 (Some end) → (at + (end + 1) ≤ length text) × (cut_at_report text ≡ begun_by (take (at + (end + 1)) text) (cut_at_report (drop (at + (end + 1)) text)))
passed_on text at end h found =
    let rest = drop at text in
    let next = drop (end + 1) rest in
    let fits = found.1.fits in
    let word = OccursAt-split rest (codes "\nreport") end found.1 in
    let tail : drop end rest ≡ 10 ∷ next = word ∙ ap (λ (l : List ℕ). 10 ∷ l) (sym (ap (drop 1) word) ∙ drop-drop 1 end rest) in
    let line : take (end + 1) rest ≡ take end rest ++ 10 ∷ [] = take-add end 1 rest ∙ ap (λ (l : List ℕ). take end rest ++ take 1 l) tail in
    let past : cut_past_line rest ≡ begun_by (take (end + 1) rest) (cut_at_report next) =
    walked end rest (omega arith) (free_of end rest found.0.before) ∙ ap (λ (l : List ℕ). begun_by (take end rest) (cut_past_line l)) tail ∙ ap (begun_by (take end rest)) (past_end next)
    ∙ begun_twice (take end rest) (10 ∷ []) (cut_at_report next) ∙ ap (λ (l : List ℕ). begun_by l (cut_at_report next)) (sym line) in
    let front : take at text ++ take (end + 1) rest ≡ take (at + (end + 1)) text = sym (take-add at (end + 1) text) in (
      omega (arith, fits, h.within, length-drop at text),
      h.same ∙ ap (begun_by (take at text)) past ∙ begun_twice (take at text) (take (end + 1) rest) (cut_at_report next) ∙ ap (λ (l : List ℕ). begun_by l (cut_at_report next)) front
          ∙ ap (λ (l : List ℕ). begun_by (take (at + (end + 1)) text) (cut_at_report l)) (drop-drop (end + 1) at text),
    )

pub passed_here : (text after : List ℕ) (at : ℕ) → cut_at_report text ≡ begun_by (take at text) (cut_at_report (drop at text)) → cut_at_report (drop at text) ≡ Some ([], after) → cut_at_report text ≡ Some (take at text, after)
passed_here text after at whole here = whole ∙ ap (begun_by (take at text)) here ∙ ap (λ (l : List ℕ). Some (l, after)) (append-nil (take at text))

pub begins_line : (bs : List ℕ) → (length bs ≡ 0 → ⊥) → bs ≡ get_or bs 0 0 ∷ drop 1 bs
begins_line [] some = absurd (some refl)
begins_line (b ∷ bs) some = refl

pub found_at : (text word : List ℕ) (at : ℕ) (r : Option ℕ) → word ≡ codes "\nreport" → FindsNeedle (take (length text - at) (drop at text)) word 0 r → FindsNeedle (drop at text) (codes "\nreport") 0 r
found_at text word at r is found = subst (λ (l : List ℕ). FindsNeedle l (codes "\nreport") 0 r) (take_rest text at) (subst (λ (w : List ℕ). FindsNeedle (take (length text - at) (drop at text)) w 0 r) is found)
