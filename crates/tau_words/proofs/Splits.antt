-- What clap makes of words that do not begin with a hyphen: the values of the one argument.
use Rattle.std.proofs.Common.{◌≡◌, ◌≤◌, true, false, cond, List, [], ◌∷◌, ◌++◌, map, length, Option, Some, None, refl, sym, ap, subst, ◌∙◌, append_assoc, arith}
use Rattle.std.specs.Prelude.{◌||◌, codes, fold, find, option_map, unwrap_or}
use Rattle.std.proofs.lemmas.Bool.{and_from, le-leb}
use Rattle.std.proofs.lemmas.List.{append-nil}
use Rattle.std.specs.Str.{bytes_eq}
use Rattle.clap.specs.Lexer.{long_of, short_of}
use Rattle.clap.specs.Simple.{App, Shape, new_app, with_rule, on_top, built, filled, matches_of, is_simple, HasMatchesOf}
use Rattle.clap.specs.Walk.{Rule, Row, Text, Walk, walked, walk, walk_from, nothing_held, positional, all_of, row_of, rows_of}
use Rattle.clap.specs.Takes.{takes, turn_passes, walk_passes, values_pass}
use Rattle.clap.specs.Matches.{found_of, raw_values}
use Rattle.clap.specs.Facts.{Entry}
use Rattle.clap.specs.declared.parser.matches.ArgMatches.{ArgMatches}
use Rattle.tau_words.specs.Split.{is_flag, has_flag, found_words, word_rule, words_app}

abbrev rules : List Rule
rules = (built words_app).top.rules

pub simple : is_simple words_app ≡ true
simple = refl

-- where the walk stands after these words
abbrev behind : List Text → Walk
behind [] = walk_from nothing_held
behind (x ∷ xs) = record {
  held = record { rows = []; pending = Some (codes "word", x ∷ xs); skip = 0 };
  waiting = positional;
  position = 1;
  is_trailing = false;
  stopped = None;
}

not_dashes : (word : Text) → is_flag word ≡ false → bytes_eq word (45 ∷ 45 ∷ []) ≡ false
not_dashes [] h = refl
not_dashes (c ∷ cs) h = rw h refl

not_long : (word : Text) → is_flag word ≡ false → long_of word ≡ None
not_long [] h = refl
not_long (c ∷ cs) h = rw h refl

not_short : (word : Text) → is_flag word ≡ false → short_of word ≡ None
not_short [] h = refl
not_short (c ∷ cs) h = rw h refl

step : (words : List Text) (word : Text) → is_flag word ≡ false → walked rules [] (behind words) word ≡ behind (words ++ word ∷ [])
unfolding walked
step [] word h = rw (not_dashes word h, not_long word h, not_short word h) refl
step (x ∷ xs) word h = rw (not_dashes word h, not_long word h, not_short word h) refl

no_flag : (x : Text) (xs : List Text) → has_flag (x ∷ xs) ≡ false → (is_flag x ≡ false) × (has_flag xs ≡ false)
no_flag x xs h = elim (is_flag x) as (λ v. (v || has_flag xs) ≡ false → (v ≡ false) × (has_flag xs ≡ false)) [ true ↦ λ e. absurd cc | false ↦ λ e. (refl, e) ] h

walks : (words more : List Text) → has_flag more ≡ false → fold (walked rules []) (behind words) more ≡ behind (words ++ more)
walks words [] h = ap behind (sym (append-nil words))
walks words (x ∷ more) h =
    let parts = no_flag x more h in
    ap (λ (w : Walk). fold (walked rules []) w more) (step words x parts.0) ∙ walks (words ++ x ∷ []) more parts.1 ∙ ap behind (append_assoc words (x ∷ []) more)

shape : Shape
shape = (built words_app).top

turn : (words : List Text) (word : Text) → is_flag word ≡ false → turn_passes (built words_app).top [] (behind words) word ≡ true
turn [] word h = rw (not_dashes word h, not_long word h, not_short word h) refl
turn (x ∷ xs) word h = rw (not_dashes word h, not_long word h, not_short word h) refl

passes : (words more : List Text) → has_flag more ≡ false → walk_passes (built words_app).top [] (behind words) more ≡ true
unfolding walk_passes
passes words [] h = refl
passes words (x ∷ more) h =
    let parts = no_flag x more h in
    let rest : walk_passes (built words_app).top [] (walked rules [] (behind words) x) more ≡ true = ap (λ (w : Walk). walk_passes (built words_app).top [] w more) (step words x parts.0) ∙ passes (words ++ x ∷ []) more parts.1 in
    and_from (turn_passes (built words_app).top [] (behind words) x) (walk_passes (built words_app).top [] (walked rules [] (behind words) x) more) (turn words x parts.0) rest

all_strings : (words : List Text) → values_pass (filled word_rule) words ≡ true
all_strings [] = refl
all_strings (x ∷ xs) = all_strings xs

walked_all : (words : List Text) → has_flag words ≡ false → walk rules [] nothing_held words ≡ behind words
walked_all words h = walks [] words h

-- clap takes the words
pub taken : (words : List Text) → has_flag words ≡ false → length words ≤ 7 → takes words_app words ≡ true
taken [] h le = rw (walked_all [] h, passes [] [] h) refl
taken (x ∷ xs) h le =
    rw (walked_all (x ∷ xs) h, passes [] (x ∷ xs) h, le-leb (length (x ∷ xs)) 7 le, le-leb 0 (length (x ∷ xs)) (omega arith), all_strings xs) refl

-- and gives them back
given : (words : List Text) → has_flag words ≡ false → unwrap_or (all_of (codes "word") (matches_of words_app words)) [] ≡ words
given [] h = refl
given (x ∷ xs) h = rw (walked_all (x ∷ xs) h) refl

by_entries : (id : Text) (es : List Entry) → option_map raw_values (option_map (λ (e : Entry). e.1) (find (λ (e : Entry). bytes_eq e.0.now id) es)) ≡ all_of id (map row_of es)
by_entries id [] = refl
by_entries id (e ∷ es) =
    elim (bytes_eq e.0.now id) as (λ v. option_map raw_values (option_map (λ (e : Entry). e.1) (cond v (Some e) (find (λ (e : Entry). bytes_eq e.0.now id) es)))
    ≡ option_map (λ (r : Row). r.values) (cond v (Some (row_of e)) (find (λ (r : Row). bytes_eq r.id id) (map row_of es)))) [ true ↦ refl | false ↦ by_entries id es ]

pub found : (a : App) (words : List Text) (m : ArgMatches) → a ≡ words_app → has_flag words ≡ false → HasMatchesOf a words m → found_words m ≡ words
found a words m is h has =
    let has' : HasMatchesOf words_app words m = subst (λ (b : App). HasMatchesOf b words m) is has in
    let rows : rows_of (found_of m) ≡ matches_of words_app words = (has' simple).0 in
    ap (λ (o : Option (List Text)). unwrap_or o []) (by_entries (codes "word") (found_of m).entries.items ∙ ap (all_of (codes "word")) rows) ∙ given words h

-- ---- the command that is built

pub whole : (old new : App) (rule : Rule) → new ≡ with_rule old rule → old ≡ on_top (λ s. record s { no_binary_name = true; disable_help_flag = true }) (new_app (codes "taurus")) → rule ≡ word_rule → new ≡ words_app
whole old new rule e a b = e ∙ ap (λ (x : App). with_rule x rule) a ∙ ap (with_rule (on_top (λ s. record s { no_binary_name = true; disable_help_flag = true }) (new_app (codes "taurus")))) b
