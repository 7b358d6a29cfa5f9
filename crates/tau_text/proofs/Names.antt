-- Names, and where they stand in a list.
use Rattle.std.proofs.Common.{◌≡◌, ℕ, zero, suc, ◌+◌, ◌-◌, ◌<◌, ◌≤◌, Bool, true, false, List, [], ◌∷◌, length, take, drop, get_or, Some, None, IsUtf8, bytes_eq, rules, refl, arith, add-one, drop-cons}
use Rattle.std.proofs.lemmas.Grind.{common_steps}
use Rattle.std.proofs.lemmas.Bool.{and_parts}
use Rattle.std.proofs.lemmas.Slice.Eq.{bytes_eq-Decides}
use Rattle.std.proofs.lemmas.List.{drop_all}
use Rattle.std.proofs.lemmas.Str.{IsUtf8-from_ascii, is_utf8-from_IsUtf8, IsUtf8-from_is_utf8}
use Rattle.std.specs.Bool.{Decides}
use Rattle.std.specs.List.{list_all}
use Rattle.std.specs.Str.{is_utf8}
use Rattle.tau_proc.specs.declared.proc.Proc.{Proc}
use Rattle.tau_text.specs.Forms.{names_of}
use Rattle.tau_text.specs.Spelled.{is_letter, is_name_byte, is_text_byte, is_named, place_from, unquoted}

name_byte_small : (b : ℕ) → is_name_byte b ≡ true → b < 128
name_byte_small b e = grind (arith, common_steps)

letter_small : (b : ℕ) → is_letter b ≡ true → b < 128
letter_small b e = grind (arith, common_steps)

all_small : (bs : List ℕ) → list_all is_name_byte bs ≡ true → (i : ℕ) → get_or bs i 0 < 128
all_small [] e i = omega arith
all_small (b ∷ bs) e zero = name_byte_small b (and_parts (is_name_byte b) (list_all is_name_byte bs) e).0
all_small (b ∷ bs) e (suc i) = all_small bs (and_parts (is_name_byte b) (list_all is_name_byte bs) e).1 i

named_small : (bs : List ℕ) → is_named bs ≡ true → (i : ℕ) → get_or bs i 0 < 128
named_small [] e i = absurd cc
named_small (b ∷ bs) e zero = letter_small b (and_parts (is_letter b) (list_all is_name_byte bs) e).0
named_small (b ∷ bs) e (suc i) = all_small bs (and_parts (is_letter b) (list_all is_name_byte bs) e).1 i

pub named_utf8 : (bs : List ℕ) → is_named bs ≡ true → IsUtf8 bs
named_utf8 bs e = IsUtf8-from_ascii bs (named_small bs e)

pub same_from : (xs ys : List ℕ) (r : Bool) → Decides r (xs ≡ ys) → r ≡ bytes_eq xs ys
same_from xs ys r h = search (rules, bytes_eq-Decides)

pub place_here : (w n : List ℕ) (i : ℕ) (names : List (List ℕ)) → i < length names → n ≡ get_or names i n → bytes_eq n w ≡ true → place_from i w (drop i names) ≡ Some i
unfolding place_from
place_here w n i names lt e h = rw (drop-cons names i n, ← e, h) refl

pub place_later : (w n : List ℕ) (i : ℕ) (names : List (List ℕ)) → i < length names → n ≡ get_or names i n → bytes_eq n w ≡ false → place_from i w (drop i names) ≡ place_from (i + 1) w (drop (i + 1) names)
unfolding place_from
place_later w n i names lt e h = rw (drop-cons names i n, ← e, h, add-one i) refl

pub place_none : (w : List ℕ) (i : ℕ) (names : List (List ℕ)) → length names ≤ i → place_from i w (drop i names) ≡ None
unfolding place_from
place_none w i names le = rw (drop_all i names le) refl

pub not_utf8 : (bs : List ℕ) (b : Bool) → is_utf8 bs ≡ b → ¬ (IsUtf8 bs) → b ≡ false
not_utf8 bs true e h = absurd (h (IsUtf8-from_is_utf8 bs e))
not_utf8 bs false e h = refl

pub unquoted_is : (bs before back : List ℕ) → before ≡ take (length bs - 1) bs → back ≡ drop (length bs - 1) bs → bytes_eq back (34 ∷ []) ≡ true → list_all is_text_byte before ≡ true → IsUtf8 before → Some before ≡ unquoted bs
unfolding unquoted
unquoted_is bs before back e f g h u = rw (← e, ← f, g, h, is_utf8-from_IsUtf8 before u) refl

pub unquoted_none : (bs before back : List ℕ) → before ≡ take (length bs - 1) bs → back ≡ drop (length bs - 1) bs → bytes_eq back (34 ∷ []) ≡ true → list_all is_text_byte before ≡ true → ¬ (IsUtf8 before) → None ≡ unquoted bs
unfolding unquoted
unquoted_none bs before back e f g h u = rw (← e, ← f, g, h, not_utf8 before (is_utf8 before) refl u) refl

pub proc_here : (w : List ℕ) (p : Proc) (i : ℕ) (procs : List Proc) → i < length procs → p ≡ get_or procs i p → bytes_eq p.name w ≡ true → place_from i w (names_of (drop i procs)) ≡ Some i
unfolding place_from
proc_here w p i procs lt e h = rw (drop-cons procs i p, ← e, h) refl

pub proc_later : (w : List ℕ) (p : Proc) (i : ℕ) (procs : List Proc) → i < length procs → p ≡ get_or procs i p → bytes_eq p.name w ≡ false → place_from i w (names_of (drop i procs)) ≡ place_from (i + 1) w (names_of (drop (i + 1) procs))
unfolding place_from
proc_later w p i procs lt e h = rw (drop-cons procs i p, ← e, h, add-one i) refl

pub proc_none : (w : List ℕ) (i : ℕ) (procs : List Proc) → length procs ≤ i → place_from i w (names_of (drop i procs)) ≡ None
unfolding place_from
proc_none w i procs le = rw (drop_all i procs le) refl
