-- Two texts, line by line.
use Rattle.std.proofs.Common.{◌≡◌, ℕ, ◌+◌, ◌<◌, ◌==◌, Bool, true, false, cond, List, [], ◌∷◌, length, Some, None, bytes_eq, refl, sym, ap, ◌∙◌, arith}
use Rattle.std.proofs.lemmas.Slice.Eq.{bytes_eq-Decides}
use Rattle.std.specs.List.{concat}
use Rattle.tau_text.specs.Lines.{lines, onto}
use Rattle.tau_text.specs.Alone.{differs}

pub same_line : (n : ℕ) (l r x y l2 r2 : List ℕ) → lines l ≡ x ∷ lines l2 → lines r ≡ y ∷ lines r2 → bytes_eq x y ≡ true → differs n (lines l) (lines r) ≡ differs (n + 1) (lines l2) (lines r2)
unfolding differs
same_line n l r x y l2 r2 e f g = rw (e, f, g) refl

pub other_line : (n : ℕ) (l r x y l2 r2 : List ℕ) → lines l ≡ x ∷ lines l2 → lines r ≡ y ∷ lines r2 → bytes_eq x y ≡ false → differs n (lines l) (lines r) ≡ Some n
unfolding differs
other_line n l r x y l2 r2 e f g = rw (e, f, g) refl

onto_some : (b : ℕ) (ls : List (List ℕ)) → (y : List ℕ) × (ys : List (List ℕ)) × (onto b ls ≡ y ∷ ys)
onto_some b [] = (b ∷ [], [], refl)
onto_some b (l ∷ ls) = (b ∷ l, ls, refl)

some_step : (v : Bool) (b : ℕ) (ls : List (List ℕ)) → (y : List ℕ) × (ys : List (List ℕ)) × (cond v ((b ∷ []) ∷ ls) (onto b ls) ≡ y ∷ ys)
some_step true b ls = (b ∷ [], ls, refl)
some_step false b ls = onto_some b ls

lines_some : (r : List ℕ) → 0 < length r → (y : List ℕ) × (ys : List (List ℕ)) × (lines r ≡ y ∷ ys)
unfolding lines
lines_some [] lt = absurd (omega arith)
lines_some (b ∷ bs) lt = some_step (b == 10) b (lines bs)

no_lines : (r : List ℕ) → length r ≡ 0 → lines r ≡ []
unfolding lines
no_lines [] e = refl
no_lines (b ∷ bs) e = absurd (omega arith)

pub left_only : (n : ℕ) (l r : List ℕ) → 0 < length l → length r ≡ 0 → differs n (lines l) (lines r) ≡ Some n
unfolding differs
left_only n l r lt e = rw ((lines_some l lt).2, no_lines r e) refl

pub right_only : (n : ℕ) (l r : List ℕ) → length l ≡ 0 → 0 < length r → differs n (lines l) (lines r) ≡ Some n
unfolding differs
right_only n l r e lt = rw (no_lines l e, (lines_some r lt).2) refl

pub both_done : (n : ℕ) (l r : List ℕ) → length l ≡ 0 → length r ≡ 0 → differs n (lines l) (lines r) ≡ None
unfolding differs
both_done n l r e f = rw (no_lines l e, no_lines r f) refl

-- ---- texts without a difference

same_step : (v : Bool) (n : ℕ) (x y : List ℕ) (xs ys : List (List ℕ)) → bytes_eq x y ≡ v → (differs (n + 1) xs ys ≡ None → xs ≡ ys) → cond v (differs (n + 1) xs ys) (Some n) ≡ None → x ∷ xs ≡ y ∷ ys
same_step true n x y xs ys e h f =
    let p : x ≡ y = (bytes_eq-Decides x y).0 e in
    let q : xs ≡ ys = h f in
    cc
same_step false n x y xs ys e h f = absurd cc

same_lines : (n : ℕ) (xs ys : List (List ℕ)) → differs n xs ys ≡ None → xs ≡ ys
unfolding differs
same_lines n [] [] e = refl
same_lines n [] (y ∷ ys) e = absurd cc
same_lines n (x ∷ xs) [] e = absurd cc
same_lines n (x ∷ xs) (y ∷ ys) e = same_step (bytes_eq x y) n x y xs ys refl (λ f. same_lines (n + 1) xs ys f) e

onto_joined : (b : ℕ) (ls : List (List ℕ)) → concat (onto b ls) ≡ b ∷ concat ls
onto_joined b [] = refl
onto_joined b (l ∷ ls) = refl

joined_step : (v : Bool) (b : ℕ) (ls : List (List ℕ)) → concat (cond v ((b ∷ []) ∷ ls) (onto b ls)) ≡ b ∷ concat ls
joined_step true b ls = refl
joined_step false b ls = onto_joined b ls

pub joined : (bs : List ℕ) → concat (lines bs) ≡ bs
unfolding lines
joined [] = refl
joined (b ∷ bs) = joined_step (b == 10) b (lines bs) ∙ ap (λ t. b ∷ t) (joined bs)

pub same_texts : (a b : List ℕ) → differs 1 (lines a) (lines b) ≡ None → a ≡ b
same_texts a b e = sym (joined a) ∙ ap concat (same_lines 1 (lines a) (lines b) e) ∙ joined b
