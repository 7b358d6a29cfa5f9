-- The lines of a text, and the words of a line.
use Rattle.std.specs.Prelude.{ℕ, List, [], ◌∷◌, ◌==◌, if◌then◌else◌}

-- The first line of the list, or a new one where there is none, begins with b.
abbrev pub onto : ℕ → List (List ℕ) → List (List ℕ)
onto b [] = (b ∷ []) ∷ []
onto b (l ∷ ls) = (b ∷ l) ∷ ls

-- A line ends with its byte 10. The last line need not have one.
unfoldable pub lines : List ℕ → List (List ℕ)
lines [] = []
lines (b ∷ bs) = if b == 10 then (b ∷ []) ∷ lines bs else onto b (lines bs)

-- a line without its byte 10
unfoldable pub body : List ℕ → List ℕ
body [] = []
body (b ∷ bs) = if b == 10 then [] else b ∷ body bs

-- where a byte stands: between two words, in a word, or between the quotes of a text
pub data Place : Type 0 where
  Between : Place
  Plain : Place
  Quoted : Place

-- a word that begins with a quote is a text
abbrev pub begins : ℕ → Place
begins b = if b == 34 then Quoted else Plain

-- What is left of the word that has begun, if one has, and the words after it. A space ends a word, and
-- begins none. A quote ends a text, and the word goes on to the next space.
unfoldable pub words_from : Place → List ℕ → List (List ℕ)
words_from Between [] = []
words_from Between (b ∷ bs) = if b == 32 then words_from Between bs else onto b (words_from (begins b) bs)
words_from Plain [] = [] ∷ []
words_from Plain (b ∷ bs) = if b == 32 then [] ∷ words_from Between bs else onto b (words_from Plain bs)
words_from Quoted [] = [] ∷ []
words_from Quoted (b ∷ bs) = onto b (words_from (if b == 34 then Plain else Quoted) bs)

-- the words of a line
abbrev pub words : List ℕ → List (List ℕ)
words line = words_from Between line
