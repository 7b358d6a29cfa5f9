-- The sections of a report, at the start of a text.
use Rattle.std.specs.Prelude.{ℕ, ◌≡◌, ◌⊎◌, true, All, List, [], ◌∷◌, ◌++◌, length, map, Option}
use Rattle.std.specs.declared.cmp.Ordering.TheVariants.{Less}
use Rattle.std.specs.List.{flat_map}
use Rattle.std.specs.List.Sorted.{IsStrictlySortedBy}
use Rattle.tau_base.specs.declared.value.Key.{Key}
use Rattle.tau_base.specs.declared.value.Value.{Value}
use Rattle.tau_base.specs.Database.{key_cmp}
use Rattle.tau_report.specs.declared.report.Fate.{Fate}
use Rattle.tau_report.specs.Lines.{end_line}
use Rattle.tau_report.specs.Report.{ack_lines, fate_lines, order_lines, row_lines}
use Rattle.tau_inspect.specs.Bodies.{IsEnd}
use Rattle.tau_inspect.specs.ByNumber.{IsUnique}
use Rattle.tau_inspect.specs.Parts.{lacks}
use Rattle.tau_inspect.specs.ReportFor.{IsCall, IsFate, IsRow, IsVector}

-- the first line of a text, and what comes after it
pub record IsLine (text line rest : List ℕ) : Type 0 where
  pub is : text ≡ line ++ 10 ∷ rest
  pub one : lacks 10 line ≡ true

-- its first line is the spelling of none of these, or it has no whole line
abbrev pub NoLine : {A : Type 0} → (A → List ℕ) → (A → Type 0) → List ℕ → Type 0
NoLine {A} spell Fits text = (lacks 10 text ≡ true) ⊎ ((line rest : List ℕ) × IsLine text line rest × ((a : A) → Fits a → spell a ≡ line → ⊥))

-- acknowledgements at the start of a text
pub record AreAcks (calls n : ℕ) (text : List ℕ) (acks : List (ℕ × List ℕ)) (rest : List ℕ) : Type 0 where
  pub told : text ≡ ack_lines acks ++ rest
  pub numbers : All (λ a. IsCall calls a.0) acks
  pub vectors : All (λ a. IsVector n a.1) acks
  pub once : IsUnique (map (λ a. a.0) acks)

-- what became of the calls from the first on
pub record AreFates (text : List ℕ) (fates : List Fate) (rest : List ℕ) : Type 0 where
  pub told : text ≡ fate_lines 1 fates ++ rest
  pub fit : All IsFate fates

-- calls of the history
pub record AreOrders (calls : ℕ) (text : List ℕ) (order rest : List ℕ) : Type 0 where
  pub told : text ≡ order_lines order ++ rest
  pub numbers : All (IsCall calls) order

-- rows in ascending order of keys
pub record AreRows (tables : List (List ℕ)) (text : List ℕ) (rows : List (Key × Value)) (rest : List ℕ) : Type 0 where
  pub told : text ≡ row_lines tables rows ++ rest
  pub fit : All (IsRow (length tables)) rows
  pub ascending : IsStrictlySortedBy key_cmp (map (λ row. row.0) rows)

-- the key is above that of the last row
abbrev pub IsAbove : List (Key × Value) → Key → Type 0
IsAbove rows key = (front : List (Key × Value)) (last : Key × Value) → rows ≡ front ++ last ∷ [] → key_cmp last.0 key ≡ Less

-- the text does not begin with the byte
abbrev pub Apart : ℕ → List ℕ → Type 0
Apart byte [] = Unit {0}
Apart byte (b ∷ bs) = b ≡ byte → ⊥

-- The other text begins like this one: its first line, if it has a whole one, is this one's, and it is empty only if this one is.
pub record BeginsAlike (text other : List ℕ) : Type 0 where
  pub line : (line rest : List ℕ) → IsLine other line rest → (following : List ℕ) × IsLine text line following
  pub empty : other ≡ [] → text ≡ []

-- If the text begins with the lines of such elements, and no line that begins with the byte comes after them, this is what comes after them.
abbrev pub Leaves : {A : Type 0} → (A → List ℕ) → (List A → Type 0) → ℕ → List ℕ → List ℕ → Type 0
Leaves {A} f Good byte text rest = (xs : List A) (more : List ℕ) → Good xs → text ≡ flat_map f xs ++ more → Apart byte more → rest ≡ more

-- no text has more such elements after these whose lines were read, if what comes after them begins like the rest
abbrev pub Stops : {A : Type 0} → (A → List ℕ) → (List A → Type 0) → ℕ → List A → List ℕ → Type 0
Stops f Good byte xs rest = (other : List ℕ) → BeginsAlike rest other → Leaves f Good byte (flat_map f xs ++ other) other

-- acknowledgements of a report
pub record AcksFit (calls n : ℕ) (acks : List (ℕ × List ℕ)) : Type 0 where
  pub numbers : All (λ a. IsCall calls a.0) acks
  pub vectors : All (λ a. IsVector n a.1) acks
  pub once : IsUnique (map (λ a. a.0) acks)

-- rows of a report
pub record RowsFit (tables : ℕ) (rows : List (Key × Value)) : Type 0 where
  pub fit : All (IsRow tables) rows
  pub ascending : IsStrictlySortedBy key_cmp (map (λ row. row.0) rows)

-- the text begins with what became of so many calls, and this comes after them
pub record BeginsWithFates (calls : ℕ) (text more : List ℕ) : Type 0 where
  pub fates : List Fate
  pub fit : All IsFate fates
  pub many : length fates ≡ calls
  pub is : text ≡ fate_lines 1 fates ++ more

-- if a text that goes on like the rest begins with what became of so many calls, these are they
abbrev pub StopsFates : ℕ → List Fate → List ℕ → Type 0
StopsFates calls fates rest = (other more : List ℕ) → BeginsAlike rest other → BeginsWithFates calls (fate_lines 1 fates ++ other) more → (length fates ≡ calls) × (other ≡ more)

-- the text does not begin with an end
abbrev pub StopsEnd : ℕ → List ℕ → Type 0
StopsEnd n text = (failed : Option ℕ) (tail : List ℕ) → IsEnd n failed → text ≡ end_line failed ++ tail → ⊥
