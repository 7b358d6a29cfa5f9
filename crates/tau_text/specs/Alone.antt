-- The declarations of which a text is the canonical text.
use Rattle.std.specs.Prelude.{ℕ, ◌+◌, List, [], ◌∷◌, Option, Some, None, Result, Ok, Err, if◌then◌else◌, bytes_eq}
use Rattle.tau_text.specs.declared.load.Declarations.{Declarations}
use Rattle.tau_text.specs.declared.fault.TextCause.TheVariants.{UnknownWord}
use Rattle.tau_text.specs.declared.fault.TextFault.{TextFault}
use Rattle.tau_text.specs.Lines.{lines}
use Rattle.tau_text.specs.Given.{◌>>=◌}
use Rattle.tau_text.specs.Text.{workload_of}
use Rattle.tau_text.specs.Canonical.{declarations_text}

-- the first line, from number n, at which two texts differ
unfoldable pub differs : ℕ → List (List ℕ) → List (List ℕ) → Option ℕ
differs n [] [] = None
differs n [] (y ∷ ys) = Some n
differs n (x ∷ xs) [] = Some n
differs n (x ∷ xs) (y ∷ ys) = if bytes_eq x y then differs (n + 1) xs ys else Some n

abbrev pub unless_differs : {A : Type 0} → A → Option ℕ → Result A TextFault
unless_differs x None = Ok x
unless_differs x (Some n) = Err (record { line = n; cause = UnknownWord })

-- Where the text means a workload, its declarations, or the first line that is not that of their canonical text.
-- Otherwise the first bad line.
unfoldable pub declarations_of : List ℕ → Result Declarations TextFault
declarations_of text = do
  load ← workload_of text
  unless_differs load.declarations (differs 1 (lines text) (lines (declarations_text load.declarations)))
