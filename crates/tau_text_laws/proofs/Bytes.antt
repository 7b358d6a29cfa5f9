-- Words as bytes: a line of words is cut into these words again, and a text of lines into these lines.
use Rattle.std.proofs.Common.{◌≡◌, ℕ, ◌+◌, ◌≤◌, List, [], ◌∷◌, length, Ok, ap, length-append, arith}
use Rattle.std.specs.List.{flat_map}
use Rattle.tau_base.specs.declared.limits.TheConstants.{MAX_WORKLOAD}
use Rattle.tau_text.specs.declared.reading.Reading.{Reading}
use Rattle.tau_text.specs.Lines.{lines}
use Rattle.tau_text.specs.Canonical.{line_text}
use Rattle.tau_text.specs.Text.{words_read, lines_read}
use Rattle.tau_text_laws.proofs.Once.{AreWords}
use Rattle.tau_text_laws.proofs.Runs.{run}
use Rattle.tau_text.proofs.Binds.{bind_ok}
use Rattle.tau_text.proofs.WordLines.{one_line}
pub use Rattle.tau_text.proofs.WordLines.{next}

-- ---- the lines of a text again

abbrev pub AreLine : List (List ℕ) → Type 0
AreLine [] = ⊥
AreLine (w ∷ ws) = AreWords (w ∷ ws)

abbrev pub AreLines : List (List (List ℕ)) → Type 0
AreLines [] = Unit {0}
AreLines (ws ∷ wss) = AreLine ws × AreLines wss

pub text_again : (s t : Reading) (n past : ℕ) (wss : List (List (List ℕ))) → AreLines wss → run s n wss ≡ Ok t → past + length (flat_map line_text wss) ≤ MAX_WORKLOAD → lines_read s n past (lines (flat_map line_text wss)) ≡ Ok t
unfolding run lines lines_read
text_again s t n past [] h e le = ap Ok cc
text_again s t n past ([] ∷ wss) h e le = absurd h.0
text_again s t n past ((w ∷ ws) ∷ wss) h e le =
    let p = bind_ok (words_read s n (w ∷ ws)) _ t e in
    let k : length (flat_map line_text ((w ∷ ws) ∷ wss)) ≡ length (line_text (w ∷ ws)) + length (flat_map line_text wss) = length-append (line_text (w ∷ ws)) (flat_map line_text wss) in
    let one : past + length (line_text (w ∷ ws)) ≤ MAX_WORKLOAD = omega (arith, k, le) in
    let more : past + length (line_text (w ∷ ws)) + length (flat_map line_text wss) ≤ MAX_WORKLOAD = omega (arith, k, le) in
    one_line s p.0 n past w ws (flat_map line_text wss) (Ok t) h.0 p.1 one (text_again p.0 t (n + 1) (past + length (line_text (w ∷ ws))) wss h.1 p.2 more)
