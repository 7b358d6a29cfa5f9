-- The header of a stream, with a closed gate.
use Rattle.std.proofs.Common.{◌≡◌, ℕ, ◌<◌, ◌≤◌, List, [], ◌∷◌, ◌++◌, sym, ◌∙◌, ap, length, subst, arith}
use Rattle.tau_base.specs.declared.format.Format.{Format}
use Rattle.tau_base.specs.Modes.{most_streams}
use Rattle.tau_block.specs.Image.{IsLog, count_in, format_in, header_of, index_in}
use Rattle.tau_block.proofs.Blocks.{log_of_header}
use Rattle.tau_stream.specs.Stream.{IsHead}

-- what is made of a format and two numbers is a head
pub is_head : (f : Format) (n j : ℕ) (head : List ℕ) → n ≤ most_streams f → j < n → head ≡ header_of f n j ++ 0 ∷ [] → format_in head ≡ f → (count_in head ≡ n) × (index_in head ≡ j) → IsHead head
is_head f n j head most below is format names =
    let room : most_streams (format_in head) ≡ most_streams f = ap most_streams format in
    record {
      few = omega (arith, names.0, most, room);
      there = omega (arith, names.0, names.1, below);
      bytes = is ∙ sym (λ i. header_of (format i) (names.0 i) (names.1 i) ++ 0 ∷ []);
    }

-- and what is said of the stream that it names is said of stream j of n
pub of_stream : (f : Format) (n j : ℕ) (head : List ℕ) → format_in head ≡ f → (count_in head ≡ n) × (index_in head ≡ j) → (P : Format → ℕ → ℕ → Type 0) → P (format_in head) (count_in head) (index_in head) → P f n j
of_stream f n j head format names P p =
    subst (λ (i : ℕ). P f n i) names.1 (subst (λ (m : ℕ). P f m (index_in head)) names.0 (subst (λ (g : Format). P g (count_in head) (index_in head)) format p))

-- what a head is
module _ (head : List ℕ) (is : IsHead head) where
  pub long_head : length head ≡ 17
  long_head = ap length is.bytes

  pub log_of_head : IsLog (format_in head) (count_in head) (index_in head) head 16 []
  log_of_head = subst (λ (l : List ℕ). IsLog (format_in head) (count_in head) (index_in head) l 16 []) (sym is.bytes)
      (log_of_header (format_in head) (count_in head) (index_in head) (omega (arith, is.there)) is.few is.there)
