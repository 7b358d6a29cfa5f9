use Rattle.std.proofs.Common.{ℕ, List, [], ◌≡◌, ◌∷◌, arith, sym, subst, get_or}
use Rattle.tau_block.specs.Image.{IsLog, count_in, format_in, index_in}
use Rattle.tau_block.proofs.Blocks.{head_format, head_names, log_of_header}
use Rattle.tau_block.proofs.write.header_in.Goals as goal

-- the header whose digit and numbers have these bytes, and a closed gate
abbrev spelled : ℕ → List ℕ → List ℕ → List ℕ
spelled d a b = 84 ∷ 65 ∷ 85 ∷ 82 ∷ 85 ∷ 83 ∷ 45 ∷ 76 ∷ 79 ∷ 71 ∷ 45 ∷ d ∷ get_or a 0 0 ∷ get_or a 1 0 ∷ get_or b 0 0 ∷ get_or b 1 0 ∷ 0 ∷ []

pub returns-clause-bytes : goal.returns-clause-bytes
returns-clause-bytes c = λ i. spelled (c.digit_of-digit.ensures i) (c.to_be_bytes.ensures i) (c.to_be_bytes-2.ensures i)

pub returns-clause-format : goal.returns-clause-format
returns-clause-format c =
    subst (λ (l : List ℕ). format_in l ≡ c.args.format) (sym (λ i. spelled (c.digit_of-digit.ensures i) (c.to_be_bytes.ensures i) (c.to_be_bytes-2.ensures i)))
    (head_format c.args.format c.args.n c.args.j (0 ∷ []))

pub returns-clause-names : goal.returns-clause-names
returns-clause-names c =
    subst (λ (l : List ℕ). (count_in l ≡ c.args.n) × (index_in l ≡ c.args.j)) (sym (λ i. spelled (c.digit_of-digit.ensures i) (c.to_be_bytes.ensures i) (c.to_be_bytes-2.ensures i)))
    (head_names c.args.format c.args.n c.args.j (0 ∷ []) (omega arith) (omega arith))

pub returns-clause-empty : goal.returns-clause-empty
returns-clause-empty c = λ some most below.
    subst (λ (l : List ℕ). IsLog c.args.format c.args.n c.args.j l 16 []) (sym (λ i. spelled (c.digit_of-digit.ensures i) (c.to_be_bytes.ensures i) (c.to_be_bytes-2.ensures i)))
    (log_of_header c.args.format c.args.n c.args.j some most below)
