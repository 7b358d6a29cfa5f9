use Rattle.std.proofs.Common.{rules, ◌≡◌, ℕ, List, [], ◌∷◌, get_or}
use Rattle.std.specs.Int.{w64, to_be_bytes, cast_unsigned}
use Rattle.tau_record.proofs.item.number_write.Goals as goal

-- the write whose numbers have these bytes
abbrev spelled : List ℕ → List ℕ → List ℕ → List ℕ
spelled t r n =
    get_or t 0 0 ∷ get_or t 1 0
    ∷ get_or r 0 0 ∷ get_or r 1 0 ∷ get_or r 2 0 ∷ get_or r 3 0 ∷ get_or r 4 0 ∷ get_or r 5 0 ∷ get_or r 6 0 ∷ get_or r 7 0
    ∷ 1 ∷ get_or n 0 0 ∷ get_or n 1 0 ∷ get_or n 2 0 ∷ get_or n 3 0 ∷ get_or n 4 0 ∷ get_or n 5 0 ∷ get_or n 6 0 ∷ get_or n 7 0 ∷ []

pub returns : goal.returns
returns c =
    let row : c.to_be_bytes-2.result ≡ to_be_bytes w64 (cast_unsigned w64 c.args.key.row) = search rules in
    let number : c.to_be_bytes-3.result ≡ to_be_bytes w64 (cast_unsigned w64 c.args.number) = search rules in
    λ i. spelled (c.to_be_bytes.ensures i) (row i) (number i)
