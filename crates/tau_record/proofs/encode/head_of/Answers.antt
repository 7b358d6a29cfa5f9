use Rattle.std.proofs.Common.{ℕ, List, [], ◌∷◌, get_or}
use Rattle.tau_record.proofs.encode.head_of.Goals as goal

-- the head whose numbers have these bytes
abbrev spelled : ℕ → List ℕ → List ℕ → List ℕ → List ℕ
spelled kind l n a =
    kind ∷ get_or l 0 0 ∷ get_or l 1 0 ∷ get_or l 2 0 ∷ get_or l 3 0
    ∷ get_or n 0 0 ∷ get_or n 1 0 ∷ get_or n 2 0 ∷ get_or n 3 0 ∷ get_or n 4 0 ∷ get_or n 5 0 ∷ get_or n 6 0 ∷ get_or n 7 0
    ∷ get_or a 0 0 ∷ get_or a 1 0 ∷ get_or a 2 0 ∷ get_or a 3 0 ∷ []

pub returns : goal.returns
returns c = λ i. spelled c.args.kind (c.to_be_bytes.ensures i) (c.to_be_bytes-2.ensures i) (c.to_be_bytes-3.ensures i)
