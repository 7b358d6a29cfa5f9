-- The text of a vector, one component more at a time.
use Rattle.std.proofs.Common.{ℕ, zero, suc, ◌≡◌, ◌+◌, ◌<◌, ◌≤◌, List, [], ◌∷◌, ◌++◌, take, length, refl, sym, ap, ◌∙◌, append_assoc, arith, add-one}
use Rattle.std.specs.Prelude.{slice_index}
use Rattle.std.specs.Fmt.{decimal}
use Rattle.tau_report.specs.Lines.{vector_text}

behind_one : (v : List ℕ) (j : ℕ) → suc j < length v → vector_text (take (suc (suc j)) v) ≡ vector_text (take (suc j) v) ++ 44 ∷ decimal (slice_index v (suc j))
behind_one [] j lt = absurd (omega (arith, lt))
behind_one (x ∷ []) j lt = absurd (omega (arith, lt))
behind_one (x ∷ y ∷ ys) zero lt = refl
behind_one (x ∷ y ∷ ys) (suc j) lt =
    ap (λ (r : List ℕ). decimal x ++ 44 ∷ r) (behind_one (y ∷ ys) j (omega (arith, lt)))
    ∙ sym (append_assoc (decimal x) (44 ∷ vector_text (take (suc j) (y ∷ ys))) (44 ∷ decimal (slice_index (y ∷ ys) (suc j))))

vector_more : (v : List ℕ) (j : ℕ) → 1 ≤ j → j < length v → vector_text (take (j + 1) v) ≡ vector_text (take j v) ++ 44 ∷ decimal (slice_index v j)
vector_more v zero low lt = absurd (omega (arith, low))
vector_more v (suc j) low lt = rw add-one (behind_one v j lt)

pub component_more : (old out pushed new v : List ℕ) (j x : ℕ) → 1 ≤ j → j < length v → x ≡ slice_index v j →
    out ≡ old ++ 32 ∷ vector_text (take j v) → pushed ≡ out ++ 44 ∷ [] → new ≡ pushed ++ decimal x → new ≡ old ++ 32 ∷ vector_text (take (j + 1) v)
component_more old out pushed new v j x low lt is was comma digits =
    digits ∙ ap (λ (p : List ℕ). p ++ decimal x) (comma ∙ ap (λ (o : List ℕ). o ++ 44 ∷ []) was)
    ∙ append_assoc (old ++ 32 ∷ vector_text (take j v)) (44 ∷ []) (decimal x)
    ∙ append_assoc old (32 ∷ vector_text (take j v)) (44 ∷ decimal x)
    ∙ ap (λ (y : ℕ). old ++ 32 ∷ (vector_text (take j v) ++ 44 ∷ decimal y)) is
    ∙ ap (λ (t : List ℕ). old ++ 32 ∷ t) (sym (vector_more v j low lt))
