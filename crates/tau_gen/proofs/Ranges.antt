-- One more generated call.
use Rattle.std.proofs.Common.{◌≡◌, ℕ, zero, suc, ◌+◌, List, [], ◌∷◌, ◌++◌, map, ap, ◌∙◌, arith}
use Rattle.std.specs.List.{range_with_len}
use Rattle.std.proofs.lemmas.List.{map-append}
use Rattle.tau_gen.specs.Generated.{call_of, calls_of}

range_more : (a n : ℕ) → range_with_len a (suc n) ≡ range_with_len a n ++ (a + n) ∷ []
range_more a zero = let same : a ≡ a + 0 = omega arith in ap (λ (x : ℕ). x ∷ []) same
range_more a (suc n) =
    let same : a + 1 + n ≡ a + suc n = omega arith in
    ap (λ (xs : List ℕ). a ∷ xs) (range_more (a + 1) n ∙ ap (λ (x : ℕ). range_with_len (a + 1) n ++ x ∷ []) same)

pub calls_more : (start i : ℕ) → calls_of start (i + 1) ≡ calls_of start i ++ call_of start (i + 1) ∷ []
calls_more start i =
    let k : i + 1 ≡ suc i = omega arith in
    let j : 1 + i ≡ i + 1 = omega arith in
    ap (calls_of start) k ∙ ap (map (call_of start)) (range_more 1 i) ∙ map-append (call_of start) (range_with_len 1 i) ((1 + i) ∷ []) ∙ ap (λ (x : ℕ). calls_of start i ++ call_of start x ∷ []) j
