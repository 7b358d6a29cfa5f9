-- Vectors that are kept flat.
use Rattle.std.proofs.Common.{ℕ, zero, suc, ◌+◌, ◌<◌, ◌≡◌, List, [], ◌∷◌, ◌++◌, length, take, drop, map, refl, ap, ◌∙◌, arith, length-append, length-drop, slice_index}
use Rattle.std.specs.List.{All}
use Rattle.std.proofs.lemmas.List.{drop-append-le, map-append, take_all, take-append-le}
use Rattle.std.proofs.lemmas.List.Elements.{All-append}
use Rattle.std.proofs.Math.Seq.{drop-append-add, drop-append_seam}
use Rattle.tau_base.specs.declared.lv_list.Mark.{Mark}
use Rattle.tau_base.specs.KeptLvList.{vector_at, IsMark, mark_behind}

-- a vector stays where more positions come after it
pub vector_stays : (ps more : List ℕ) (m : Mark) → IsMark ps m → vector_at (ps ++ more) m ≡ vector_at ps m
vector_stays ps more m is =
    let long = length-drop m.at ps in
    ap (take m.width) (drop-append-le m.at ps more (omega (arith, is.within)))
    ∙ take-append-le m.width (drop m.at ps) more (omega (arith, is.within, long))

pub vectors_stay : (ps more : List ℕ) (ms : List Mark) → All (IsMark ps) ms → map (vector_at (ps ++ more)) ms ≡ map (vector_at ps) ms
vectors_stay ps more [] all = refl
vectors_stay ps more (m ∷ ms) all =
    let here = vector_stays ps more m (all 0 m (omega arith)) in
    let rest = vectors_stay ps more ms (λ k d lt. all (suc k) d (omega (arith, lt))) in
    λ i. here i ∷ rest i

pub mark_stays : (ps more : List ℕ) (m : Mark) → IsMark ps m → IsMark (ps ++ more) m
mark_stays ps more m is = record { low = is.low; high = is.high; within = let h = is.within in let e = length-append ps more in omega (arith, h, e) }

pub marks_stay : (ps more : List ℕ) (ms : List Mark) → All (IsMark ps) ms → All (IsMark (ps ++ more)) ms
marks_stay ps more ms all k d lt = mark_stays ps more _ (all k d lt)

-- the vector whose positions were put at the end
pub vector_put : (ps vs : List ℕ) (m : Mark) → m.at ≡ length ps → m.width ≡ length vs → vector_at (ps ++ vs) m ≡ vs
vector_put ps vs m at wide =
    ap (λ (k : ℕ). take m.width (drop k (ps ++ vs))) at
    ∙ ap (take m.width) (drop-append_seam ps vs)
    ∙ take_all m.width vs (omega (arith, wide))

pub vectors_put : (ps vs : List ℕ) (ms : List Mark) (m : Mark) → All (IsMark ps) ms → m.at ≡ length ps → m.width ≡ length vs
    → map (vector_at (ps ++ vs)) (ms ++ m ∷ []) ≡ map (vector_at ps) ms ++ vs ∷ []
vectors_put ps vs ms m all at wide =
    map-append (vector_at (ps ++ vs)) ms (m ∷ [])
    ∙ (λ i. vectors_stay ps vs ms all i ++ vector_put ps vs m at wide i ∷ [])

-- the vectors of another list, whose positions were put at the end
pub vectors_behind : (ps qs : List ℕ) (n : ℕ) (ms : List Mark) → n ≡ length ps → map (vector_at (ps ++ qs)) (map (mark_behind n) ms) ≡ map (vector_at qs) ms
vectors_behind ps qs n [] e = refl
vectors_behind ps qs n (m ∷ ms) e =
    let here : vector_at (ps ++ qs) (mark_behind n m) ≡ vector_at qs m = ap (λ (k : ℕ). take m.width (drop (k + m.at) (ps ++ qs))) e ∙ ap (take m.width) (drop-append-add ps qs m.at) in
    let rest = vectors_behind ps qs n ms e in
    λ i. here i ∷ rest i

pub vectors_joined : (ps qs : List ℕ) (n : ℕ) (ms ns : List Mark) → n ≡ length ps → All (IsMark ps) ms
    → map (vector_at (ps ++ qs)) (ms ++ map (mark_behind n) ns) ≡ map (vector_at ps) ms ++ map (vector_at qs) ns
vectors_joined ps qs n ms ns e all =
    map-append (vector_at (ps ++ qs)) ms (map (mark_behind n) ns)
    ∙ (λ i. vectors_stay ps qs ms all i ++ vectors_behind ps qs n ns e i)

marks_behind : (ps qs : List ℕ) (n : ℕ) (ms : List Mark) → n ≡ length ps → All (IsMark qs) ms → All (IsMark (ps ++ qs)) (map (mark_behind n) ms)
marks_behind ps qs n [] e all k d lt = absurd (omega (arith, lt))
marks_behind ps qs n (m ∷ ms) e all zero d lt =
    let is = all 0 m (omega arith) in
    record { low = is.low; high = is.high; within = let h = is.within in let long = length-append ps qs in omega (arith, h, long, e) }
marks_behind ps qs n (m ∷ ms) e all (suc k) d lt = marks_behind ps qs n ms e (λ j x below. all (suc j) x (omega (arith, below))) k d (omega (arith, lt))

pub marks_joined : (ps qs : List ℕ) (n : ℕ) (ms ns : List Mark) → n ≡ length ps → All (IsMark ps) ms → All (IsMark qs) ns → All (IsMark (ps ++ qs)) (ms ++ map (mark_behind n) ns)
marks_joined ps qs n ms ns e all others = All-append (IsMark (ps ++ qs)) ms (map (mark_behind n) ns) (marks_stay ps qs ms all) (marks_behind ps qs n ns e others)

pub small_joined : (b : ℕ) (ps qs : List ℕ) → ((k : ℕ) → slice_index ps k < b) → ((k : ℕ) → slice_index qs k < b) → (k : ℕ) → slice_index (ps ++ qs) k < b
small_joined b [] qs small others k = others k
small_joined b (p ∷ ps) qs small others zero = small 0
small_joined b (p ∷ ps) qs small others (suc k) = small_joined b ps qs (λ j. small (suc j)) others k
