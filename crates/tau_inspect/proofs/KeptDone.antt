-- What calls did stays where more rows come after theirs.
use Rattle.std.proofs.Common.{ℕ, zero, suc, ◌-◌, ◌≤◌, ◌≡◌, List, [], ◌∷◌, ◌++◌, length, take, drop, map, refl, sym, ap, ◌∙◌, arith, length-append, length-drop, append_assoc}
use Rattle.std.specs.List.{All}
use Rattle.std.proofs.lemmas.List.{drop-append-le, map-append, take_all, take-append-le}
use Rattle.std.proofs.lemmas.List.Elements.{All-append}
use Rattle.std.proofs.Math.Seq.{drop-append_seam}
use Rattle.tau_base.specs.declared.value.Key.{Key}
use Rattle.tau_base.specs.declared.value.Value.{Value}
use Rattle.tau_proc.specs.Effect.{Effect}
use Rattle.tau_inspect.specs.declared.executed.Extent.{Extent}
use Rattle.tau_inspect.specs.KeptDone.{done_in, IsExtent}

part_stays : (rows more : List (Key × Value)) (a b : ℕ) → a ≤ b → b ≤ length rows → take (b - a) (drop a (rows ++ more)) ≡ take (b - a) (drop a rows)
part_stays rows more a b le within =
    let long = length-drop a rows in
    ap (take (b - a)) (drop-append-le a rows more (omega (arith, le, within)))
    ∙ take-append-le (b - a) (drop a rows) more (omega (arith, le, within, long))

done_stays : (rows more : List (Key × Value)) (m : Extent) → IsExtent rows m → done_in (rows ++ more) m ≡ done_in rows m
done_stays rows more m is =
    let reads = part_stays rows more m.from m.middle is.reads (let a = is.writes in let b = is.within in omega (arith, a, b)) in
    let writes = part_stays rows more m.middle m.past is.writes is.within in
    λ i. record { reads = reads i; writes = writes i; reply = m.reply }

all_stay : (rows more : List (Key × Value)) (ms : List Extent) → All (IsExtent rows) ms → map (done_in (rows ++ more)) ms ≡ map (done_in rows) ms
all_stay rows more [] all = refl
all_stay rows more (m ∷ ms) all =
    let here = done_stays rows more m (all 0 m (omega arith)) in
    let rest = all_stay rows more ms (λ k d lt. all (suc k) d (omega (arith, lt))) in
    λ i. here i ∷ rest i

extent_stays : (rows more : List (Key × Value)) (m : Extent) → IsExtent rows m → IsExtent (rows ++ more) m
extent_stays rows more m is = record { reads = is.reads; writes = is.writes; within = let h = is.within in let e = length-append rows more in omega (arith, h, e) }

only_extent : (rows : List (Key × Value)) (m : Extent) → IsExtent rows m → All (IsExtent rows) (m ∷ [])
only_extent rows m is zero d lt = is
only_extent rows m is (suc k) d lt = absurd (omega (arith, lt))

-- one call more, whose rows were put at the end
module _ (rows reads writes : List (Key × Value)) (m : Extent) (from : m.from ≡ length rows) (middle : m.middle ≡ length (rows ++ reads)) (past : m.past ≡ length ((rows ++ reads) ++ writes)) where
  is_last : IsExtent ((rows ++ reads) ++ writes) m
  is_last =
      let a = length-append rows reads in let b = length-append (rows ++ reads) writes in
      record { reads = omega (arith, from, middle, a); writes = omega (arith, middle, past, b); within = omega (arith, past) }

  reads_last : take (m.middle - m.from) (drop m.from ((rows ++ reads) ++ writes)) ≡ reads
  reads_last =
      let a = length-append rows reads in
      ap (λ (k : ℕ). take (m.middle - m.from) (drop k ((rows ++ reads) ++ writes))) from
      ∙ ap (λ (l : List (Key × Value)). take (m.middle - m.from) (drop (length rows) l)) (append_assoc rows reads writes)
      ∙ ap (take (m.middle - m.from)) (drop-append_seam rows (reads ++ writes))
      ∙ take-append-le (m.middle - m.from) reads writes (omega (arith, from, middle, a))
      ∙ take_all (m.middle - m.from) reads (omega (arith, from, middle, a))

  writes_last : take (m.past - m.middle) (drop m.middle ((rows ++ reads) ++ writes)) ≡ writes
  writes_last =
      let b = length-append (rows ++ reads) writes in
      ap (λ (k : ℕ). take (m.past - m.middle) (drop k ((rows ++ reads) ++ writes))) middle
      ∙ ap (take (m.past - m.middle)) (drop-append_seam (rows ++ reads) writes)
      ∙ take_all (m.past - m.middle) writes (omega (arith, middle, past, b))

  pub extents_more : (ms : List Extent) → All (IsExtent rows) ms → All (IsExtent ((rows ++ reads) ++ writes)) (ms ++ m ∷ [])
  extents_more ms all = All-append (IsExtent ((rows ++ reads) ++ writes)) ms (m ∷ []) (λ k d lt. extent_stays (rows ++ reads) writes _ (extent_stays rows reads _ (all k d lt))) (only_extent ((rows ++ reads) ++ writes) m is_last)

  pub done_more : (ms : List Extent) → All (IsExtent rows) ms → (e : Effect) → e.reads ≡ reads → e.writes ≡ writes → m.reply ≡ e.reply →
      map (done_in ((rows ++ reads) ++ writes)) (ms ++ m ∷ []) ≡ map (done_in rows) ms ++ e ∷ []
  done_more ms all e r w reply =
      let first = all_stay (rows ++ reads) writes ms (λ k d lt. extent_stays rows reads _ (all k d lt)) ∙ all_stay rows reads ms all in
      let read = reads_last ∙ sym r in
      let wrote = writes_last ∙ sym w in
      map-append (done_in ((rows ++ reads) ++ writes)) ms (m ∷ [])
      ∙ (λ i. first i ++ (record { reads = read i; writes = wrote i; reply = reply i }) ∷ [])
