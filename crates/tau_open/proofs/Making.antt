-- One more stream is made, or is not.
use Rattle.std.proofs.Common.{ℕ, suc, ◌≡◌, ◌+◌, ◌<◌, List, [], ◌∷◌, ◌++◌, refl, sym, ap, ◌∙◌, subst, inl, inr, length, map, drop, arith}
use Rattle.std.specs.Prelude.{Some, slice_get}
use Rattle.std.proofs.lemmas.Bool.{cases_eq}
use Rattle.std.proofs.lemmas.List.{length-append, length-map, length-drop, map-append, drop-drop}
use Rattle.std.proofs.lemmas.Option.{slice_get_within}
use Rattle.tau_disk.specs.declared.disk.Disk.{Ghosts}
use Rattle.tau_stream.specs.declared.writer.Writer.{Writer}
use Rattle.tau_stream.specs.Writer.{disk_of}
use Rattle.tau_open.specs.declared.refusal.OpenRefusal.{OpenRefusal}
use Rattle.tau_open.specs.declared.refusal.OpenRefusal.TheVariants.{NoMemory, Failed, NotEmpty}
use Rattle.tau_disk.specs.Used.{EachIn, AreEmpty, OfDisk}
use Rattle.tau_open.specs.Opening.{IsCreated, FailsCreated, IsBegun}
use Rattle.tau_open.specs.Creating.{CreatesNext, KeepsPlace, Creating, StopsCreating, Stops, Fails}
use Rattle.tau_disk.proofs.Places.{get_append, get_seam, get_drop, each_moved}
use Rattle.tau_base.proofs.Logic.{some_is}

module _ {D : Type 0} (G : Ghosts D) (n : ℕ) (content : List ℕ) where
  -- the first disk that is left is the j-th
  pub first_left : (j : ℕ) (old left : List D) (d : D) → left ≡ drop j old → slice_get left 0 ≡ Some d → slice_get old j ≡ Some d
  first_left j old left d rest first =
      let e : j + 0 ≡ j = omega arith in
      ap (λ (k : ℕ). slice_get old k) (sym e) ∙ sym (get_drop j old 0) ∙ ap (λ (ds : List D). slice_get ds 0) (sym rest) ∙ first

  pub none_held : (j : ℕ) (old left : List D) (writers : List (Writer D G)) → Creating G n content j old left writers → AreEmpty G.tells G.seen old n → j < n →
      G.tells → (d : D) → slice_get left 0 ≡ Some d → G.seen d ≡ []
  none_held j old left writers made empty lt t d first = empty j d lt (first_left j old left d made.rest first) t

  pub creating_none : (old : List D) (writers : List (Writer D G)) → writers ≡ [] → Creating G n content 0 old old writers
  creating_none old writers none = record {
    count = ap (λ (ws : List (Writer D G)). length ws) none;
    rest = refl;
    disks = λ i d low was. absurd (omega (arith, low));
    begun = λ i w is. let no : length writers ≡ 0 = ap (λ (ws : List (Writer D G)). length ws) none in absurd (omega (arith, slice_get_within writers i w is, no));
  }

  rest_left : (j : ℕ) (old left : List D) (d : D) → d ∷ left ≡ drop j old → left ≡ drop (j + 1) old
  rest_left j old left d rest = ap (λ (ds : List D). drop 1 ds) rest ∙ drop-drop 1 j old

  long_enough : (j : ℕ) (old left : List D) (d : D) → d ∷ left ≡ drop j old → length left + j + 1 ≡ length old
  long_enough j old left d rest =
      let e : length (d ∷ left) ≡ length (drop j old) = ap (λ (ds : List D). length ds) rest in
      omega (arith, e, length-drop j old)

  pub creating_more : (j : ℕ) (old left left' : List D) (writers writers' : List (Writer D G)) → Creating G n content j old left writers → CreatesNext G n content j left left' writers writers' →
      Creating G n content (j + 1) old left' writers'
  creating_more j old left left' writers writers' made next =
      let first : next.disk ∷ left' ≡ drop j old = sym next.taken ∙ made.rest in
      let here : slice_get old j ≡ Some next.disk = first_left j old (next.disk ∷ left') next.disk first refl in
      let front : map disk_of writers' ≡ map disk_of writers ++ disk_of next.writer ∷ [] = ap (λ (ws : List (Writer D G)). map disk_of ws) next.put ∙ map-append disk_of writers (next.writer ∷ []) in
      let size : length (map disk_of writers) ≡ j = length-map writers disk_of ∙ made.count in
      record {
        count = ap (λ (ws : List (Writer D G)). length ws) next.put ∙ length-append writers (next.writer ∷ []) ∙ ap (λ (k : ℕ). k + 1) made.count;
        rest = rest_left j old left' next.disk first;
        disks = subst (λ (ds : List D). EachIn (λ i. i < j + 1) (IsCreated G n content) old ds) (sym front) (λ i b low was. elim (cases_eq i j) [
          | inl same ↦
              let mine : slice_get old j ≡ Some b = subst (λ (k : ℕ). slice_get old k ≡ Some b) same was in
              let is : next.disk ≡ b = some_is next.disk b (sym here ∙ mine) in (
                disk_of next.writer,
                get_seam (map disk_of writers) (disk_of next.writer) [] i (size ∙ sym same),
                subst (λ (k : ℕ). IsCreated G n content k b (disk_of next.writer)) (sym same) (subst (λ (z : D). IsCreated G n content j z (disk_of next.writer)) is next.created),
              )
          | inr other ↦
              let (e, is, r) = made.disks i b (omega (arith, low, other)) was in
              (e, get_append (map disk_of writers) (disk_of next.writer ∷ []) i (omega (arith, size, low, other)) ∙ is, r)
        ]);
        begun = λ i w is.
            let at : slice_get (writers ++ next.writer ∷ []) i ≡ Some w = subst (λ (ws : List (Writer D G)). slice_get ws i ≡ Some w) next.put is in
            let low : i < length (writers ++ next.writer ∷ []) = slice_get_within (writers ++ next.writer ∷ []) i w at in
            elim (cases_eq i j) [
              | inl same ↦
                  let it : next.writer ≡ w = cc (get_seam writers next.writer [] i (made.count ∙ sym same), at) in
                  subst (λ (k : ℕ). IsBegun n content k w) (sym same) (subst (λ (z : Writer D G). IsBegun n content j z) it next.begun)
              | inr other ↦ made.begun i w (sym (get_append writers (next.writer ∷ []) i (omega (arith, low, length-append writers (next.writer ∷ []), made.count, other))) ∙ at)
            ];
      }

  module _ (j : ℕ) (old left : List D) (writers : List (Writer D G)) (made : Creating G n content j old left writers) (lt : j < n) where
    stops_creating : (d e : D) (rest : List D) → d ∷ rest ≡ drop j old → StopsCreating G n content old (map disk_of writers ++ e ∷ rest) j
    stops_creating d e rest first =
        let size : length (map disk_of writers) ≡ j = length-map writers disk_of ∙ made.count in
        record {
          below = each_moved (λ i. i < j) (IsCreated G n content) old (map disk_of writers) (map disk_of writers ++ e ∷ rest) made.disks (λ i low. get_append (map disk_of writers) (e ∷ rest) i (omega (arith, size, low)));
          rest = dropped (map disk_of writers) e rest j size ∙ rest_left j old rest d first;
          many = length-append (map disk_of writers) (e ∷ rest) ∙ omega (arith, size, long_enough j old rest d first);
        }
      where
        dropped : (xs : List D) (y : D) (ys : List D) (k : ℕ) → length xs ≡ k → drop (k + 1) (xs ++ y ∷ ys) ≡ ys
        dropped [] y ys k is = let e : k + 1 ≡ 1 = omega (arith, is) in ap (λ (i : ℕ). drop i (y ∷ ys)) e
        dropped (x ∷ xs) y ys k is =
            let e : k + 1 ≡ length xs + 1 + 1 = omega (arith, is) in
            ap (λ (i : ℕ). drop i (x ∷ (xs ++ y ∷ ys))) e ∙ dropped_one (length xs + 1) x (xs ++ y ∷ ys) ∙ dropped xs y ys (length xs) refl
          where
            dropped_one : (k : ℕ) (x : D) (ys : List D) → drop (k + 1) (x ∷ ys) ≡ drop k ys
            dropped_one k x ys = let e : k + 1 ≡ suc k = omega arith in ap (λ (i : ℕ). drop i (x ∷ ys)) e

    at_stop : (R : D → D → Type 0) (d e : D) (rest : List D) → d ∷ rest ≡ drop j old → R d e → OfDisk R old (map disk_of writers ++ e ∷ rest) j
    at_stop R d e rest first r =
        (d, e, first_left j old (d ∷ rest) d first refl, get_seam (map disk_of writers) e rest j (length-map writers disk_of ∙ made.count), r)

    pub stops : (new : List D) (refusal : OpenRefusal) → KeepsPlace G n content j left new refusal → Stops G n content old (map disk_of writers ++ new) refusal
    stops new refusal keeps =
        let first : keeps.disk ∷ keeps.rest ≡ drop j old = sym keeps.taken ∙ made.rest in
        subst (λ (ds : List D). Stops G n content old (map disk_of writers ++ ds) refusal) (sym keeps.put) (by_cause refusal keeps.disk keeps.now keeps.rest first keeps.why)
      where
        by_cause : (refusal : OpenRefusal) (d e : D) (rest : List D) → d ∷ rest ≡ drop j old → Fails G n content j d e refusal → Stops G n content old (map disk_of writers ++ e ∷ rest) refusal
        by_cause NoMemory d e rest first same = (j, lt, stops_creating d e rest first, at_stop (λ d e. e ≡ d) d e rest first same)
        by_cause (Failed i) d e rest first why =
            subst (λ (k : ℕ). Stops G n content old (map disk_of writers ++ e ∷ rest) (Failed k)) (sym why.0) (lt, stops_creating d e rest first, at_stop (FailsCreated G n content j) d e rest first why.1)
        by_cause (NotEmpty i long) d e rest first why = absurd why
