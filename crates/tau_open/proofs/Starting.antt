-- One more stream starts, or does not.
use Rattle.std.proofs.Common.{ℕ, ◌≡◌, ◌+◌, ◌<◌, ◌≤◌, List, [], ◌∷◌, ◌++◌, refl, sym, ap, ◌∙◌, subst, inl, inr, length, map, drop, reverse, arith}
use Rattle.std.specs.Prelude.{Some, slice_get}
use Rattle.std.proofs.lemmas.Bool.{cases_eq}
use Rattle.std.proofs.lemmas.List.{length-append, length-map, length-drop, map-append, drop-drop, drop_at}
use Rattle.std.proofs.lemmas.Option.{slice_get_within}
use Rattle.tau_base.proofs.Logic.{some_is}
use Rattle.tau_disk.specs.declared.disk.Disk.{Ghosts}
use Rattle.tau_disk.specs.Disk.{Rose}
use Rattle.tau_disk.specs.Plan.{MadeSome}
use Rattle.tau_disk.specs.Used.{EachIn}
use Rattle.tau_stream.specs.declared.flush.Flush.{Flush}
use Rattle.tau_stream.specs.declared.flush.Flush.TheVariants as flush
use Rattle.tau_stream.specs.declared.writer.Writer.{Writer}
use Rattle.tau_stream.specs.Stream.{IsRead, calls_to_reopen}
use Rattle.tau_stream.specs.Writer.{disk_of}
use Rattle.tau_open.specs.declared.refusal.OpenRefusal.{OpenRefusal}
use Rattle.tau_open.specs.declared.refusal.OpenRefusal.TheVariants.{NoMemory, Failed, NotEmpty}
use Rattle.tau_open.specs.declared.start.StreamStart.{StreamStart}
use Rattle.tau_open.specs.Reopening.{AreRead, Starts, IsStarted, FailsStarted, StartedAt, RefusesStart, HasStarted, Starting, StartsNext, FailsNext, PutsBack}
use Rattle.tau_disk.proofs.Places.{get_append, get_seam, get_drop, each_moved}

module _ {D : Type 0} (G : Ghosts D) where
  -- why a stream was not started
  pub fails_next : (p : StreamStart) (j : ℕ) (d e : D) (refusal : Flush) (told : OpenRefusal) → (refusal ≡ flush.Failed → told ≡ Failed j) → (refusal ≡ flush.NoMemory → told ≡ NoMemory) →
      G.faults d ≤ G.faults e → (G.tells → (k : ℕ) → G.fails e k ≡ G.fails d k) →
      (refusal ≡ flush.Failed → G.tells → MadeSome (calls_to_reopen p.content.count) (G.number d) (G.number e) (G.fails d) (G.short e)) → (refusal ≡ flush.Failed → Rose (G.faults d) (G.faults e)) →
      (refusal ≡ flush.NoMemory → e ≡ d) → (refusal ≡ flush.Idle → ⊥) → Starts G p d e → FailsNext G p j d e told
  fails_next p j d e flush.NoMemory told failed memory counts same made rose kept idle starts = subst (λ (r : OpenRefusal). FailsNext G p j d e r) (sym (memory refl)) (kept refl)
  fails_next p j d e flush.Failed told failed memory counts same made rose kept idle starts =
      subst (λ (r : OpenRefusal). FailsNext G p j d e r) (sym (failed refl)) (refl, record { broke = record { counts = counts; rose = rose refl; same = same; made = made refl }; starts = starts })
  fails_next p j d e flush.Idle told failed memory counts same made rose kept idle starts = absurd (idle refl)

module _ {D : Type 0} (G : Ghosts D) (ps : List StreamStart) where
  -- the first disk that is left is the j-th
  first_left : (j : ℕ) (old left : List D) (d : D) → left ≡ drop j old → slice_get left 0 ≡ Some d → slice_get old j ≡ Some d
  first_left j old left d rest first =
      let e : j + 0 ≡ j = omega arith in
      ap (λ (k : ℕ). slice_get old k) (sym e) ∙ sym (get_drop j old 0) ∙ ap (λ (ds : List D). slice_get ds 0) (sym rest) ∙ first

  pub next_read : (j : ℕ) (old left : List D) (writers : List (Writer D G)) (p : StreamStart) → Starting G ps j old left writers → AreRead G ps old → slice_get ps j ≡ Some p →
      (d : D) → slice_get left 0 ≡ Some d → IsRead p.head p.content (G.seen d) (G.may_leave d)
  next_read j old left writers p made read at d first = read j d p (first_left j old left d made.rest_is first) at

  pub starting_none : (old : List D) (writers : List (Writer D G)) → writers ≡ [] → Starting G ps 0 old old writers
  starting_none old writers none = record {
    count = ap (λ (ws : List (Writer D G)). length ws) none;
    rest_is = refl;
    disks = λ i d low was. absurd (omega (arith, low));
    begun = λ i w p is at. let no : length writers ≡ 0 = ap (λ (ws : List (Writer D G)). length ws) none in absurd (omega (arith, slice_get_within writers i w is, no));
  }

  rest_left : (j : ℕ) (old left : List D) (d : D) → d ∷ left ≡ drop j old → left ≡ drop (j + 1) old
  rest_left j old left d rest = ap (λ (ds : List D). drop 1 ds) rest ∙ drop-drop 1 j old

  long_enough : (j : ℕ) (old left : List D) (d : D) → d ∷ left ≡ drop j old → length left + j + 1 ≡ length old
  long_enough j old left d rest =
      let e : length (d ∷ left) ≡ length (drop j old) = ap (λ (ds : List D). length ds) rest in
      omega (arith, e, length-drop j old)

  pub starting_more : (j : ℕ) (old left left' : List D) (writers writers' : List (Writer D G)) (p : StreamStart) → slice_get ps j ≡ Some p → Starting G ps j old left writers → StartsNext G p left left' writers writers' →
      Starting G ps (j + 1) old left' writers'
  starting_more j old left left' writers writers' p mine made next =
      let first : next.disk ∷ left' ≡ drop j old = sym next.taken ∙ made.rest_is in
      let here : slice_get old j ≡ Some next.disk = first_left j old (next.disk ∷ left') next.disk first refl in
      let front : map disk_of writers' ≡ map disk_of writers ++ disk_of next.writer ∷ [] = ap (λ (ws : List (Writer D G)). map disk_of ws) next.put ∙ map-append disk_of writers (next.writer ∷ []) in
      let size : length (map disk_of writers) ≡ j = length-map writers disk_of ∙ made.count in
      record {
        count = ap (λ (ws : List (Writer D G)). length ws) next.put ∙ length-append writers (next.writer ∷ []) ∙ ap (λ (k : ℕ). k + 1) made.count;
        rest_is = rest_left j old left' next.disk first;
        disks = subst (λ (ds : List D). EachIn (λ i. i < j + 1) (StartedAt G ps) old ds) (sym front) (λ i b low was. elim (cases_eq i j) [
          | inl same ↦
              let mine_too : slice_get old j ≡ Some b = subst (λ (k : ℕ). slice_get old k ≡ Some b) same was in
              let is : next.disk ≡ b = some_is next.disk b (sym here ∙ mine_too) in (
                disk_of next.writer,
                get_seam (map disk_of writers) (disk_of next.writer) [] i (size ∙ sym same),
                λ q at.
                    let it : p ≡ q = some_is p q (sym mine ∙ subst (λ (k : ℕ). slice_get ps k ≡ Some q) same at) in
                    subst (λ (z : D). IsStarted G q z (disk_of next.writer)) is (subst (λ (r : StreamStart). IsStarted G r next.disk (disk_of next.writer)) it next.made),
              )
          | inr other ↦
              let (e, is, r) = made.disks i b (omega (arith, low, other)) was in
              (e, get_append (map disk_of writers) (disk_of next.writer ∷ []) i (omega (arith, size, low, other)) ∙ is, r)
        ]);
        begun = λ i w q is mine_too.
            let at : slice_get (writers ++ next.writer ∷ []) i ≡ Some w = subst (λ (ws : List (Writer D G)). slice_get ws i ≡ Some w) next.put is in
            let low : i < length (writers ++ next.writer ∷ []) = slice_get_within (writers ++ next.writer ∷ []) i w at in
            elim (cases_eq i j) [
              | inl same ↦
                  let it : next.writer ≡ w = cc (get_seam writers next.writer [] i (made.count ∙ sym same), at) in
                  let is_p : p ≡ q = some_is p q (sym mine ∙ subst (λ (k : ℕ). slice_get ps k ≡ Some q) same mine_too) in
                  subst (λ (r : StreamStart). HasStarted r w) is_p (subst (λ (z : Writer D G). HasStarted p z) it next.begun)
              | inr other ↦ made.begun i w q (sym (get_append writers (next.writer ∷ []) i (omega (arith, low, length-append writers (next.writer ∷ []), made.count, other))) ∙ at) mine_too
            ];
      }

  -- what was left when the making stopped stands after the disks of the writers
  stops : (j : ℕ) (old left new : List D) (writers : List (Writer D G)) (p : StreamStart) (refusal : OpenRefusal) → j < length ps → slice_get ps j ≡ Some p → Starting G ps j old left writers → PutsBack G p j left new refusal →
      RefusesStart G ps old (map disk_of writers ++ new) refusal
  stops j old left new writers p refusal lt mine made back =
      let first : back.disk ∷ back.rest ≡ drop j old = sym back.taken ∙ made.rest_is in
      subst (λ (ds : List D). RefusesStart G ps old (map disk_of writers ++ ds) refusal) (sym back.put) (by_cause refusal back.disk back.now back.rest first back.why)
    where
      size : length (map disk_of writers) ≡ j
      size = length-map writers disk_of ∙ made.count

      below : (ds : List D) → EachIn (λ i. i < j) (StartedAt G ps) old (map disk_of writers ++ ds)
      below ds = each_moved (λ i. i < j) (StartedAt G ps) old (map disk_of writers) (map disk_of writers ++ ds) made.disks (λ i low. get_append (map disk_of writers) ds i (omega (arith, size, low)))

      many : (e : D) (d : D) (rest : List D) → d ∷ rest ≡ drop j old → length (map disk_of writers ++ e ∷ rest) ≡ length old
      many e d rest first = length-append (map disk_of writers) (e ∷ rest) ∙ omega (arith, size, long_enough j old rest d first)

      at_rest : (xs ys : List D) → length xs ≡ j → drop j (xs ++ ys) ≡ ys
      at_rest xs ys is = drop_at xs ys j is

      by_cause : (refusal : OpenRefusal) (d e : D) (rest : List D) → d ∷ rest ≡ drop j old → FailsNext G p j d e refusal → RefusesStart G ps old (map disk_of writers ++ e ∷ rest) refusal
      by_cause NoMemory d e rest first same = (
        j,
        omega (arith, lt),
        record {
          each = below (e ∷ rest);
          rest = at_rest (map disk_of writers) (e ∷ rest) size ∙ ap (λ (z : D). z ∷ rest) same ∙ first;
          many = many e d rest first;
        },
      )
      by_cause (Failed i) d e rest first why =
          subst (λ (k : ℕ). RefusesStart G ps old (map disk_of writers ++ e ∷ rest) (Failed k)) (sym why.0) (
            lt,
            record {
              below = below (e ∷ rest);
              here = (d, e, first_left j old (d ∷ rest) d first refl, get_seam (map disk_of writers) e rest j size, λ q at. subst (λ (r : StreamStart). FailsStarted G r d e) (some_is p q (sym mine ∙ at)) why.1);
              rest = sym (drop-drop 1 j (map disk_of writers ++ e ∷ rest)) ∙ ap (λ (ds : List D). drop 1 ds) (at_rest (map disk_of writers) (e ∷ rest) size) ∙ rest_left j old rest d first;
              many = many e d rest first;
            },
          )
      by_cause (NotEmpty i long) d e rest first why = absurd why

  pub stopped : (j : ℕ) (old left new : List D) (writers : List (Writer D G)) (p : StreamStart) (refusal : OpenRefusal) → j < length ps → slice_get ps j ≡ Some p → Starting G ps j old left writers → PutsBack G p j left new refusal →
      RefusesStart G ps old (map disk_of writers ++ new) refusal
  stopped = stops

  -- the starts that are left are those from the j-th on
  pub next_start : (j : ℕ) (left left' : List StreamStart) (p : StreamStart) → reverse left ≡ drop j ps → reverse left ≡ p ∷ reverse left' → (slice_get ps j ≡ Some p) × (reverse left' ≡ drop (j + 1) ps)
  next_start j left left' p rest is =
      let first : p ∷ reverse left' ≡ drop j ps = sym is ∙ rest in
      let e : j + 0 ≡ j = omega arith in (
        ap (λ (k : ℕ). slice_get ps k) (sym e) ∙ sym (get_drop j ps 0) ∙ ap (λ (xs : List StreamStart). slice_get xs 0) (sym first),
        ap (λ (xs : List StreamStart). drop 1 xs) first ∙ drop-drop 1 j ps,
      )
