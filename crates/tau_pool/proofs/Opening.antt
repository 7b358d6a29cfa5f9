-- The pools of a log begin kept.
use Rattle.std.proofs.Common.{ℕ, zero, suc, ◌≡◌, ◌+◌, ◌<◌, ◌≤◌, ◌⊎◌, inl, inr, Bool, true, false, List, [], ◌∷◌, ◌++◌, map, take, drop, replicate, length, refl, sym, ap, subst, ◌∙◌, arith, slice_index, eq-eqb}
use Rattle.std.specs.Prelude.{Option, Some, None, slice_get, nat_lt, nat_le, ◌==◌, if◌then◌else◌}
use Rattle.std.specs.List.{AllZip}
use Rattle.std.proofs.lemmas.List.{length-append, length-map, length-replicate}
use Rattle.std.proofs.lemmas.Slice.Zip.{AllZip-long}
use Rattle.tau_base.specs.declared.limits.TheConstants.{MAX_STREAMS}
use Rattle.tau_scan.specs.declared.log.Log.{Log}
use Rattle.std.proofs.lemmas.Bool.Decides.{nat_tests}
use Rattle.tau_base.specs.Vectors.{AtMost, covers}
use Rattle.tau_model.specs.History.{Member}
use Rattle.tau_model.specs.Reported.{put_in, ascending}
use Rattle.tau_model.proofs.Logged.{member_filtered}
use Rattle.tau_model.proofs.Sorting.{Rising, ascending_rising}
use Rattle.tau_record.specs.declared.entry.Placed.{Placed}
use Rattle.tau_base.specs.declared.format.Format.{Format}
use Rattle.tau_record.specs.Record.{named, spelling, epoch_after}
use Rattle.tau_record.specs.Content.{named_after, Reads}
use Rattle.tau_record.proofs.ContentLaws.{spelling_long}
use Rattle.tau_scan.specs.Reading.{IsReading, IsLog}
use Rattle.tau_scan.specs.Epochs.{marks_of, judge_of}
use Rattle.tau_scan.proofs.Known.{judged_low}
use Rattle.tau_pool.specs.Item.{Item}
use Rattle.tau_pool.specs.declared.item.Stage.TheVariants.{Waiting}
use Rattle.tau_pool.specs.declared.waits.Wait.{Wait}
use Rattle.tau_pool.specs.Items.{is_waiting, dep_of, item_as, item_of, with_item, items_in, items_from, item_after, items_after}
use Rattle.tau_pool.specs.Passing.{wait_of, wait_at, waits_for, waits_at, Behind, Ordered, Rises}
use Rattle.tau_pool.specs.Pooled.{waiting_in, flying_in}
use Rattle.tau_pool.specs.Kept.{AreWithin, IsReached, AreQueued, IsKept, waits_in}
use Rattle.tau_pool.proofs.Keeping.{waiting_flies}
use Rattle.tau_pool.proofs.Gets.{get_member, member_either}
use Rattle.tau_pool.proofs.After.{ordered_filter}
use Rattle.tau_base.proofs.Logic.{some_is, zeros}

pub record OfStream (elv : List ℕ) (j low high : ℕ) (x : Item) : Type 0 where
  pub stream : x.stream ≡ j
  pub above : low ≤ x.start
  pub below : x.start < high
  pub taken : AtMost x.dep elv
  pub waits : is_waiting x.stage ≡ true

item_is : (lv : List ℕ) (j i start : ℕ) (o : Option (List ℕ)) (x : Item) → item_as lv j i start o ≡ Some x → (x.stream ≡ j) × (x.start ≡ start) × (covers lv x.dep ≡ true) × (is_waiting x.stage ≡ true)
item_is lv j i start None x is = absurd cc
item_is lv j i start (Some dep) x is = by_test (covers lv dep) refl is
  where
    by_test : (b : Bool) → covers lv dep ≡ b → (if b then Some (record { stream = j; index = i; start = start; dep = dep; stage = Waiting }) else None) ≡ Some x →
        (x.stream ≡ j) × (x.start ≡ start) × (covers lv x.dep ≡ true) × (is_waiting x.stage ≡ true)
    by_test true c e = subst (λ (q : Item). (q.stream ≡ j) × (q.start ≡ start) × (covers lv q.dep ≡ true) × (is_waiting q.stage ≡ true)) (some_is (record { stream = j; index = i; start = start; dep = dep; stage = Waiting }) x e)
        (refl, refl, c, refl)
    by_test false c e = absurd cc

abbrev Streamed : List ℕ → ℕ → ℕ → ℕ → List Item → Type 0
Streamed elv j low high xs = Ordered xs × ((x : Item) → Member x xs → OfStream elv j low high x)

-- what a judging vector covers the lengths cover
abbrev pub IsLow : List ℕ → (ℕ → List ℕ) → Type 0
IsLow elv judge = (k : ℕ) (dep : List ℕ) → covers (judge k) dep ≡ true → AtMost dep elv

in_stream : (elv : List ℕ) (judge : ℕ → List ℕ) → IsLow elv judge → (f : Format) (j n at k : ℕ) (vectors : List (List ℕ)) (content : List ℕ) (i : ℕ) (ps : List Placed) → Reads f n at k vectors content ps →
    Streamed elv j at (at + length content) (items_in judge j k i ps)
in_stream elv judge is_low f j n at k vectors content i [] r = (tt, λ x m. absurd m)
in_stream elv judge is_low f j n at k vectors content i (p ∷ ps) r =
    let text = spelling f vectors p.entry in
    let rest : List ℕ = r.0 in
    let long = spelling_long f vectors p.entry in
    let size : length content ≡ length text + length rest = ap (λ (xs : List ℕ). length xs) r.1.parts ∙ length-append text rest in
    let more = in_stream elv judge is_low f j n p.past (epoch_after k p.entry) (named_after vectors p.entry) rest (suc i) ps r.2 in
    by_item (at + length content) p.past (omega (arith, size, r.1.ends)) (omega (arith, r.1.ends, r.1.starts, long)) (omega (arith, r.1.starts)) (omega (arith, size, r.1.ends, r.1.starts, long)) more (item_of (judge k) j i p) refl
  where
    by_item : (high past : ℕ) → past + length r.0 ≡ high → p.start < past → at ≤ p.start → p.start < high → Streamed elv j past (past + length r.0) (items_in judge j (epoch_after k p.entry) (suc i) ps) →
        (o : Option Item) → item_of (judge k) j i p ≡ o → Streamed elv j at high (with_item o (items_in judge j (epoch_after k p.entry) (suc i) ps))
    by_item high past top lt low under more None is = (more.0, λ x m. let o = more.1 x m in record { stream = o.stream; above = omega (arith, o.above, lt, low); below = omega (arith, o.below, top); taken = o.taken; waits = o.waits })
    by_item high past top lt low under more (Some x) is =
        let h = item_is (judge k) j i p.start (dep_of p.entry) x is in (
          ((λ y m. let o = more.1 y m in inr (h.0 ∙ sym o.stream, omega (arith, h.1, lt, o.above))), more.0),
          λ y m. elim m [
            | inl e ↦ subst (λ (q : Item). OfStream elv j at high q) e (record { stream = h.0; above = omega (arith, h.1, low); below = omega (arith, h.1, under); taken = is_low k x.dep h.2; waits = h.3 })
            | inr t ↦ let o = more.1 y t in record { stream = o.stream; above = omega (arith, o.above, lt, low); below = omega (arith, o.below, top); taken = o.taken; waits = o.waits }
          ],
        )

ordered_append : (xs ys : List Item) → Ordered xs → Ordered ys → ((x y : Item) → Member x xs → Member y ys → Behind x y) → Ordered (xs ++ ys)
ordered_append [] ys a b all = b
ordered_append (x ∷ xs) ys a b all = (
  (λ y m. elim (member_either xs ys y m) [ inl t ↦ a.0 y t | inr t ↦ all x y (inl refl) t ]),
  ordered_append xs ys a.1 b (λ z y m t. all z y (inr m) t),
)

pub record OfLog (elv : List ℕ) (low high : ℕ) (x : Item) : Type 0 where
  pub above : low ≤ x.stream
  pub below : x.stream < high
  pub start : x.start ≤ slice_index elv x.stream
  pub taken : AtMost x.dep elv
  pub waits : is_waiting x.stage ≡ true

pub of_streams : (elv : List ℕ) (judge : ℕ → List ℕ) → IsLow elv judge → (f : Format) (n j : ℕ) (contents : List (List ℕ)) (streams : List (List Placed)) → AllZip (IsReading f n) contents streams →
    ((k : ℕ) → slice_index elv (j + k) ≡ slice_index (map (λ (c : List ℕ). length c) contents) k) →
    Ordered (items_from judge j streams) × ((x : Item) → Member x (items_from judge j streams) → OfLog elv j (j + length streams) x)
of_streams elv judge is_low f n j [] [] all ends = (tt, λ x m. absurd m)
of_streams elv judge is_low f n j [] (ps ∷ streams) all ends = absurd all
of_streams elv judge is_low f n j (c ∷ contents) [] all ends = absurd all
of_streams elv judge is_low f n j (c ∷ contents) (ps ∷ streams) all ends =
    let here = in_stream elv judge is_low f j n 0 0 (named n []) c 0 ps all.0.spelled in
    let rest = of_streams elv judge is_low f n (suc j) contents streams all.1 (λ k. ap (λ (q : ℕ). slice_index elv q) (omega arith) ∙ ends (suc k)) in
    let end : slice_index elv j ≡ length c = ap (λ (q : ℕ). slice_index elv q) (omega arith) ∙ ends 0 in (
      ordered_append (items_in judge j 0 0 ps) (items_from judge (suc j) streams) here.0 rest.0 (λ x y m t. let o = here.1 x m in let q = rest.1 y t in inl (omega (arith, o.stream, q.above))),
      λ x m. elim (member_either (items_in judge j 0 0 ps) (items_from judge (suc j) streams) x m) [
        | inl t ↦
            let o = here.1 x t in
            let at : slice_index elv x.stream ≡ length c = ap (λ (q : ℕ). slice_index elv q) o.stream ∙ end in
            record { above = omega (arith, o.stream); below = omega (arith, o.stream); start = omega (arith, o.below, at); taken = o.taken; waits = o.waits }
        | inr t ↦ let q = rest.1 x t in record { above = omega (arith, q.above); below = omega (arith, q.below); start = q.start; taken = q.taken; waits = q.waits }
      ],
    )

-- ---- counts

pub all_wait : (items : List Item) → ((x : Item) → Member x items → is_waiting x.stage ≡ true) → (waiting_in items ≡ length items) × (flying_in items ≡ 0)
all_wait [] all = (refl, refl)
all_wait (x ∷ xs) all =
    let rest = all_wait xs (λ y m. all y (inr m)) in
    let here = all x (inl refl) in
    (rw here (omega (arith, rest.0)), rw (waiting_flies x.stage here) (omega (arith, rest.1)))

-- ---- what waits

rises : (ws : List Wait) → Rising wait_at ws → Rises ws
rises [] h = tt
rises (w ∷ ws) h = (h.0, rises ws h.1)

pub listed_at : (k reach n : ℕ) (items : List Item) (i : ℕ) (x : Item) → slice_get items i ≡ Some x → waits_for k reach x ≡ true → Member (wait_of k (n + i) x) (waits_at k reach n items)
listed_at k reach n [] i x is w = absurd cc
listed_at k reach n (y ∷ ys) zero x is w =
    let same : y ≡ x = some_is y x is in
    let at : n + 0 ≡ n = omega arith in
    rw (same, w, at) (inl refl)
listed_at k reach n (y ∷ ys) (suc i) x is w =
    let next : n + suc i ≡ suc n + i = omega arith in
    rw next (behind (waits_for k reach y) (listed_at k reach (suc n) ys i x is w))
  where
    behind : (b : Bool) → Member (wait_of k (suc n + i) x) (waits_at k reach (suc n) ys) → Member (wait_of k (suc n + i) x) (if b then wait_of k n y ∷ waits_at k reach (suc n) ys else waits_at k reach (suc n) ys)
    behind true m = inr m
    behind false m = m

in_put : (w x : Wait) (ys : List Wait) → (x ≡ w) ⊎ Member w ys → Member w (put_in wait_at x ys)
in_put w x [] h = h
in_put w x (y ∷ ys) h = by_test (nat_le (wait_at x) (wait_at y)) (λ t. in_put w x ys t) h
  where
    by_test : (b : Bool) → ((x ≡ w) ⊎ Member w ys → Member w (put_in wait_at x ys)) → (x ≡ w) ⊎ Member w (y ∷ ys) → Member w (if b then x ∷ y ∷ ys else y ∷ put_in wait_at x ys)
    by_test true more h = h
    by_test false more (inl e) = inr (more (inl e))
    by_test false more (inr (inl e)) = inl e
    by_test false more (inr (inr m)) = inr (more (inr m))

pub in_ascending : (w : Wait) (xs : List Wait) → Member w xs → Member w (ascending wait_at xs)
in_ascending w [] m = absurd m
in_ascending w (x ∷ xs) (inl e) = in_put w x (ascending wait_at xs) (inl e)
in_ascending w (x ∷ xs) (inr m) = in_put w x (ascending wait_at xs) (inr (in_ascending w xs m))

waits_above : (k reach : ℕ) (x : Item) → reach < slice_index x.dep k → waits_for k reach x ≡ true
waits_above k reach x lt = by_test (nat_lt reach (slice_index x.dep k)) (is reach (slice_index x.dep k) lt)
  where
    is : (a b : ℕ) → a < b → nat_lt a b ≡ true
    is a b lt = grind (arith, nat_tests)

    by_test : (b : Bool) → b ≡ true → (if b then true else x.stream == k) ≡ true
    by_test b e = rw e refl

waits_own : (reach : ℕ) (x : Item) → waits_for x.stream reach x ≡ true
waits_own reach x = by_test (nat_lt reach (slice_index x.dep x.stream)) (eq-eqb x.stream x.stream refl)
  where
    by_test : (b : Bool) → (x.stream == x.stream) ≡ true → (if b then true else x.stream == x.stream) ≡ true
    by_test true e = refl
    by_test false e = e

waits_is : (waits : List (List Wait)) (k : ℕ) (ws : List Wait) → slice_get waits k ≡ Some ws → waits_in waits k ≡ ws
waits_is [] k ws is = absurd cc
waits_is (y ∷ ys) zero ws is = some y ws is
  where
    some : (y ws : List Wait) → Some y ≡ Some ws → y ≡ ws
    some y ws is = cc
waits_is (y ∷ ys) (suc k) ws is = waits_is ys k ws is

pub opened : (elv rlv : List ℕ) (items : List Item) (waits : List (List Wait)) (nexts passed : List ℕ) (waiting : ℕ) → length elv ≤ MAX_STREAMS → length rlv ≡ length elv → length nexts ≡ length elv →
    waiting ≡ length items → Ordered items → ((x : Item) → Member x items → OfLog elv 0 (length elv) x) → IsReached elv rlv items nexts → IsKept elv rlv items waits nexts passed waiting 0 false
opened elv rlv items waits nexts passed waiting narrow wide cursors count ordered all reached = record {
  narrow = narrow;
  wide = wide;
  cursors = cursors;
  ordered = ordered;
  within = λ i x is. let o = all x (get_member items i x is) in record { stream = o.below; start = o.start; taken = o.taken };
  reached = reached;
  queued = λ e. absurd cc;
  unstarted = count ∙ sym (all_wait items (λ x m. (all x m).waits)).0;
  started = sym (all_wait items (λ x m. (all x m).waits)).1;
}

-- what waits is listed, and nothing is passed over
pub queued : (ends rlv : List ℕ) (items : List Item) (waits : List (List Wait)) (passed : List ℕ) → length rlv ≡ length ends → length waits ≡ length rlv → passed ≡ replicate (length rlv) 0 → AreWithin ends items →
    ((k : ℕ) → k < length rlv → slice_get waits k ≡ Some (ascending wait_at (waits_at k (slice_index rlv k) 0 items))) → AreQueued ends rlv items waits passed
queued ends rlv items waits passed wide many none within each = record {
  many = omega (arith, many, wide);
  counts = ap (λ (xs : List ℕ). length xs) none ∙ length-replicate {A = ℕ} (length rlv) 0 ∙ wide;
  listed = record {
    rising = λ k lt. subst (λ (ws : List Wait). Rises ws) (sym (waits_is waits k _ (each k (omega (arith, lt, many))))) (rises (ascending wait_at (waits_at k (slice_index rlv k) 0 items)) (ascending_rising wait_at (waits_at k (slice_index rlv k) 0 items)));
    listed = λ k i x lt is above. there k i x (omega (arith, lt, wide)) is (waits_above k (slice_index rlv k) x above);
  };
  met = record {
    upto = λ k lt. let at = zero_of k in omega (arith, at);
    met = λ k w lt m. absurd (subst (λ (n : ℕ). Member w (take n (waits_in waits k))) (zero_of k) m);
    unmet = λ i x is w covered. let o = within i x is in (
      x.stream,
      omega (arith, o.stream, wide),
      subst (λ (n : ℕ). Member (wait_of x.stream i x) (drop n (waits_in waits x.stream))) (sym (zero_of x.stream)) (there x.stream i x (omega (arith, o.stream, wide)) is (waits_own (slice_index rlv x.stream) x)),
    );
  };
}
  where
    zero_of : (k : ℕ) → slice_index passed k ≡ 0
    zero_of k = ap (λ (xs : List ℕ). slice_index xs k) none ∙ zeros (length rlv) k

    there : (k i : ℕ) (x : Item) → k < length rlv → slice_get items i ≡ Some x → waits_for k (slice_index rlv k) x ≡ true → Member (wait_of k i x) (waits_in waits k)
    there k i x lt is w =
        let ws = ascending wait_at (waits_at k (slice_index rlv k) 0 items) in
        let at : 0 + i ≡ i = omega arith in
        subst (λ (vs : List Wait). Member (wait_of k i x) vs) (sym (waits_is waits k ws (each k lt))) (in_ascending (wait_of k i x) (waits_at k (slice_index rlv k) 0 items)
        (subst (λ (n : ℕ). Member (wait_of k n x) (waits_at k (slice_index rlv k) 0 items)) at (listed_at k (slice_index rlv k) 0 items i x is w)))

-- ---- a log

pub streams_many : (log : Log) → IsLog log → length log.streams ≡ length log.elv
streams_many log l =
    let long = AllZip-long (IsReading l.format (length l.contents)) l.contents log.streams l.read in
    omega (arith, long, ap (λ (xs : List ℕ). length xs) l.lengths, length-map l.contents (λ (c : List ℕ). length c))

pub of_log : (log : Log) → IsLog log → Ordered (items_from (judge_of log) 0 log.streams) × ((x : Item) → Member x (items_from (judge_of log) 0 log.streams) → OfLog log.elv 0 (length log.elv) x)
of_log log l =
    let h = of_streams log.elv (judge_of log) (λ k dep covered. judged_low log.elv (marks_of log) k dep covered) l.format (length l.contents) 0 l.contents log.streams l.read
    (λ k. let at : 0 + k ≡ k = omega arith in ap (λ (n : ℕ). slice_index log.elv n) at ∙ ap (λ (xs : List ℕ). slice_index xs k) l.lengths) in
    let many : 0 + length log.streams ≡ length log.elv = omega (arith, streams_many log l) in
    (h.0, λ x m. subst (λ (n : ℕ). OfLog log.elv 0 n x) many (h.1 x m))

-- and of those of its records that start at or after the place of their stream
pub of_log_after : (from : List ℕ) (log : Log) → IsLog log → Ordered (items_after from (judge_of log) log.streams) × ((x : Item) → Member x (items_after from (judge_of log) log.streams) → OfLog log.elv 0 (length log.elv) x)
of_log_after from log l =
    let xs = items_from (judge_of log) 0 log.streams in
    let o = of_log log l in
    (ordered_filter (item_after from) xs o.0, λ x m. o.1 x (member_filtered (item_after from) x xs m).0)
