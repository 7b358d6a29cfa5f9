-- A recovery goes on: a record is started, a record is finished, nothing is left, nothing is ready.
use Rattle.std.proofs.Common.{ℕ, zero, suc, ◌≡◌, ◌≢◌, ◌<◌, ◌≤◌, ◌⊎◌, inl, inr, Bool, true, false, List, [], ◌∷◌, ◌++◌, map, length, refl, sym, ap, subst, ◌∙◌, arith, slice_index}
use Rattle.std.specs.Prelude.{Some, slice_get, ◌&&◌, nat_le}
use Rattle.std.proofs.Math.ListN.{set}
use Rattle.std.proofs.lemmas.Bool.{cases_eq, cases_lt}
use Rattle.std.proofs.lemmas.Bool.Decides.{nat_tests}
use Rattle.tau_base.specs.Database.{Db}
use Rattle.tau_base.specs.Vectors.{covers}
use Rattle.tau_base.proofs.Vectors.{covers_at_most, beyond}
use Rattle.tau_model.specs.History.{Member, Reordered}
use Rattle.tau_model.specs.Logged.{Place, Orderly}
use Rattle.tau_model.specs.Redo.{Content, redone, redo_contents}
use Rattle.tau_model.specs.Replay.{Replaying}
use Rattle.tau_model.proofs.Orders.{member_put}
use Rattle.tau_model.proofs.Replays.{Going, ready_exists}
use Rattle.tau_scan.specs.declared.log.Log.{Log}
use Rattle.tau_scan.specs.Reading.{IsLog}
use Rattle.tau_scan.specs.Taken.{Kept}
use Rattle.tau_scan.specs.Epochs.{judge_of}
use Rattle.tau_pool.specs.Item.{Item}
use Rattle.tau_pool.specs.declared.item.Job.{Job}
use Rattle.tau_pool.specs.declared.item.Stage.{Stage}
use Rattle.tau_pool.specs.declared.item.Stage.TheVariants.{Waiting, Flying, Finished}
use Rattle.tau_pool.specs.Items.{is_left, is_waiting, is_flying, items_after}
use Rattle.tau_pool.specs.Passing.{Behind, Ordered}
use Rattle.tau_pool.specs.Pooled.{Pooled, IsRecovered, IsStarted, IsFlying, IsFinished, IsDone, NoneReady, IsFirstLeft, staged, flying_in}
use Rattle.tau_pool.proofs.Gets.{get_member}
use Rattle.tau_pool.proofs.Counts.{none_flying}
use Rattle.tau_pool.proofs.Stages.{found_set}
use Rattle.tau_pool.proofs.Opening.{of_log_after}
use Rattle.tau_replay.specs.Course.{Course, IsPart}
use Rattle.tau_replay.specs.Recovering.{IsOf, AreOf, left_in, IsAhead, IsGoingOn}
use Rattle.tau_scan.specs.Sound.{IsOrderOver}
use Rattle.tau_replay.specs.Redone.{taken_after, IsTangledOver, WaitsFor}
use Rattle.tau_replay.proofs.Lists.{orderly_push, map_push, member_map, pushed, moved, redo_push, of_get, of_set, left_same, left_get, left_put, left_out}
use Rattle.tau_replay.proofs.Starting.{of_after, part_covered}
use Rattle.tau_base.proofs.Logic.{some_is}
use Rattle.tau_base.proofs.Lists.{got_within}
use Rattle.tau_pool.proofs.Keeping.{waiting_left, flying_left}

abbrev place_of : Kept → Place
place_of r = r.place

abbrev content_of : Kept → Content
content_of r = r.content

left_waits : (s : Stage) → is_left s ≡ true → (is_flying s ≡ true → ⊥) → is_waiting s ≡ true
left_waits Waiting is no_flight = refl
left_waits Flying is no_flight = absurd (no_flight refl)
left_waits Finished is no_flight = absurd cc

same_kept : (rs : List Kept) (i : ℕ) (a b : Kept) → slice_get rs i ≡ Some a → slice_get rs i ≡ Some b → a ≡ b
same_kept rs i a b x y = some_is a b (sym x ∙ y)

-- ---- a record is started

pub going_start : (log : Log) (course : Course) (p : Pooled) (db : Db) (order : List Kept) (job : Job) (q : Pooled) → IsGoingOn log course p db order → IsStarted p job q → IsRecovered q.ends q.rlv q.items → IsGoingOn log course q db order
going_start log course p db order job q g s rec = subst (λ (z : Pooled). IsGoingOn log course z db order) (sym s.new) (record {
  part = g.part;
  ends = g.ends;
  recovered = subst (λ (z : Pooled). IsRecovered z.ends z.rlv z.items) s.new rec;
  items = of_set log Flying course.records p.items job.place s.item s.there g.items;
  each_once = subst (λ (rest : List Kept). Reordered course.records (order ++ rest)) (sym same) g.each_once;
  orderly = g.orderly;
  ahead = λ r m. subst (λ (rest : List Kept). IsAhead r rest) (sym same) (g.ahead r m);
  flying = λ k y r at held flies. subst (λ (rest : List Kept). IsAhead r rest) (sym same) (elim (found_set p.items job.place (staged Flying s.item) k y (got_within p.items job.place s.item s.there) at) [
    | inl a ↦ ready_ahead r (subst (λ (n : ℕ). slice_get course.records n ≡ Some r) a.0 held)
    | inr b ↦ g.flying k y r b.1 held flies
  ]);
  database = g.database;
})
  where
    same : left_in course.records (set p.items job.place (staged Flying s.item)) ≡ left_in course.records p.items
    same = left_same Flying course.records p.items job.place s.item s.there (sym (waiting_left s.item.stage s.unstarted))

    ready_ahead : (r : Kept) → slice_get course.records job.place ≡ Some r → IsAhead r (left_in course.records p.items)
    ready_ahead r held q' m =
        let (own, at_own, of_own) = of_get log course.records p.items job.place s.item g.items s.there in
        let (k, y, at, at_kept, left, of) = left_get log course.records p.items q' g.items m in
        let low = g.recovered.below k y at left in
        let high = s.ready y.stream in
        let dep : slice_index s.item.dep y.stream ≡ slice_index r.place.dep q'.place.stream = ap (λ (v : List ℕ). slice_index v y.stream) (of_own.dep ∙ ap (λ (z : Kept). z.place.dep) (same_kept course.records job.place own r at_own held)) ∙ ap (λ (n : ℕ). slice_index r.place.dep n) of.stream in
        omega (arith, low, high, dep, of.start)

-- ---- a record is finished

pub going_finish : (log : Log) (course : Course) (p : Pooled) (db : Db) (order : List Kept) (job : Job) (q : Pooled) (r : Kept) (db' : Db) → IsGoingOn log course p db order → IsFlying p job → IsFinished p job q → IsRecovered q.ends q.rlv q.items →
    slice_get course.records job.place ≡ Some r → db' ≡ redone log.declarations.procs r.content db → IsGoingOn log course q db' (order ++ r ∷ [])
going_finish log course p db order job q r db' g f h rec held is =
    let x = f.item in
    let left = flying_left x.stage f.started in
    let items : q.items ≡ set p.items job.place (staged Finished x) = h.items x f.there in
    let (front, back, before, after) = left_out course.records p.items job.place x r f.there held left in
    let rest : left_in course.records q.items ≡ front ++ back = ap (λ (xs : List Item). left_in course.records xs) items ∙ after in
    let less : (y : Kept) → Member y (left_in course.records q.items) → Member y (left_in course.records p.items) = λ y m.
    subst (λ (zs : List Kept). Member y zs) (sym before) (member_put r y front back (subst (λ (zs : List Kept). Member y zs) rest m)) in
    let mine = g.flying job.place x r f.there held f.started in
    record {
      part = g.part;
      ends = h.ends ∙ g.ends;
      recovered = rec;
      items = subst (λ (xs : List Item). AreOf log course.records xs) (sym items) (of_set log Finished course.records p.items job.place x f.there g.items);
      each_once = subst (λ (zs : List Kept). Reordered course.records ((order ++ r ∷ []) ++ zs)) (sym rest) (moved course.records order front back r (subst (λ (zs : List Kept). Reordered course.records (order ++ zs)) before g.each_once));
      orderly = subst (λ (ps : List Place). Orderly ps) (sym (map_push place_of order r)) (orderly_push (map place_of order) r.place g.orderly
          (λ y m. let (z, n, e) = member_map place_of order y m in subst (λ (w : Place). slice_index w.dep r.place.stream ≤ r.place.start) e (g.ahead z n r (left_put course.records p.items job.place x r f.there held left)))
          (mine r (left_put course.records p.items job.place x r f.there held left)));
      ahead = λ y m z n. elim (pushed order r y m) [
        | inl a ↦ g.ahead y a z (less z n)
        | inr e ↦ subst (λ (w : Kept). slice_index w.place.dep z.place.stream ≤ z.place.start) e (mine z (less z n))
      ];
      flying = λ k y z at kept flies w n. elim (found_set p.items job.place (staged Finished x) k y (got_within p.items job.place x f.there) (subst (λ (xs : List Item). slice_get xs k ≡ Some y) items at)) [
        | inl a ↦ let off : is_flying y.stage ≡ false = ap (λ (i : Item). is_flying i.stage) (sym a.1) in absurd cc
        | inr b ↦ g.flying k y z b.1 kept flies w (less w n)
      ];
      database = is ∙ ap (redone log.declarations.procs r.content) g.database ∙ sym (ap (λ (cs : List Content). redo_contents log.declarations.procs cs course.base) (map_push content_of order r) ∙ redo_push log.declarations.procs (map content_of order) r.content course.base);
    }

-- ---- nothing is left

none_in : (xs : List Kept) → ((q : Kept) → Member q xs → ⊥) → xs ≡ []
none_in [] none = refl
none_in (x ∷ xs) none = absurd (none x (inl refl))

pub none_left : (log : Log) (course : Course) (p : Pooled) (db : Db) (order : List Kept) → IsGoingOn log course p db order → IsDone p → flying_in p.items ≡ 0 → left_in course.records p.items ≡ []
none_left log course p db order g over idle = none_in (left_in course.records p.items) (λ q m.
    let (k, y, at, held, left, of) = left_get log course.records p.items q g.items m in
    over k y at (left_waits y.stage left (none_flying p.items idle k y at)))

-- ---- nothing is ready

uncovered : (w v : List ℕ) → covers w v ≡ false → (j : ℕ) × (slice_index w j < slice_index v j)
uncovered w [] e = absurd cc
uncovered [] (a ∷ v) e = by_test (λ f. uncovered [] v f) (nat_le a 0) refl e
  where
    by_test : (covers [] v ≡ false → (j : ℕ) × (slice_index [] j < slice_index v j)) → (b : Bool) → nat_le a 0 ≡ b → (b && covers [] v) ≡ false → (j : ℕ) × (slice_index [] j < slice_index (a ∷ v) j)
    by_test more true is e = let (j, lt) = more e in (suc j, lt)
    by_test more false is e = (0, high a is)
      where
        high : (a : ℕ) → nat_le a 0 ≡ false → 0 < a
        high a e = grind (arith, nat_tests)
uncovered (b ∷ w) (a ∷ v) e = by_test (λ f. uncovered w v f) (nat_le a b) refl e
  where
    by_test : (covers w v ≡ false → (j : ℕ) × (slice_index w j < slice_index v j)) → (c : Bool) → nat_le a b ≡ c → (c && covers w v) ≡ false → (j : ℕ) × (slice_index (b ∷ w) j < slice_index (a ∷ v) j)
    by_test more true is e = let (j, lt) = more e in (suc j, lt)
    by_test more false is e = (0, high a b is)
      where
        high : (a b : ℕ) → nat_le a b ≡ false → b < a
        high a b e = grind (arith, nat_tests)

-- a record that is left and not covered waits for one that is left
pub waits_for_one : (log : Log) (course : Course) (p : Pooled) (db : Db) (order : List Kept) → IsGoingOn log course p db order → NoneReady p → flying_in p.items ≡ 0 → (r : Kept) → Member r (left_in course.records p.items) → WaitsFor r (left_in course.records p.items)
waits_for_one log course p db order g none idle r m =
    let (k, y, at, held, left, of) = left_get log course.records p.items r g.items m in
    by_test k y at held of (left_waits y.stage left (none_flying p.items idle k y at)) (covers p.rlv y.dep) refl
  where
    by_test : (k : ℕ) (y : Item) → slice_get p.items k ≡ Some y → slice_get course.records k ≡ Some r → IsOf log r y → is_waiting y.stage ≡ true → (b : Bool) → covers p.rlv y.dep ≡ b → WaitsFor r (left_in course.records p.items)
    by_test k y at held of waits true e = absurd (none k y at waits (covers_at_most p.rlv y.dep e))
    by_test k y at held of waits false e =
        let (j, above) = uncovered p.rlv y.dep e in
        let taken_low = part_covered log course g.part r (get_member course.records k r held) j in
        let same : slice_index y.dep j ≡ slice_index r.place.dep j = ap (λ (v : List ℕ). slice_index v j) of.dep in
        let ends : slice_index p.ends j ≡ slice_index log.elv j = ap (λ (v : List ℕ). slice_index v j) g.ends in
        elim (cases_lt j (length p.ends)) [
          | inl lt ↦ elim (g.recovered.reached j lt) [
            | inl a ↦ absurd (omega (arith, a.0, above, same, ends, taken_low))
            | inr b ↦
                let (i, z, there, stream, left, start) = b in
                let (q, kept, of_q) = of_get log course.records p.items i z g.items there in
                let dep : slice_index r.place.dep j ≡ slice_index r.place.dep q.place.stream = ap (λ (n : ℕ). slice_index r.place.dep n) (sym stream ∙ of_q.stream) in
                (q, left_put course.records p.items i z q there kept left, omega (arith, above, same, start, of_q.start, dep))
          ]
          | inr past ↦ let zero_end = beyond p.ends j past in absurd (omega (arith, above, same, ends, taken_low, zero_end))
        ]

-- so no order of the records is orderly
pub no_order : (log : Log) (course : Course) (p : Pooled) (db : Db) (order : List Kept) → IsGoingOn log course p db order → NoneReady p → flying_in p.items ≡ 0 → (r : Kept) → Member r (left_in course.records p.items) → (other : List Kept) → IsOrderOver course.records other → ⊥
no_order log course p db order g none idle r m other is =
    let rest = left_in course.records p.items in
    let state : Replaying Kept = record { todo = rest; flight = []; order = order } in
    let going : Going place_of course.records state = record { all = g.each_once; orderly = g.orderly; ahead = λ y n q u. elim u [ inl a ↦ elim n [ inl b ↦ g.ahead y b q a | inr b ↦ absurd b ] | inr a ↦ absurd a ] } in
    elim (ready_exists place_of course.records other state going refl is.each_once is.orderly) [
      | inl empty ↦ absurd (subst (λ (zs : List Kept). Member r zs) empty m)
      | inr w ↦
          let (y, n, ready) = w in
          let (q, there, above) = waits_for_one log course p db order g none idle y n in
          let low = ready q (inl there) in
          omega (arith, low, above)
    ]

ordered_at : (xs : List Item) (m i : ℕ) (z x : Item) → Ordered xs → slice_get xs m ≡ Some z → slice_get xs i ≡ Some x → m < i → Behind z x
ordered_at [] m i z x h a b lt = absurd cc
ordered_at (y ∷ xs) zero zero z x h a b lt = absurd (omega (arith, lt))
ordered_at (y ∷ xs) zero (suc i) z x h a b lt = subst (λ (q : Item). Behind q x) (some_is y z a) (h.0 x (get_member xs i x b))
ordered_at (y ∷ xs) (suc m) zero z x h a b lt = absurd (omega (arith, lt))
ordered_at (y ∷ xs) (suc m) (suc i) z x h a b lt = ordered_at xs m i z x h.1 a b (omega (arith, lt))

get_of : (log : Log) (rs : List Kept) (xs : List Item) (i : ℕ) (r : Kept) → AreOf log rs xs → slice_get rs i ≡ Some r → (x : Item) × (slice_get xs i ≡ Some x) × IsOf log r x
get_of log [] xs i r all is = absurd cc
get_of log (q ∷ rs) [] i r all is = absurd all
get_of log (q ∷ rs) (y ∷ ys) zero r all is = (y, refl, subst (λ (z : Kept). IsOf log z y) (some_is q r is) all.0)
get_of log (q ∷ rs) (y ∷ ys) (suc i) r all is = get_of log rs ys i r all.1 is

-- the records stand by stream and place
behind_each : (log : Log) (course : Course) → IsLog log → IsPart log course → (m i : ℕ) (a b : Kept) → slice_get course.records m ≡ Some a → slice_get course.records i ≡ Some b → m < i →
    (a.place.stream < b.place.stream) ⊎ ((a.place.stream ≡ b.place.stream) × (a.place.start < b.place.start))
behind_each log course l (from, is) m i a b at there lt =
    let rs = taken_after from log in
    let xs = items_after from (judge_of log) log.streams in
    let (x, x_at, of_x) = get_of log rs xs m a (of_after log from) (subst (λ (qs : List Kept). slice_get qs m ≡ Some a) is at) in
    let (y, y_at, of_y) = get_of log rs xs i b (of_after log from) (subst (λ (qs : List Kept). slice_get qs i ≡ Some b) is there) in
    elim (ordered_at xs m i x y (of_log_after from log l).0 x_at y_at lt) [
      | inl low ↦ inl (omega (arith, low, of_x.stream, of_y.stream))
      | inr h ↦ inr (sym of_x.stream ∙ h.0 ∙ of_y.stream, omega (arith, h.1, of_x.start, of_y.start))
    ]

pub tangled_at : (log : Log) (course : Course) (p : Pooled) (db : Db) (order : List Kept) (job : Job) (r : Kept) → IsLog log → IsGoingOn log course p db order → NoneReady p → flying_in p.items ≡ 0 → IsFirstLeft p.items job → slice_get course.records job.place ≡ Some r →
    IsTangledOver course.records r.place.stream r.place.start
tangled_at log course p db order job r l g none idle f held = record {
  done = order;
  rest = left_in course.records p.items;
  parts = g.each_once;
  orderly = g.orderly;
  free = λ y m w. let (z, n, low) = w in let high = g.ahead y m z n in omega (arith, low, high);
  stuck = waits_for_one log course p db order g none idle;
  first = r;
  among = left_put course.records p.items job.place f.item r f.there held f.left;
  lowest = λ q m. let (k, y, at, kept, left, of) = left_get log course.records p.items q g.items m in elim (cases_lt k job.place) [
    | inl low ↦ absurd (f.before k y low at left)
    | inr high ↦ elim (cases_eq job.place k) [
      | inl e ↦ let is = same_kept course.records job.place q r (subst (λ (n : ℕ). slice_get course.records n ≡ Some q) (sym e) kept) held in
          inr (ap (λ (z : Kept). z.place.stream) is, omega (arith, ap (λ (z : Kept). z.place.start) is))
      | inr other ↦ elim (behind_each log course l g.part job.place k r q held kept (past job.place k high other)) [
        | inl low ↦ inl low
        | inr h ↦ inr (sym h.0, omega (arith, h.1))
      ]
    ]
  ];
  stream = refl;
  start = refl;
}
  where
    past : (i k : ℕ) → i ≤ k → i ≢ k → i < k
    past i k le other = elim (cases_lt i k) [ inl a ↦ a | inr b ↦ absurd (other (omega (arith, le, b))) ]
