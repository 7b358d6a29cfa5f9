-- Where what is in flight counts as not started, a start changes nothing, and a finish is a start and a finish.
use Rattle.std.proofs.Common.{ℕ, zero, suc, ◌≡◌, ◌+◌, ◌≤◌, inl, inr, true, List, [], ◌∷◌, ◌++◌, map, length, replicate, refl, sym, ap, subst, ◌∙◌, arith, slice_index}
use Rattle.std.specs.Prelude.{Option, Some, None, slice_get, if◌then◌else◌}
use Rattle.std.proofs.Math.ListN.{set}
use Rattle.std.proofs.lemmas.Bool.{cases_lt}
use Rattle.tau_base.specs.Database.{Db}
use Rattle.tau_base.specs.Vectors.{AtMost}
use Rattle.tau_model.specs.Redo.{redone}
use Rattle.tau_model.specs.Store.{database}
use Rattle.tau_scan.specs.declared.log.Log.{Log}
use Rattle.tau_scan.specs.Taken.{Kept, taken}
use Rattle.tau_pool.specs.Item.{Item}
use Rattle.tau_pool.specs.declared.item.Job.{Job}
use Rattle.tau_pool.specs.declared.item.Stage.{Stage}
use Rattle.tau_pool.specs.declared.item.Stage.TheVariants.{Waiting, Flying, Finished}
use Rattle.tau_pool.specs.Items.{is_left, is_waiting, is_flying}
use Rattle.tau_pool.specs.Pooled.{Pooled, IsRecovered, IsStarted, IsFlying, IsFinished, staged, flying_in}
use Rattle.tau_pool.proofs.Gets.{get_member}
use Rattle.tau_replay.specs.declared.turns.Replay.{Replay}
use Rattle.tau_replay.specs.declared.view.TheConstants.{HANDS}
use Rattle.tau_replay.specs.Course.{whole}
use Rattle.tau_replay.specs.Recovering.{IsGoing, IsHeld, AreHands}
use Rattle.tau_replay.specs.Followed.{HasFollowed}
use Rattle.tau_replay.specs.Sound.{settled_stage, settled_item, settled, IsSound, AreWorking}
use Rattle.tau_replay.proofs.Lists.{of_get, left_put}
use Rattle.tau_replay.proofs.Starting.{taken_covered}
use Rattle.tau_replay.proofs.Following.{follow_start, follow_finish}
use Rattle.tau_replay.proofs.Hands.{empty_hands, none_of_idle}
use Rattle.tau_base.proofs.Vectors.{beyond}
use Rattle.tau_base.proofs.Logic.{some_is}
use Rattle.tau_base.proofs.Lists.{got_within, get_set_same}

-- ---- stages

settled_left : (s : Stage) → is_left (settled_stage s) ≡ is_left s
settled_left Waiting = refl
settled_left Flying = refl
settled_left Finished = refl

waits_settled : (s : Stage) → is_waiting s ≡ true → Waiting ≡ settled_stage s
waits_settled Waiting is = refl
waits_settled Flying is = absurd cc
waits_settled Finished is = absurd cc

flies_settled : (s : Stage) → is_flying s ≡ true → is_waiting (settled_stage s) ≡ true
flies_settled Waiting is = absurd cc
flies_settled Flying is = refl
flies_settled Finished is = absurd cc

-- ---- records by their place

get_settled : (xs : List Item) (i : ℕ) (x : Item) → slice_get xs i ≡ Some x → slice_get (map settled_item xs) i ≡ Some (settled_item x)
get_settled [] i x is = absurd cc
get_settled (y ∷ ys) zero x is = ap (λ (z : Item). Some (settled_item z)) (some_is y x is)
get_settled (y ∷ ys) (suc i) x is = get_settled ys i x is

settled_get : (xs : List Item) (i : ℕ) (y : Item) → slice_get (map settled_item xs) i ≡ Some y → (x : Item) × (slice_get xs i ≡ Some x) × (settled_item x ≡ y)
settled_get [] i y is = absurd cc
settled_get (z ∷ zs) zero y is = (z, refl, some_is (settled_item z) y is)
settled_get (z ∷ zs) (suc i) y is = settled_get zs i y is

still_left : (x y : Item) → settled_item x ≡ y → is_left y.stage ≡ true → is_left x.stage ≡ true
still_left x y is left = sym (settled_left x.stage) ∙ subst (λ (z : Item). is_left z.stage ≡ true) (sym is) left

settled_recovered : (ends rlv : List ℕ) (items : List Item) → IsRecovered ends rlv items → IsRecovered ends rlv (map settled_item items)
settled_recovered ends rlv items r = record {
  wide = r.wide;
  below = λ i y at left. let (x, there, is) = settled_get items i y at in subst (λ (z : Item). slice_index rlv z.stream ≤ z.start) is (r.below i x there (still_left x y is left));
  reached = λ j lt. elim (r.reached j lt) [
    | inl a ↦ inl (a.0, λ i y at stream left. let (x, there, is) = settled_get items i y at in a.1 i x there (ap (λ (z : Item). z.stream) is ∙ stream) (still_left x y is left))
    | inr b ↦ let (i, x, there, stream, left, start) = b in inr (i, settled_item x, get_settled items i x there, stream, settled_left x.stage ∙ left, start)
  ];
}

-- ---- a start

flies_same : (xs : List Item) (i : ℕ) (x : Item) → slice_get xs i ≡ Some x → is_waiting x.stage ≡ true → map settled_item (set xs i (staged Flying x)) ≡ map settled_item xs
flies_same [] i x at waits = absurd cc
flies_same (y ∷ ys) zero x at waits = ap (λ (z : Item). z ∷ map settled_item ys) (ap (λ (s : Stage). staged s x) (waits_settled x.stage waits) ∙ ap settled_item (sym (some_is y x at)))
flies_same (y ∷ ys) (suc i) x at waits = ap (λ (zs : List Item). settled_item y ∷ zs) (flies_same ys i x at waits)

pub settled_start : (p : Pooled) (job : Job) (q : Pooled) → IsStarted p job q → settled q ≡ settled p
settled_start p job q s =
    ap settled s.new ∙ ap (λ (xs : List Item). Pooled_of p xs) (flies_same p.items job.place s.item s.there s.unstarted)
  where
    Pooled_of : Pooled → List Item → Pooled
    Pooled_of p xs = record { ends = p.ends; rlv = p.rlv; items = xs }

-- ---- a finish

finishes_same : (xs : List Item) (i : ℕ) (x a : Item) → map settled_item (set xs i (staged Finished x)) ≡ set (set (map settled_item xs) i a) i (staged Finished x)
finishes_same [] i x a = refl
finishes_same (y ∷ ys) zero x a = refl
finishes_same (y ∷ ys) (suc i) x a = ap (λ (zs : List Item). settled_item y ∷ zs) (finishes_same ys i x a)

-- a record in flight is covered
pub flying_covered : (log : Log) (p : Pooled) (db : Db) (order : List Kept) (job : Job) → IsGoing log p db order → (f : IsFlying p job) → AtMost f.item.dep p.rlv
flying_covered log p db order job g f j =
    let x = f.item in
    let (r, held, of) = of_get log (taken log) p.items job.place x g.items f.there in
    let low = taken_covered log r (get_member (taken log) job.place r held) j in
    let same : slice_index x.dep j ≡ slice_index r.place.dep j = ap (λ (v : List ℕ). slice_index v j) of.dep in
    let ends : slice_index p.ends j ≡ slice_index log.elv j = ap (λ (v : List ℕ). slice_index v j) g.ends in
    elim (cases_lt j (length p.ends)) [
      | inl lt ↦ elim (g.recovered.reached j lt) [
        | inl a ↦ omega (arith, a.0, low, same, ends)
        | inr b ↦
            let (i, z, there, stream, left, start) = b in
            let (q, kept, of_q) = of_get log (taken log) p.items i z g.items there in
            let dep : slice_index r.place.dep j ≡ slice_index r.place.dep q.place.stream = ap (λ (n : ℕ). slice_index r.place.dep n) (sym stream ∙ of_q.stream) in
            let ahead = g.flying job.place x r f.there held f.started q (left_put (taken log) p.items i z q there kept left) in
            omega (arith, ahead, same, start, of_q.start, dep)
      ]
      | inr past ↦ let zero_end = beyond p.ends j past in omega (arith, low, same, ends, zero_end)
    ]

pub settled_finish : (log : Log) (turns : List ℕ) (p q : Pooled) (job : Job) (r : Kept) (db after : Db) → HasFollowed log turns (settled p) (replicate 16 None) db → (f : IsFlying p job) → AtMost f.item.dep p.rlv → IsHeld log job r →
    IsFinished p job q → IsRecovered q.ends q.rlv q.items → after ≡ redone log.declarations.procs r.content db → HasFollowed log ((turns ++ 0 ∷ []) ++ 0 ∷ []) (settled q) (replicate 16 None) after
settled_finish log turns p q job r db after followed f low held h rec is =
    let x = f.item in
    let at = get_settled p.items job.place x f.there in
    let y : Item = staged Flying (settled_item x) in
    let m : Pooled = record { ends = p.ends; rlv = p.rlv; items = set (map settled_item p.items) job.place y } in
    let began : IsStarted (settled p) job m = record { item = settled_item x; there = at; unstarted = flies_settled x.stage f.started; ready = low; named = f.named; new = refl } in
    let here : slice_get m.items job.place ≡ Some y = get_set_same (map settled_item p.items) job.place y (got_within (map settled_item p.items) job.place (settled_item x) at) in
    let done : IsFinished m job (settled q) = record {
      ends = h.ends;
      items = λ z there.
          ap (map settled_item) (h.items x f.there) ∙ finishes_same p.items job.place x y ∙ ap (λ (w : Item). set m.items job.place (staged Finished w)) (some_is y z (sym here ∙ there));
    } in
    follow_finish log (whole log) (turns ++ 0 ∷ []) 0 m (settled q) (set (replicate 16 None) 0 (Some job)) job r db after (follow_start log (whole log) turns 0 (settled p) m (replicate 16 None) job db followed refl began) refl held done
    (settled_recovered q.ends q.rlv q.items rec) is

-- ---- nothing is in flight

calm_stage : (s : Stage) (n : ℕ) → (if is_flying s then 1 else 0) + n ≡ 0 → (settled_stage s ≡ s) × (n ≡ 0)
calm_stage Waiting n e = (refl, omega (arith, e))
calm_stage Flying n e = absurd (omega (arith, e))
calm_stage Finished n e = (refl, omega (arith, e))

calm_items : (xs : List Item) → flying_in xs ≡ 0 → map settled_item xs ≡ xs
calm_items [] e = refl
calm_items (x ∷ xs) e = let (same, more) = calm_stage x.stage (flying_in xs) e in λ i. staged (same i) x ∷ calm_items xs more i

pub settled_calm : (p : Pooled) → flying_in p.items ≡ 0 → settled p ≡ p
settled_calm p e = ap (λ (xs : List Item). Pooled_of p xs) (calm_items p.items e)
  where
    Pooled_of : Pooled → List Item → Pooled
    Pooled_of p xs = record { ends = p.ends; rlv = p.rlv; items = xs }

-- ---- workers in threads begin and end

pub working_begins : (log : Log) (r s : Replay) → IsSound log r → r.hands.items ≡ replicate 16 None → s.pools ≡ r.pools → database s.store ≡ database r.store → s.hands.items ≡ replicate HANDS None → length s.hands.items ≡ HANDS → AreWorking log s
working_begins log r s k idle pools db is many =
    let calm = none_of_idle 16 r.pools r.hands.items idle k.way.hands in
    record {
      order = k.way.order;
      going = subst (λ (z : Pooled × Db). IsGoing log z.0 z.1 k.way.order) (λ i. (sym pools i, sym db i)) k.way.going;
      hands = empty_hands HANDS s.pools s.hands.items is (ap (λ (p : Pooled). flying_in p.items) pools ∙ calm);
      many = many;
      turns = k.turns;
      followed = subst (λ (z : Pooled × (List (Option Job) × Db)). HasFollowed log k.turns z.0 z.1.0 z.1.1) (λ i. ((sym (ap settled pools ∙ settled_calm r.pools calm)) i, (idle i, sym db i))) k.followed;
    }

pub working_ends : (log : Log) (r s : Replay) → AreWorking log r → flying_in r.pools.items ≡ 0 → s.pools ≡ r.pools → database s.store ≡ database r.store → s.hands.items ≡ replicate 16 None → length s.hands.items ≡ 16 → IsSound log s
working_ends log r s k calm pools db is sixteen = record {
  way = record {
    order = k.order;
    going = subst (λ (z : Pooled × Db). IsGoing log z.0 z.1 k.order) (λ i. (sym pools i, sym db i)) k.going;
    hands = empty_hands 16 s.pools s.hands.items is (ap (λ (p : Pooled). flying_in p.items) pools ∙ calm);
    sixteen = sixteen;
  };
  turns = k.turns;
  followed = subst (λ (z : Pooled × (List (Option Job) × Db)). HasFollowed log k.turns z.0 z.1.0 z.1.1) (λ i. ((settled_calm r.pools calm ∙ sym pools) i, (sym is i, sym db i))) k.followed;
}

-- a recovery with the same pools, hands and database
pub working_same : (log : Log) (r s : Replay) → AreWorking log r → s.pools ≡ r.pools → s.hands.items ≡ r.hands.items → database s.store ≡ database r.store → AreWorking log s
working_same log r s k pools hands db = record {
  order = k.order;
  going = subst (λ (z : Pooled × Db). IsGoing log z.0 z.1 k.order) (λ i. (sym pools i, sym db i)) k.going;
  hands = subst (λ (z : Pooled × List (Option Job)). AreHands z.0 z.1) (λ i. (sym pools i, sym hands i)) k.hands;
  many = ap length hands ∙ k.many;
  turns = k.turns;
  followed = subst (λ (z : Pooled × Db). HasFollowed log k.turns (settled z.0) (replicate 16 None) z.1) (λ i. (sym pools i, sym db i)) k.followed;
}
