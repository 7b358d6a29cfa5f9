-- Open records that wait.
use Rattle.std.proofs.Common.{ℕ, zero, suc, ◌+◌, ◌≤◌, ◌<◌, Bool, true, false, ◌≡◌, ◌≢◌, ◌⊎◌, inl, inr, List, [], ◌∷◌, ◌++◌, length, set, Option, None, Some, refl, sym, ap, subst, ◌∙◌, arith, slice_index}
use Rattle.std.specs.Prelude.{slice_get, slice_index_or, ◌&&◌}
use Rattle.std.specs.List.{Contains}
use Rattle.std.specs.List.Sorted.{IsPermutation}
use Rattle.std.proofs.lemmas.Bool.{cases_Bool}
use Rattle.std.proofs.lemmas.List.Elements.{All-contains, Contains-append_cases, All-cons, Contains-append_left, Contains-append_right, Contains-push, Contains-push_cases}
use Rattle.std.proofs.lemmas.List.Sorted.{All-permutation, Contains-permutation}
use Rattle.std.proofs.lemmas.Option.{same_Some}
use Rattle.tau_base.proofs.Lists.{got_within, get_set_same, get_set_other}
use Rattle.tau_base.proofs.Vectors.{above_covers}
use Rattle.tau_base.specs.Vectors.{covers}
use Rattle.tau_record.specs.declared.entry.Placed.{Placed}
use Rattle.tau_follow.specs.declared.spot.Spot.{Spot}
use Rattle.tau_follow.specs.declared.stage.Stage.{Stage}
use Rattle.tau_follow.specs.declared.waits.Waits.{Waits}
use Rattle.std.specs.Global.{Vec}
use Rattle.tau_follow.specs.declared.stage.Stage.TheVariants.{Applied}
use Rattle.tau_follow.specs.Applying.{dep_of, is_open_stage, is_ready_one, is_ready_both, is_ready_in, set_stage}
use Rattle.tau_follow.specs.Queue.{Wait, spot_at, spot_of, wait_at, AreAbove}
use Rattle.tau_follow.specs.Waits.{AreAllAbove, IsQueued, AreFound, AreKept, IsMore, Moves, Queues}

-- ---- lists

same_or_other : (j k : ℕ) → (j ≡ k) ⊎ (j ≢ k)
same_or_other zero zero = inl refl
same_or_other zero (suc k) = inr (λ e. omega (arith, e))
same_or_other (suc j) zero = inr (λ e. omega (arith, e))
same_or_other (suc j) (suc k) = elim (same_or_other j k) [ inl e ↦ inl (ap suc e) | inr n ↦ inr (λ e. n (omega (arith, e))) ]

pub got_set : {A : Type 0} (xs : List A) (k j : ℕ) (v y : A) → slice_get (set xs k v) j ≡ Some y → ((j ≡ k) × (v ≡ y)) ⊎ ((j ≢ k) × (slice_get xs j ≡ Some y))
got_set [] k j v y e = absurd cc
got_set (x ∷ xs) zero zero v y e = inl (refl, same_Some v y e)
got_set (x ∷ xs) zero (suc j) v y e = inr (λ z. omega (arith, z), e)
got_set (x ∷ xs) (suc k) zero v y e = inr (λ z. omega (arith, z), e)
got_set (x ∷ xs) (suc k) (suc j) v y e = elim (got_set xs k j v y e) [ inl w ↦ inl (ap suc w.0, w.1) | inr w ↦ inr (λ z. w.0 (omega (arith, z)), w.1) ]

there_or : {A : Type 0} (xs : List (List A)) (k i : ℕ) (y : A) → slice_get (slice_index_or xs k []) i ≡ Some y → slice_get xs k ≡ Some (slice_index_or xs k [])
there_or [] k i y e = absurd cc
there_or (x ∷ xs) zero i y e = refl
there_or (x ∷ xs) (suc k) i y e = there_or xs k i y e

-- ---- a queue

pub popped : (old new : List Wait) (x w : Wait) → IsPermutation old (x ∷ new) → Contains old w → Contains new w ⊎ (spot_of w ≡ spot_of x)
popped old new x w p h = elim (Contains-append_cases (x ∷ []) new w (Contains-permutation old (x ∷ new) w p h)) [
  | inl one ↦ (elim (Contains-push_cases [] x w one) [ inl none ↦ absurd (let lt = none.1 in omega (arith, lt)) | inr same ↦ inr (ap spot_of (sym same)) ])
  | inr rest ↦ inl rest
]

pub pushed_there : (old new : List Wait) (x : Wait) → IsPermutation (x ∷ old) new → Contains new x
pushed_there old new x p = Contains-permutation (x ∷ old) new x p (Contains-append_left (x ∷ []) old x (Contains-push [] x))

pub pushed_kept : (old new : List Wait) (x w : Wait) → IsPermutation (x ∷ old) new → Contains old w → Contains new w
pushed_kept old new x w p h = Contains-permutation (x ∷ old) new w p (Contains-append_right (x ∷ []) old w h)

pub pushed_above : (reached : ℕ) (old new : List Wait) (x : Wait) → IsPermutation (x ∷ old) new → reached < x.0.0 → AreAbove reached old → AreAbove reached new
pushed_above reached old new x p lt all = All-permutation (λ (w : Wait). reached < w.0.0) (x ∷ old) new p (All-cons (λ (w : Wait). reached < w.0.0) x old lt all)

-- ---- what is looked at

pub found_more : (streams : List (List Placed)) (stages : List (List Stage)) (looked now : List Spot) (queues : List (List Wait)) → ((x : Spot) → Contains looked x → Contains now x) →
    AreFound streams stages looked queues → AreFound streams stages now queues
found_more streams stages looked now queues more h = λ j i ss s a b o. (elim (h j i ss s a b o) [ inl c ↦ inl (more (spot_at j i) c) | inr q ↦ inr q ])

requeued : (streams : List (List Placed)) (queues : List (List Wait)) (k : ℕ) (q longer : List Wait) → slice_get queues k ≡ Some q → ((w : Wait) → Contains q w → Contains longer w) →
    (j i : ℕ) → IsQueued streams queues j i → IsQueued streams (set queues k longer) j i
requeued streams queues k q longer there kept j i w = elim (same_or_other w.k k) [
  | inl e ↦ record {
    k = w.k;
    queue = longer;
    wait = w.wait;
    there = ap (slice_get (set queues k longer)) e ∙ get_set_same queues k longer (got_within queues k q there);
    among = kept w.wait (subst (λ (l : List Wait). Contains l w.wait) (same_Some w.queue q (sym w.there ∙ ap (slice_get queues) e ∙ there)) w.among);
    of = w.of;
    asked = w.asked;
  }
  | inr other ↦ record {
    k = w.k;
    queue = w.queue;
    wait = w.wait;
    there = get_set_other queues k w.k longer other ∙ w.there;
    among = w.among;
    of = w.of;
    asked = w.asked;
  }
]

moved_still : (streams : List (List Placed)) (looked now : List Spot) (queues : List (List Wait)) (k : ℕ) (q rest : List Wait) → slice_get queues k ≡ Some q → Moves looked q now rest →
    (j i : ℕ) → IsQueued streams queues j i → Contains now (spot_at j i) ⊎ IsQueued streams (set queues k rest) j i
moved_still streams looked now queues k q rest there m j i w = elim (same_or_other w.k k) [
  | inl e ↦ (elim (m.moved w.wait (subst (λ (l : List Wait). Contains l w.wait) (same_Some w.queue q (sym w.there ∙ ap (slice_get queues) e ∙ there)) w.among)) [
    | inl stays ↦ inr (record {
      k = w.k;
      queue = rest;
      wait = w.wait;
      there = ap (slice_get (set queues k rest)) e ∙ get_set_same queues k rest (got_within queues k q there);
      among = stays;
      of = w.of;
      asked = w.asked;
    })
    | inr goes ↦ inl (subst (λ (x : Spot). Contains now x) w.of goes)
  ])
  | inr other ↦ inr (record {
    k = w.k;
    queue = w.queue;
    wait = w.wait;
    there = get_set_other queues k w.k rest other ∙ w.there;
    among = w.among;
    of = w.of;
    asked = w.asked;
  })
]

-- the first of a queue are looked at
pub moved_at : (streams : List (List Placed)) (stages : List (List Stage)) (looked now : List Spot) (queues : List (List Wait)) (k : ℕ) (q rest : List Wait) → slice_get queues k ≡ Some q → Moves looked q now rest →
    AreFound streams stages looked queues → AreFound streams stages now (set queues k rest)
moved_at streams stages looked now queues k q rest there m h = λ j i ss s a b o. (elim (h j i ss s a b o) [
  | inl c ↦ inl (m.kept (spot_at j i) c)
  | inr w ↦ moved_still streams looked now queues k q rest there m j i w
])

-- a record that is looked at waits
pub queued : (streams : List (List Placed)) (stages : List (List Stage)) (looked : List Spot) (queues now : List (List Wait)) (k at : ℕ) (spot : Spot) (q : Queues queues k at spot now) →
    ((ps : List Placed) (p : Placed) → slice_get streams spot.stream ≡ Some ps → slice_get ps spot.index ≡ Some p → at ≤ slice_index (dep_of p.entry) k) →
    AreFound streams stages (looked ++ spot ∷ []) queues → AreFound streams stages looked now
queued streams stages looked queues now k at spot q asked h =
    subst (λ (l : List (List Wait)). AreFound streams stages looked l) (sym q.now_is) (λ j i ss s a b o. (elim (h j i ss s a b o) [
      | inl c ↦ (elim (Contains-push_cases looked spot (spot_at j i) c) [
        | inl l ↦ inl l
        | inr e ↦ inr (record {
          k = k;
          queue = q.longer;
          wait = wait_at at spot;
          there = get_set_same queues k q.longer (got_within queues k q.queue q.there);
          among = q.added;
          of = e;
          asked = λ ps p x y. asked ps p (ap (λ (z : Spot). slice_get streams z.stream) e ∙ x) (ap (λ (z : Spot). slice_get ps z.index) e ∙ y);
        })
      ])
      | inr w ↦ inr (requeued streams queues k q.queue q.longer q.there q.kept j i w)
    ]))

-- a record that is looked at is not open
pub not_open : (streams : List (List Placed)) (stages : List (List Stage)) (looked : List Spot) (queues : List (List Wait)) (spot : Spot) →
    ((ss : List Stage) (s : Stage) → slice_get stages spot.stream ≡ Some ss → slice_get ss spot.index ≡ Some s → is_open_stage s ≡ false) →
    AreFound streams stages (looked ++ spot ∷ []) queues → AreFound streams stages looked queues
not_open streams stages looked queues spot none h = λ j i ss s a b o. (elim (h j i ss s a b o) [
  | inl c ↦ (elim (Contains-push_cases looked spot (spot_at j i) c) [
    | inl l ↦ inl l
    | inr e ↦ absurd (let z : true ≡ false = sym o ∙ none ss s (ap (λ (z : Spot). slice_get stages z.stream) e ∙ a) (ap (λ (z : Spot). slice_get ss z.index) e ∙ b) in cc z)
  ])
  | inr w ↦ inr w
])

-- a record that is looked at is applied
pub found_applied : (streams : List (List Placed)) (stages : List (List Stage)) (looked : List Spot) (queues : List (List Wait)) (spot : Spot) →
    AreFound streams stages (looked ++ spot ∷ []) queues → AreFound streams (set_stage stages spot.stream spot.index Applied) looked queues
found_applied streams stages looked queues spot h = λ j i ss s a b o. (elim (got_set stages spot.stream j (set (slice_index_or stages spot.stream []) spot.index Applied) ss a) [
  | inl w ↦ (elim (got_set (slice_index_or stages spot.stream []) spot.index i Applied s (ap (λ (l : List Stage). slice_get l i) w.1 ∙ b)) [
    | inl v ↦ absurd (let z : true ≡ false = sym o ∙ ap is_open_stage (sym v.1) in cc z)
    | inr v ↦ other j i (slice_index_or stages spot.stream []) s (ap (slice_get stages) w.0 ∙ there_or stages spot.stream i s v.1) v.1 o (λ e. v.0 (ap (λ (z : Spot). z.index) (sym e)))
  ])
  | inr w ↦ other j i ss s w.1 b o (λ e. w.0 (ap (λ (z : Spot). z.stream) (sym e)))
])
  where
    other : (j i : ℕ) (ss : List Stage) (s : Stage) → slice_get stages j ≡ Some ss → slice_get ss i ≡ Some s → is_open_stage s ≡ true → (spot ≢ spot_at j i) → Contains looked (spot_at j i) ⊎ IsQueued streams queues j i
    other j i ss s a b o apart = elim (h j i ss s a b o) [
      | inl c ↦ (elim (Contains-push_cases looked spot (spot_at j i) c) [ inl l ↦ inl l | inr e ↦ absurd (apart e) ])
      | inr w ↦ inr w
    ]

-- none to look at, and each waits for more: none is ready
pub none_found : (streams : List (List Placed)) (stages : List (List Stage)) (queues : List (List Wait)) (reached : List ℕ) → AreFound streams stages [] queues → AreAllAbove reached queues → (j i : ℕ) → is_ready_in reached streams stages j i ≡ false
none_found streams stages queues reached h above j i = both (slice_get streams j) (slice_get stages j) refl refl
  where
    one : (ps : List Placed) (ss : List Stage) → slice_get streams j ≡ Some ps → slice_get stages j ≡ Some ss → (x : Option Placed) (y : Option Stage) → slice_get ps i ≡ x → slice_get ss i ≡ y → is_ready_one reached x y ≡ false
    one ps ss a b None y c d = refl
    one ps ss a b (Some p) None c d = refl
    one ps ss a b (Some p) (Some s) c d = elim (cases_Bool (is_open_stage s)) [
      | inl o ↦ (elim (h j i ss s b d o) [
        | inl none ↦ absurd (let lt = none.1 in omega (arith, lt))
        | inr w ↦
            let lt : slice_index reached w.k < w.wait.0.0 = All-contains (λ (x : Wait). slice_index reached w.k < x.0.0) w.queue w.wait (above w.k w.queue w.there) w.among in
            let le = w.asked ps p a c in
            ap (λ (x : Bool). x && covers reached (dep_of p.entry)) o ∙ above_covers reached (dep_of p.entry) w.k (omega (arith, lt, le))
      ])
      | inr n ↦ ap (λ (x : Bool). x && covers reached (dep_of p.entry)) n
    ]

    both : (x : Option (List Placed)) (y : Option (List Stage)) → slice_get streams j ≡ x → slice_get stages j ≡ y → is_ready_both reached x y i ≡ false
    both None y a b = refl
    both (Some ps) None a b = refl
    both (Some ps) (Some ss) a b = one ps ss a b (slice_get ps i) (slice_get ss i) refl refl

-- a record that stands open and is covered is ready
pub ready_there : (streams : List (List Placed)) (stages : List (List Stage)) (reached : List ℕ) (j i : ℕ) (ps : List Placed) (p : Placed) (ss : List Stage) (s : Stage) → slice_get streams j ≡ Some ps → slice_get ps i ≡ Some p →
    slice_get stages j ≡ Some ss → slice_get ss i ≡ Some s → is_open_stage s ≡ true → covers reached (dep_of p.entry) ≡ true → is_ready_in reached streams stages j i ≡ true
ready_there streams stages reached j i ps p ss s a b c d o e = rw (a, c, b, d, o, e) refl

-- what a record waits for is what its vector asks
pub asked_is : (streams : List (List Placed)) (j i k at : ℕ) (dep : List ℕ) (ps qs : List Placed) (p q : Placed) → slice_get streams j ≡ Some ps → slice_get ps i ≡ Some p → dep ≡ dep_of p.entry → at ≡ slice_index dep k →
    slice_get streams j ≡ Some qs → slice_get qs i ≡ Some q → at ≤ slice_index (dep_of q.entry) k
asked_is streams j i k at dep ps qs p q a b is at_is c d =
    let lists : ps ≡ qs = same_Some ps qs (sym a ∙ c) in
    let one : p ≡ q = same_Some p q (sym b ∙ ap (λ (l : List Placed). slice_get l i) lists ∙ d) in
    let e : at ≡ slice_index (dep_of q.entry) k = at_is ∙ ap (λ (l : List ℕ). slice_index l k) (is ∙ ap (λ (z : Placed). dep_of z.entry) one) in
    omega (arith, e)

pub set_many : {A : Type 0} (xs : List A) (k : ℕ) (x : A) → length (set xs k x) ≡ length xs
set_many [] k x = refl
set_many (y ∷ xs) zero x = refl
set_many (y ∷ xs) (suc k) x = ap suc (set_many xs k x)

pub none_left : (l : List Spot) → length l ≡ 0 → l ≡ []
none_left [] e = refl
none_left (x ∷ l) e = absurd (omega (arith, e))

-- ---- queues of which each waits for more

pub above_set : (reached : List ℕ) (queues : List (List Wait)) (k : ℕ) (q : List Wait) → AreAbove (slice_index reached k) q → AreAllAbove reached queues → AreAllAbove reached (set queues k q)
above_set reached queues k q here all = λ l queue there. (elim (got_set queues k l q queue there) [
  | inl w ↦ subst (λ (n : ℕ). AreAbove (slice_index reached n) queue) (sym w.0) (subst (λ (x : List Wait). AreAbove (slice_index reached k) x) w.1 here)
  | inr w ↦ all l queue w.1
])

-- one queue holds what waits for more than a stream is followed now
pub above_passed : (before now : List ℕ) (queues : List (List Wait)) (k at : ℕ) (q : List Wait) → AreAllAbove before queues → slice_index now k ≡ at → ((l : ℕ) → l ≢ k → slice_index now l ≡ slice_index before l) → AreAbove at q → AreAllAbove now (set queues k q)
above_passed before now queues k at q all here others above = λ l queue there. (elim (got_set queues k l q queue there) [
  | inl w ↦ subst (λ (n : ℕ). AreAbove n queue) (sym (ap (slice_index now) w.0 ∙ here)) (subst (λ (x : List Wait). AreAbove at x) w.1 above)
  | inr w ↦ subst (λ (n : ℕ). AreAbove n queue) (sym (others l w.0)) (all l queue w.1)
])

-- an element that is lent is there
pub got_at : {A : Type 0} (xs : List A) (j : ℕ) (x : A) → j < length xs → x ≡ slice_index_or xs j x → slice_get xs j ≡ Some x
got_at [] j x lt e = absurd (omega (arith, lt))
got_at (y ∷ xs) zero x lt e = ap (λ z. Some z) (sym e)
got_at (y ∷ xs) (suc j) x lt e = got_at xs j x (omega (arith, lt)) e

-- ---- loops

pub moves_none : (looked : List Spot) (queue : List Wait) → Moves looked queue looked queue
moves_none looked queue = record { kept = λ x c. c; moved = λ w c. inl c }

-- one more is looked at
pub moves_one : (looked was : List Spot) (queue left rest : List Wait) (spot : Spot) → Moves looked queue was left → ((w : Wait) → Contains left w → Contains rest w ⊎ (spot_of w ≡ spot)) → Moves looked queue (was ++ spot ∷ []) rest
moves_one looked was queue left rest spot m h = record {
  kept = λ x c. Contains-append_left was (spot ∷ []) x (m.kept x c);
  moved = λ w c. (elim (m.moved w c) [
    | inl stays ↦ (elim (h w stays) [ inl still ↦ inl still | inr same ↦ inr (subst (λ (x : Spot). Contains (was ++ spot ∷ []) x) (sym same) (Contains-push was spot)) ])
    | inr goes ↦ inr (Contains-append_left was (spot ∷ []) (spot_of w) goes)
  ]);
}

-- one queue more is drained
pub above_next : (reached : List ℕ) (queues : List (List Wait)) (k : ℕ) (q : List Wait) → ((j : ℕ) (queue : List Wait) → j < k → slice_get queues j ≡ Some queue → AreAbove (slice_index reached j) queue) → AreAbove (slice_index reached k) q →
    (j : ℕ) (queue : List Wait) → j < k + 1 → slice_get (set queues k q) j ≡ Some queue → AreAbove (slice_index reached j) queue
above_next reached queues k q before here j queue lt there = elim (got_set queues k j q queue there) [
  | inl w ↦ subst (λ (n : ℕ). AreAbove (slice_index reached n) queue) (sym w.0) (subst (λ (x : List Wait). AreAbove (slice_index reached k) x) w.1 here)
  | inr w ↦ before j queue (let n = w.0 in omega (arith, lt, n)) w.1
]

pub last_or_before : (i k : ℕ) → i < k + 1 → (i < k) ⊎ (i ≡ k)
last_or_before i k lt = elim (same_or_other i k) [ inl e ↦ inr e | inr n ↦ inl (omega (arith, lt, n)) ]

-- ---- once it is known what waits

-- those that were known are, if more are looked at
pub kept_more : (streams : List (List Placed)) (stages : List (List Stage)) (old new : Waits) → IsMore old new → AreKept streams stages old → AreKept streams stages new
kept_more streams stages old new m (inl lost) = inl (m.lost ∙ lost)
kept_more streams stages old new m (inr found) =
    inr (subst (λ (v : Vec (List Wait)). AreFound streams stages new.looked.items v.items) (sym m.queues) (found_more streams stages old.looked.items new.looked.items old.queues.items m.kept found))

pub more_itself : (w : Waits) → IsMore w w
more_itself w = record { kept = λ x c. c; queues = refl; lost = refl }

-- ---- spots that are looked at one after another

pub looks_kept : (was now : List Spot) (spot x : Spot) → now ≡ was ++ spot ∷ [] → Contains was x → Contains now x
looks_kept was now spot x e c = subst (λ (l : List Spot). Contains l x) (sym e) (Contains-append_left was (spot ∷ []) x c)

pub looks_one : (was now : List Spot) (j k i : ℕ) → now ≡ was ++ spot_at j k ∷ [] → (i < k → Contains was (spot_at j i)) → i < k + 1 → Contains now (spot_at j i)
looks_one was now j k i e before lt = subst (λ (l : List Spot). Contains l (spot_at j i)) (sym e) (elim (last_or_before i k lt) [
  | inl less ↦ Contains-append_left was (spot_at j k ∷ []) (spot_at j i) (before less)
  | inr same ↦ subst (λ (n : ℕ). Contains (was ++ spot_at j k ∷ []) (spot_at j n)) (sym same) (Contains-push was (spot_at j k))
])

-- one stream more
pub stream_looked : (stages : List (List Stage)) (was now : List Spot) (j k i : ℕ) (here ss : List Stage) (s : Stage) → slice_get stages j ≡ Some here → ((x : Spot) → Contains was x → Contains now x) →
    ((l : ℕ) → 0 ≤ l → l < length here → Contains now (spot_at j l)) → (k < j → Contains was (spot_at k i)) → k < j + 1 → slice_get stages k ≡ Some ss → slice_get ss i ≡ Some s → Contains now (spot_at k i)
stream_looked stages was now j k i here ss s there kept added before lt a b = elim (last_or_before k j lt) [
  | inl less ↦ kept (spot_at k i) (before less)
  | inr same ↦
      let is : ss ≡ here = same_Some ss here (sym a ∙ ap (slice_get stages) same ∙ there) in
      let short = got_within ss i s b in
      let long = ap length is in
      subst (λ (n : ℕ). Contains now (spot_at n i)) (sym same) (added i (omega arith) (omega (arith, short, long)))
]

pub none_in : (x : Spot) (P : Type 0) → Contains [] x → P
none_in x P c = absurd (let lt = c.1 in omega (arith, lt))
