-- What is kept stays kept when a record is started or finished.
use Rattle.std.proofs.Common.{ℕ, zero, suc, ◌≡◌, ◌≢◌, ◌+◌, ◌-◌, ◌<◌, ◌≤◌, inl, inr, Bool, true, false, List, [], ◌∷◌, drop, length, eqb-true, refl, sym, ap, subst, ◌∙◌, arith, slice_index}
use Rattle.std.specs.Prelude.{Option, Some, None, slice_get, ◌==◌, if◌then◌else◌}
use Rattle.std.proofs.Math.ListN.{set}
use Rattle.std.proofs.lemmas.Bool.{cases_eq, cases_lt}
use Rattle.std.proofs.lemmas.List.{length-set, get_or-set_same, get_or-set_other}
use Rattle.tau_model.specs.History.{Member}
use Rattle.tau_pool.specs.Item.{Item}
use Rattle.tau_pool.specs.declared.item.Stage.{Stage}
use Rattle.tau_pool.specs.declared.item.Stage.TheVariants.{Waiting, Flying, Finished}
use Rattle.tau_pool.specs.declared.waits.Wait.{Wait}
use Rattle.tau_pool.specs.Items.{is_left, is_waiting, is_flying}
use Rattle.tau_pool.specs.First.{first_from, reach_one}
use Rattle.tau_pool.specs.Passing.{is_passed, wait_of}
use Rattle.tau_pool.specs.Pooled.{staged, IsRecovered}
use Rattle.tau_pool.specs.Kept.{IsWithin, AreWithin, IsReached, AreQueued, IsKept, waits_in}
use Rattle.tau_pool.proofs.Gets.{member_split}
use Rattle.tau_pool.proofs.Counts.{waiting_set, flying_set, one}
use Rattle.tau_pool.proofs.Stages.{found_set, ordered_set, first_set, reach_set, same_passed, finished_passed, other_passed}
use Rattle.tau_pool.proofs.Firsts.{recovered, before_first, first_bounds, first_skip, at_first, open_left}
use Rattle.tau_base.proofs.Lists.{got_within}

pub waiting_left : (s : Stage) → is_waiting s ≡ true → is_left s ≡ true
waiting_left Waiting is = refl
waiting_left Flying is = absurd cc
waiting_left Finished is = absurd cc

pub flying_left : (s : Stage) → is_flying s ≡ true → is_left s ≡ true
flying_left Waiting is = absurd cc
flying_left Flying is = refl
flying_left Finished is = absurd cc

pub waiting_flies : (s : Stage) → is_waiting s ≡ true → is_flying s ≡ false
waiting_flies Waiting is = refl
waiting_flies Flying is = absurd cc
waiting_flies Finished is = absurd cc

flying_waits : (s : Stage) → is_flying s ≡ true → is_waiting s ≡ false
flying_waits Waiting is = absurd cc
flying_waits Flying is = refl
flying_waits Finished is = absurd cc

pub within_set : (ends : List ℕ) (items : List Item) (i : ℕ) (x : Item) (s : Stage) → slice_get items i ≡ Some x → AreWithin ends items → AreWithin ends (set items i (staged s x))
within_set ends items i x s there within k z is = elim (found_set items i (staged s x) k z (got_within items i x there) is) [
  | inl a ↦ let w = within i x there in subst (λ (q : Item). IsWithin ends q) a.1 (record { stream = w.stream; start = w.start; taken = w.taken })
  | inr b ↦ within k z b.1
]

-- ---- a record is started

module _ (ends rlv : List ℕ) (items : List Item) (waits : List (List Wait)) (nexts passed : List ℕ) (waiting flying i : ℕ) (x : Item) (on : Bool) where
  abbrev flies : List Item
  flies = set items i (staged Flying x)

  queued_flies : AreQueued ends rlv items waits passed → slice_get items i ≡ Some x → is_waiting x.stage ≡ true → AreQueued ends rlv flies waits passed
  queued_flies k there waits_is = record {
    many = k.many;
    counts = k.counts;
    listed = record {
      rising = k.listed.rising;
      listed = λ n p z lt is above. elim (found_set items i (staged Flying x) p z (got_within items i x there) is) [
        | inl a ↦ subst (λ (q : Item). Member (wait_of n p q) (waits_in waits n)) a.1
            (subst (λ (m : ℕ). Member (wait_of n m x) (waits_in waits n)) (sym a.0) (k.listed.listed n i x lt there (subst (λ (q : Item). slice_index rlv n < slice_index q.dep n) (sym a.1) above)))
        | inr b ↦ k.listed.listed n p z lt b.1 above
      ];
    };
    met = record {
      upto = k.met.upto;
      met = k.met.met;
      unmet = λ p z is w covered. elim (found_set items i (staged Flying x) p z (got_within items i x there) is) [
        | inl a ↦ let other : is_waiting z.stage ≡ false = ap (λ (q : Item). is_waiting q.stage) (sym a.1) in absurd cc
        | inr b ↦ k.met.unmet p z b.1 w covered
      ];
    };
  }

  pub start_kept : IsKept ends rlv items waits nexts passed waiting flying on → slice_get items i ≡ Some x → is_waiting x.stage ≡ true → IsKept ends rlv flies waits nexts passed (waiting - 1) (flying + 1) on
  start_kept k there waits_is = record {
    narrow = k.narrow;
    wide = k.wide;
    cursors = k.cursors;
    ordered = ordered_set Flying items i x there k.ordered;
    within = within_set ends items i x Flying there k.within;
    reached = record {
      firsts = λ j lt. k.reached.firsts j lt ∙ sym (first_set j 0 items i x (staged Flying x) there (same_passed j x Flying (sym (waiting_left x.stage waits_is))));
      reached = λ j lt. k.reached.reached j lt ∙ sym (reach_set Flying j (slice_index ends j) items i x (slice_index nexts j) there);
    };
    queued = λ e. queued_flies (k.queued e) there waits_is;
    unstarted = let c = waiting_set items i x (staged Flying x) there in let o : one (is_waiting x.stage) ≡ 1 = ap one waits_is in omega (arith, c, o, k.unstarted);
    started = let c = flying_set items i x (staged Flying x) there in let o : one (is_flying x.stage) ≡ 0 = ap one (waiting_flies x.stage waits_is) in omega (arith, c, o, k.started);
  }

  -- ---- a record is finished

  abbrev done : List Item
  done = set items i (staged Finished x)

  module _ (k : IsKept ends rlv items waits nexts passed waiting flying on) (there : slice_get items i ≡ Some x) (flies_is : is_flying x.stage ≡ true) where
    lt_stream : x.stream < length ends
    lt_stream = (k.within i x there).stream

    -- what was passed of a stream stays passed
    pub still_first : (j : ℕ) → j < length ends → first_from j 0 done ≡ first_from j (slice_index nexts j) (drop (slice_index nexts j) done)
    still_first j lt =
        let m : ℕ = slice_index nexts j in
        let is = k.reached.firsts j lt in
        let high = (first_bounds j 0 items).1 in
        first_skip j 0 m done (omega (arith, is, high, length-set items i (staged Finished x))) (λ p z low here. elim (found_set items i (staged Finished x) p z (got_within items i x there) here) [
          | inl a ↦ subst (λ (q : Item). is_passed j q ≡ true) a.1 (finished_passed j x (before_first j 0 items i x (omega (arith, low, is, a.0)) there))
          | inr b ↦ before_first j 0 items p z (omega (arith, low, is)) b.1
        ]) ∙ ap (λ (n : ℕ). first_from j n (drop m done)) (omega arith)

    other_stream : (j : ℕ) → j ≢ x.stream → (x.stream == j) ≡ false
    other_stream j other = by_test (x.stream == j) refl
      where
        by_test : (b : Bool) → (x.stream == j) ≡ b → (x.stream == j) ≡ false
        by_test true is = absurd (other (sym (eqb-true x.stream j is)))
        by_test false is = is

    module _ (next reach : ℕ) (next_is : next ≡ first_from x.stream (slice_index nexts x.stream) (drop (slice_index nexts x.stream) done)) (reach_is : reach ≡ reach_one x.stream (slice_index ends x.stream) (slice_get done next)) where
      abbrev nexts' : List ℕ
      nexts' = set nexts x.stream next

      abbrev rlv' : List ℕ
      rlv' = set rlv x.stream reach

      next_here : slice_index nexts' x.stream ≡ next
      next_here = let low = lt_stream in get_or-set_same nexts x.stream next 0 (omega (arith, low, k.cursors))

      next_other : (j : ℕ) → j ≢ x.stream → slice_index nexts' j ≡ slice_index nexts j
      next_other j other = get_or-set_other nexts x.stream j next 0 other

      reach_here : slice_index rlv' x.stream ≡ reach
      reach_here = let low = lt_stream in get_or-set_same rlv x.stream reach 0 (omega (arith, low, k.wide))

      reach_other : (j : ℕ) → j ≢ x.stream → slice_index rlv' j ≡ slice_index rlv j
      reach_other j other = get_or-set_other rlv x.stream j reach 0 other

      now_reached : IsReached ends rlv' done nexts'
      now_reached = record {
        firsts = λ j lt. elim (cases_eq j x.stream) [
          | inl e ↦ subst (λ (n : ℕ). slice_index nexts' n ≡ first_from n 0 done) (sym e) (next_here ∙ next_is ∙ sym (still_first x.stream lt_stream))
          | inr other ↦ next_other j other ∙ k.reached.firsts j lt ∙ sym (first_set j 0 items i x (staged Finished x) there (other_passed j x (other_stream j other)))
        ];
        reached = λ j lt. elim (cases_eq j x.stream) [
          | inl e ↦ subst (λ (n : ℕ). slice_index rlv' n ≡ reach_one n (slice_index ends n) (slice_get done (slice_index nexts' n))) (sym e)
              (reach_here ∙ reach_is ∙ ap (λ (n : ℕ). reach_one x.stream (slice_index ends x.stream) (slice_get done n)) (sym next_here))
          | inr other ↦ reach_other j other ∙ k.reached.reached j lt ∙ sym (reach_set Finished j (slice_index ends j) items i x (slice_index nexts j) there)
              ∙ ap (λ (n : ℕ). reach_one j (slice_index ends j) (slice_get done n)) (sym (next_other j other))
        ];
      }

      before : IsRecovered ends rlv items
      before = recovered ends rlv items nexts k.wide k.ordered k.within k.reached

      -- the stream is recovered no less than before
      rises_here : slice_index rlv x.stream ≤ reach
      rises_here = by_get (slice_get done next) refl
        where
          low_end : slice_index rlv x.stream ≤ slice_index ends x.stream
          low_end = elim (before.reached x.stream lt_stream) [
            | inl a ↦ omega (arith, a.0)
            | inr b ↦ let (p, z, here, same, left, start) = b in let w = (k.within p z here).start in let e : slice_index ends z.stream ≡ slice_index ends x.stream = ap (λ (n : ℕ). slice_index ends n) same in omega (arith, w, e, start)
          ]

          by_get : (o : Option Item) → slice_get done next ≡ o → slice_index rlv x.stream ≤ reach
          by_get None none = let e : reach ≡ slice_index ends x.stream = reach_is ∙ ap (reach_one x.stream (slice_index ends x.stream)) none in omega (arith, e, low_end)
          by_get (Some z) here = by_test (z.stream == x.stream) refl (reach_is ∙ ap (reach_one x.stream (slice_index ends x.stream)) here)
            where
              by_test : (b : Bool) → (z.stream == x.stream) ≡ b → reach ≡ (if b then z.start else slice_index ends x.stream) → slice_index rlv x.stream ≤ reach
              by_test false other e = omega (arith, e, low_end)
              by_test true same e =
                  let is_same : z.stream ≡ x.stream = eqb-true z.stream x.stream same in
                  let first : first_from x.stream 0 done ≡ 0 + next = still_first x.stream lt_stream ∙ sym next_is ∙ omega arith in
                  let still = open_left x.stream z (at_first x.stream 0 done next z first here) in
                  elim (found_set items i (staged Finished x) next z (got_within items i x there) here) [
                    | inl a ↦ let off : is_left z.stage ≡ false = ap (λ (q : Item). is_left q.stage) (sym a.1) in let on = still.1 is_same in absurd cc
                    | inr b ↦ let low = before.below next z b.1 (still.1 is_same) in let at : slice_index rlv z.stream ≡ slice_index rlv x.stream = ap (λ (n : ℕ). slice_index rlv n) is_same in omega (arith, low, at, e)
                  ]

      rises : (j : ℕ) → slice_index rlv j ≤ slice_index rlv' j
      rises j = elim (cases_eq j x.stream) [
        | inl e ↦ let h = rises_here in let at = reach_here in let a : slice_index rlv j ≡ slice_index rlv x.stream = ap (λ (n : ℕ). slice_index rlv n) e in let b : slice_index rlv' j ≡ slice_index rlv' x.stream = ap (λ (n : ℕ). slice_index rlv' n) e in omega (arith, h, at, a, b)
        | inr other ↦ let at = reach_other j other in omega (arith, at)
      ]

      -- an unstarted record is covered, or waits where it isn't
      where_it_waits : AreQueued ends rlv items waits passed → (p : ℕ) (z : Item) → slice_get items p ≡ Some z → is_waiting z.stage ≡ true → (n : ℕ) → n ≤ length ends → ((j : ℕ) → n ≤ j → slice_index z.dep j ≤ slice_index rlv j) →
          (q : ℕ) × (q < length rlv) × Member (wait_of q p z) (drop (slice_index passed q) (waits_in waits q))
      where_it_waits q p z here w zero le all = q.met.unmet p z here w (λ j. all j (omega arith))
      where_it_waits q p z here w (suc n) le all = elim (cases_lt (slice_index rlv n) (slice_index z.dep n)) [
        | inl above ↦ (n, omega (arith, le, k.wide), unpassed (q.listed.listed n p z (omega (arith, le)) here above) above)
        | inr low ↦ where_it_waits q p z here w n (omega (arith, le)) (λ j from. elim (cases_eq j n) [
          | inl e ↦ subst (λ (m : ℕ). slice_index z.dep m ≤ slice_index rlv m) (sym e) low
          | inr other ↦ all j (omega (arith, from, past j n from other))
        ])
      ]
        where
          past : (j n : ℕ) → n ≤ j → j ≢ n → suc n ≤ j
          past j n from other = elim (cases_lt n j) [ inl a ↦ a | inr b ↦ absurd (other (omega (arith, from, b))) ]

          unpassed : Member (wait_of n p z) (waits_in waits n) → slice_index rlv n < slice_index z.dep n → Member (wait_of n p z) (drop (slice_index passed n) (waits_in waits n))
          unpassed m above = elim (member_split (slice_index passed n) (waits_in waits n) (wait_of n p z) m) [
            | inl a ↦ let low = q.met.met n (wait_of n p z) (omega (arith, le, k.wide)) a in absurd (omega (arith, low, above))
            | inr b ↦ b
          ]

      beyond_ends : (p : ℕ) (z : Item) → slice_get items p ≡ Some z → (j : ℕ) → length ends ≤ j → slice_index z.dep j ≤ slice_index rlv j
      beyond_ends p z here j le = let low = (k.within p z here).taken j in let none = past_end ends j le in omega (arith, low, none)
        where
          past_end : (xs : List ℕ) (j : ℕ) → length xs ≤ j → slice_index xs j ≡ 0
          past_end [] j le = refl
          past_end (y ∷ xs) zero le = absurd (omega (arith, le))
          past_end (y ∷ xs) (suc j) le = past_end xs j (omega (arith, le))

      queued_done : AreQueued ends rlv items waits passed → AreQueued ends rlv' done waits passed
      queued_done q = record {
        many = q.many;
        counts = q.counts;
        listed = record {
          rising = q.listed.rising;
          listed = λ n p z lt is above. let up = rises n in elim (found_set items i (staged Finished x) p z (got_within items i x there) is) [
            | inl a ↦ subst (λ (y : Item). Member (wait_of n p y) (waits_in waits n)) a.1
                (subst (λ (m : ℕ). Member (wait_of n m x) (waits_in waits n)) (sym a.0) (q.listed.listed n i x lt there (let high : slice_index rlv' n < slice_index x.dep n = subst (λ (y : Item). slice_index rlv' n < slice_index y.dep n) (sym a.1) above in omega (arith, high, up))))
            | inr b ↦ q.listed.listed n p z lt b.1 (omega (arith, above, up))
          ];
        };
        met = record {
          upto = λ n lt. q.met.upto n (omega (arith, lt, length-set rlv x.stream reach));
          met = λ n w lt m. let low = q.met.met n w (omega (arith, lt, length-set rlv x.stream reach)) m in let up = rises n in omega (arith, low, up);
          unmet = λ p z is w covered. elim (found_set items i (staged Finished x) p z (got_within items i x there) is) [
            | inl a ↦ let off : is_waiting z.stage ≡ false = ap (λ (y : Item). is_waiting y.stage) (sym a.1) in absurd cc
            | inr b ↦ let (n, lt, m) = where_it_waits q p z b.1 w (length ends) (omega arith) (λ j le. beyond_ends p z b.1 j le) in (n, omega (arith, lt, length-set rlv x.stream reach), m)
          ];
        };
      }

      pub finish_kept : IsKept ends rlv' done waits nexts' passed waiting (flying - 1) on
      finish_kept = record {
        narrow = k.narrow;
        wide = length-set rlv x.stream reach ∙ k.wide;
        cursors = length-set nexts x.stream next ∙ k.cursors;
        ordered = ordered_set Finished items i x there k.ordered;
        within = within_set ends items i x Finished there k.within;
        reached = now_reached;
        queued = λ e. queued_done (k.queued e);
        unstarted = let c = waiting_set items i x (staged Finished x) there in let o : one (is_waiting x.stage) ≡ 0 = ap one (flying_waits x.stage flies_is) in omega (arith, c, o, k.unstarted);
        started = let c = flying_set items i x (staged Finished x) there in let o : one (is_flying x.stage) ≡ 1 = ap one flies_is in omega (arith, c, o, k.started);
      }
