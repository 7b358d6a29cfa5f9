-- One more turn of the round.
use Rattle.std.proofs.Common.{ℕ, List, ◌≡◌, ◌+◌, ◌<◌, ◌≤◌, ◌⊎◌, inl, inr, refl, ap, subst, ◌∙◌, arith}
use Rattle.std.specs.Prelude.{Option, Some, None, slice_get}
use Rattle.std.proofs.lemmas.Bool.{cases_eq, cases_lt}
use Rattle.tau_pool.specs.declared.item.Job.{Job}
use Rattle.tau_model.specs.Store.{database}
use Rattle.tau_replay.specs.Followed.{workers_from}
use Rattle.tau_replay.specs.Way.{left_of}
use Rattle.tau_replay.proofs.Following.{round_begins, round_goes, round_ends}
use Rattle.tau_replay.proofs.Hands.{some_hand}
use Rattle.tau_replay.proofs.replay.round.Goals as goal
use Rattle.tau_base.proofs.Lists.{got_within}

-- the hand of this worker holds a job, or none does so far
turned : (left_new left_now left_old from worker : ℕ) (old now new : List (Option Job)) → left_new ≤ left_now → left_now ≤ left_old →
    ((job : Job) → slice_get now worker ≡ Some (Some job) → left_new < left_now) → (left_new < left_now) ⊎ (new ≡ now) →
    (left_now < left_old) ⊎ ((now ≡ old) × ((w : ℕ) (job : Job) → from ≤ w → w < worker → slice_get old w ≡ Some (Some job) → ⊥)) →
    (left_new < left_old) ⊎ ((new ≡ old) × ((w : ℕ) (job : Job) → from ≤ w → w < worker + 1 → slice_get old w ≡ Some (Some job) → ⊥))
turned left_new left_now left_old from worker old now new a b busy idle (inl less) = inl (omega (arith, a, less))
turned left_new left_now left_old from worker old now new a b busy (inl less) (inr same) = inl (omega (arith, b, less))
turned left_new left_now left_old from worker old now new a b busy (inr is) (inr (same, none)) = by_hand (slice_get now worker) refl
  where
    by_hand : (o : Option (Option Job)) → slice_get now worker ≡ o → (left_new < left_old) ⊎ ((new ≡ old) × ((w : ℕ) (job : Job) → from ≤ w → w < worker + 1 → slice_get old w ≡ Some (Some job) → ⊥))
    by_hand (Some (Some job)) at = inl (let h = busy job at in omega (arith, b, h))
    by_hand (Some None) at = inr (
      is ∙ same,
      λ w job low lt there. elim (cases_eq w worker) [
        | inl e ↦ let here : slice_get now worker ≡ Some (Some job) = ap (λ (hs : List (Option Job)). slice_get hs worker) same ∙ subst (λ (n : ℕ). slice_get old n ≡ Some (Some job)) e there in absurd cc
        | inr other ↦ none w job low (omega (arith, lt, below w worker lt other)) there
      ],
    )
      where
        below : (w worker : ℕ) → w < worker + 1 → (w ≡ worker → ⊥) → w < worker
        below w worker lt other = elim (cases_lt w worker) [ inl x ↦ x | inr y ↦ absurd (other (omega (arith, lt, y))) ]
    by_hand None at = inr (
      is ∙ same,
      λ w job low lt there. elim (cases_eq w worker) [
        | inl e ↦ let here : slice_get now worker ≡ Some (Some job) = ap (λ (hs : List (Option Job)). slice_get hs worker) same ∙ subst (λ (n : ℕ). slice_get old n ≡ Some (Some job)) e there in absurd cc
        | inr other ↦ none w job low (omega (arith, lt, below w worker lt other)) there
      ],
    )
      where
        below : (w worker : ℕ) → w < worker + 1 → (w ≡ worker → ⊥) → w < worker
        below w worker lt other = elim (cases_lt w worker) [ inl x ↦ x | inr y ↦ absurd (other (omega (arith, lt, y))) ]

pub loop-worker-init : goal.loop-worker-init
loop-worker-init g c = record {
  going = c.requires.1;
  less = omega arith;
  followed = λ turns f. round_begins c.args.log.now g.course turns c.args.from c.args.replay.now.pools c.args.replay.now.hands.items (database c.args.replay.now.store) f;
  some = inr (refl, λ w job low lt at. absurd (omega (arith, low, lt)));
}

pub loop-worker-preserved : goal.loop-worker-preserved
loop-worker-preserved g c = record {
  going = c.in_ok-turn.ensures.going;
  less = omega (arith, c.in_ok-turn.ensures.less, c.loop-worker.invariant.less);
  followed = λ turns f. round_goes c.args.log.now g.course turns (workers_from c.args.from) c.loop-worker.worker c.loop-worker.replay.pools c.turn.new.replay.pools c.loop-worker.replay.hands.items c.turn.new.replay.hands.items
      (database c.loop-worker.replay.store) (database c.turn.new.replay.store) (omega (arith, c.loop-worker-test.true)) (c.loop-worker.invariant.followed turns f) c.in_ok-turn.ensures.followed;
  some = turned (left_of c.turn.new.replay) (left_of c.loop-worker.replay) (left_of c.args.replay.now) c.args.from c.loop-worker.worker c.args.replay.now.hands.items c.loop-worker.replay.hands.items c.turn.new.replay.hands.items
      c.in_ok-turn.ensures.less c.loop-worker.invariant.less c.in_ok-turn.ensures.busy c.in_ok-turn.ensures.idle c.loop-worker.invariant.some;
}

pub returns-clause-some : goal.returns-clause-some
returns-clause-some g c e flying = elim c.loop-worker.invariant.some [
  | inl less ↦ less
  | inr h ↦
      let (w, job, at) = some_hand c.args.replay.now.hands.items (omega (arith, flying, c.requires.1.hands.count)) in
      let lt = got_within c.args.replay.now.hands.items w (Some job) at in
      absurd (h.1 w job (omega (arith, e)) (omega (arith, lt, c.requires.1.sixteen, c.loop-worker-test.false)) at)
]

pub returns-clause-followed : goal.returns-clause-followed
returns-clause-followed g c turns f =
    round_ends c.args.log.now g.course turns (workers_from c.args.from) c.loop-worker.worker c.loop-worker.replay.pools c.loop-worker.replay.hands.items (database c.loop-worker.replay.store) (omega (arith, c.loop-worker-test.false)) (c.loop-worker.invariant.followed turns f)
