-- What the workers have in flight.
use Rattle.std.proofs.Common.{ℕ, zero, suc, ◌≡◌, ◌+◌, ◌<◌, ◌≤◌, inl, inr, true, false, List, [], ◌∷◌, ◌++◌, replicate, length, refl, sym, ap, subst, ◌∙◌, arith}
use Rattle.std.specs.Prelude.{Option, Some, None, slice_get}
use Rattle.std.proofs.Math.ListN.{set}
use Rattle.std.proofs.lemmas.Bool.{cases_eq}
use Rattle.tau_pool.specs.declared.item.Job.{Job}
use Rattle.tau_pool.specs.declared.item.Stage.{Stage}
use Rattle.tau_pool.specs.declared.item.Stage.TheVariants.{Waiting, Flying, Finished}
use Rattle.tau_pool.specs.Items.{is_waiting, is_flying}
use Rattle.tau_pool.specs.Pooled.{Pooled, IsStarted, IsFlying, IsFinished, staged, waiting_in, flying_in}
use Rattle.tau_pool.proofs.Counts.{waiting_set, flying_set, one}
use Rattle.tau_pool.proofs.Keeping.{waiting_flies}
use Rattle.tau_pool.proofs.Flights.{flying_new, flying_fresh, flying_kept, flying_left}
use Rattle.tau_replay.specs.Recovering.{AreHands, held_in, left_over}
use Rattle.tau_base.proofs.Lists.{got_within, get_set_same, get_set_other}

job_is : (a b : Job) → Some (Some a) ≡ Some (Some b) → a ≡ b
job_is a b e = cc

none_some : (a : Job) → Some None ≡ Some (Some a) → ⊥
none_some a e = cc

held_more : (hands : List (Option Job)) (w : ℕ) (job : Job) → slice_get hands w ≡ Some None → held_in (set hands w (Some job)) ≡ held_in hands + 1
held_more [] w job is = absurd cc
held_more (None ∷ hands) zero job is = omega arith
held_more (Some a ∷ hands) zero job is = absurd cc
held_more (None ∷ hands) (suc w) job is = held_more hands w job is
held_more (Some a ∷ hands) (suc w) job is = let h = held_more hands w job is in omega (arith, h)

held_less : (hands : List (Option Job)) (w : ℕ) (job : Job) → slice_get hands w ≡ Some (Some job) → held_in (set hands w None) + 1 ≡ held_in hands
held_less [] w job is = absurd cc
held_less (None ∷ hands) zero job is = absurd cc
held_less (Some a ∷ hands) zero job is = omega arith
held_less (None ∷ hands) (suc w) job is = held_less hands w job is
held_less (Some a ∷ hands) (suc w) job is = let h = held_less hands w job is in omega (arith, h)

flying_waits : (p : Pooled) (job : Job) (f : IsFlying p job) → is_waiting f.item.stage ≡ false
flying_waits p job f = by f.item.stage f.started
  where
    by : (s : Stage) → is_flying s ≡ true → is_waiting s ≡ false
    by Waiting e = absurd cc
    by Flying e = refl
    by Finished e = refl

pub less_start : (p : Pooled) (job : Job) (q : Pooled) → IsStarted p job q → (left_over q.items < left_over p.items) × (flying_in q.items ≡ flying_in p.items + 1)
less_start p job q s =
    let items : q.items ≡ set p.items job.place (staged Flying s.item) = ap (λ (z : Pooled). z.items) s.new in
    let w = waiting_set p.items job.place s.item (staged Flying s.item) s.there in
    let f = flying_set p.items job.place s.item (staged Flying s.item) s.there in
    let a : one (is_waiting s.item.stage) ≡ 1 = ap one s.unstarted in
    let b : one (is_flying s.item.stage) ≡ 0 = ap one (waiting_flies s.item.stage s.unstarted) in
    let wq : waiting_in q.items ≡ waiting_in (set p.items job.place (staged Flying s.item)) = ap waiting_in items in
    let fq : flying_in q.items ≡ flying_in (set p.items job.place (staged Flying s.item)) = ap flying_in items in
    (omega (arith, w, f, a, b, wq, fq), omega (arith, f, b, fq))

pub less_finish : (p : Pooled) (job : Job) (q : Pooled) → IsFlying p job → IsFinished p job q → (left_over q.items < left_over p.items) × (flying_in q.items + 1 ≡ flying_in p.items)
less_finish p job q j h =
    let items : q.items ≡ set p.items job.place (staged Finished j.item) = h.items j.item j.there in
    let w = waiting_set p.items job.place j.item (staged Finished j.item) j.there in
    let f = flying_set p.items job.place j.item (staged Finished j.item) j.there in
    let a : one (is_waiting j.item.stage) ≡ 0 = ap one (flying_waits p job j) in
    let b : one (is_flying j.item.stage) ≡ 1 = ap one j.started in
    let wq : waiting_in q.items ≡ waiting_in (set p.items job.place (staged Finished j.item)) = ap waiting_in items in
    let fq : flying_in q.items ≡ flying_in (set p.items job.place (staged Finished j.item)) = ap flying_in items in
    (omega (arith, w, f, a, b, wq, fq), omega (arith, f, b, fq))

pub hands_start : (p : Pooled) (hands : List (Option Job)) (w : ℕ) (job : Job) (q : Pooled) → AreHands p hands → slice_get hands w ≡ Some None → IsStarted p job q → AreHands q (set hands w (Some job))
hands_start p hands w job q h idle s = record {
  flying = λ v a at. elim (cases_eq v w) [
    | inl e ↦ subst (λ (b : Job). IsFlying q b) (job_is job a (sym here ∙ subst (λ (n : ℕ). slice_get (set hands w (Some job)) n ≡ Some (Some a)) e at)) (flying_new p job q s)
    | inr other ↦ flying_kept p job a q s (h.flying v a (sym (get_set_other hands w v (Some job) other) ∙ at))
  ];
  apart = λ u v a b other at there. elim (cases_eq u w) [
    | inl e ↦ elim (cases_eq v w) [
      | inl f ↦ absurd (other (e ∙ sym f))
      | inr far ↦
          let mine : job ≡ a = job_is job a (sym here ∙ subst (λ (n : ℕ). slice_get (set hands w (Some job)) n ≡ Some (Some a)) e at) in
          let theirs = flying_fresh p job b q s (h.flying v b (sym (get_set_other hands w v (Some job) far) ∙ there)) in
          λ same. theirs (sym (ap (λ (z : Job). z.place) mine ∙ same))
    ]
    | inr far ↦ elim (cases_eq v w) [
      | inl f ↦
          let mine : job ≡ b = job_is job b (sym here ∙ subst (λ (n : ℕ). slice_get (set hands w (Some job)) n ≡ Some (Some b)) f there) in
          let theirs = flying_fresh p job a q s (h.flying u a (sym (get_set_other hands w u (Some job) far) ∙ at)) in
          λ same. theirs (same ∙ sym (ap (λ (z : Job). z.place) mine))
      | inr away ↦ h.apart u v a b other (sym (get_set_other hands w u (Some job) far) ∙ at) (sym (get_set_other hands w v (Some job) away) ∙ there)
    ]
  ];
  count = let m = held_more hands w job idle in let l = (less_start p job q s).1 in omega (arith, m, l, h.count);
}
  where
    here : slice_get (set hands w (Some job)) w ≡ Some (Some job)
    here = get_set_same hands w (Some job) (got_within hands w None idle)

pub hands_finish : (p : Pooled) (hands : List (Option Job)) (w : ℕ) (job : Job) (q : Pooled) → AreHands p hands → slice_get hands w ≡ Some (Some job) → IsFinished p job q → AreHands q (set hands w None)
hands_finish p hands w job q h busy done = record {
  flying = λ v a at. elim (cases_eq v w) [
    | inl e ↦ absurd (none_some a (sym here ∙ subst (λ (n : ℕ). slice_get (set hands w None) n ≡ Some (Some a)) e at))
    | inr other ↦ let was = sym (get_set_other hands w v None other) ∙ at in flying_left p job a q (h.flying w job busy) done (h.flying v a was) (h.apart v w a job other was busy)
  ];
  apart = λ u v a b other at there. elim (cases_eq u w) [
    | inl e ↦ absurd (none_some a (sym here ∙ subst (λ (n : ℕ). slice_get (set hands w None) n ≡ Some (Some a)) e at))
    | inr far ↦ elim (cases_eq v w) [
      | inl f ↦ absurd (none_some b (sym here ∙ subst (λ (n : ℕ). slice_get (set hands w None) n ≡ Some (Some b)) f there))
      | inr away ↦ h.apart u v a b other (sym (get_set_other hands w u None far) ∙ at) (sym (get_set_other hands w v None away) ∙ there)
    ]
  ];
  count = let m = held_less hands w job busy in let l = (less_finish p job q (h.flying w job busy) done).1 in omega (arith, m, l, h.count);
}
  where
    here : slice_get (set hands w None) w ≡ Some None
    here = get_set_same hands w None (got_within hands w (Some job) busy)

pub some_hand : (hands : List (Option Job)) → 1 ≤ held_in hands → (w : ℕ) × (job : Job) × (slice_get hands w ≡ Some (Some job))
some_hand [] le = absurd (omega (arith, le))
some_hand (None ∷ hands) le = let (w, job, is) = some_hand hands le in (suc w, job, is)
some_hand (Some job ∷ hands) le = (0, job, refl)

pub no_hand : (hands : List (Option Job)) (w : ℕ) → held_in hands ≡ 0 → w < length hands → slice_get hands w ≡ Some None
no_hand [] w e lt = absurd (omega (arith, lt))
no_hand (None ∷ hands) zero e lt = refl
no_hand (None ∷ hands) (suc w) e lt = no_hand hands w e (omega (arith, lt))
no_hand (Some job ∷ hands) w e lt = absurd (omega (arith, e))

none_at : (n w : ℕ) (a : Job) → slice_get (replicate n None) w ≡ Some (Some a) → ⊥
none_at zero w a is = cc
none_at (suc n) zero a is = cc
none_at (suc n) (suc w) a is = none_at n w a is

none_held : (n : ℕ) → held_in (replicate n None) ≡ 0
none_held zero = refl
none_held (suc n) = none_held n

pub empty_hands : (n : ℕ) (p : Pooled) (hands : List (Option Job)) → hands ≡ replicate n None → flying_in p.items ≡ 0 → AreHands p hands
empty_hands n p hands is idle = subst (λ (hs : List (Option Job)). AreHands p hs) (sym is) (record {
  flying = λ w a at. absurd (none_at n w a at);
  apart = λ v w a b other at there. absurd (none_at n v a at);
  count = none_held n ∙ sym idle;
})

-- of so many empty hands none holds anything
pub none_of_idle : (n : ℕ) (p : Pooled) (hands : List (Option Job)) → hands ≡ replicate n None → AreHands p hands → flying_in p.items ≡ 0
none_of_idle n p hands is h = sym h.count ∙ ap held_in is ∙ none_held n
