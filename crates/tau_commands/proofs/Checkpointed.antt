-- What a checkpoint tells and makes of the disks.
use Rattle.std.proofs.Common.{ℕ, Bool, true, false, ◌+◌, ◌-◌, ◌<◌, ◌≤◌, ◌≡◌, ◌⊎◌, List, [], ◌∷◌, ◌++◌, length, take, drop, refl, inl, inr, sym, ap, subst, ◌∙◌, arith}
use Rattle.std.specs.Prelude.{None, Some, Result, Ok, Err, slice_get}
use Rattle.std.proofs.lemmas.Bool.{cases_eq}
use Rattle.tau_base.proofs.Lists.{got_within}
use Rattle.tau_base.proofs.Logic.{some_is, up_to_or_above}
use Rattle.tau_base.specs.declared.limits.TheConstants.{MAX_STREAMS}
use Rattle.tau_disk.specs.declared.disk.Disk.{Ghosts}
use Rattle.tau_disk.specs.Disk.{Only, Passes, Rose}
use Rattle.tau_disk.proofs.Passing.{barrier}
use Rattle.tau_disk.specs.Stages.{OnlySynced}
use Rattle.tau_disk.specs.Used.{AllCalls, Each, EachIn, IsClean, IsFirstStopped, IsStopped, OfDisk, RoseAt}
use Rattle.tau_begin.specs.Barrier.{IsBarrier}
use Rattle.tau_begin.specs.Reading.{calls_before_writes}
use Rattle.tau_ckpt.proofs.Gates.{short_none}
use Rattle.tau_ckpt.specs.declared.checkpoint.Checkpoint.{Checkpoint}
use Rattle.tau_ckpt.specs.Slot.{Holds}
use Rattle.tau_ckpt.specs.Writing.{EmptyIsUnborn, HoldsOldOrNew, calls_to_write}
use Rattle.tau_commands.specs.Checkpoints.{HoldsWritten, IsRewritten}
use Rattle.tau_commands.specs.Finding.{FailsToPut, HasPut, WasSettled, Writes}

-- a disk was settled, and then its slot was written
module _ {D : Type 0} (G : Ghosts D) (only_now : (d : D) (x : List ℕ) → G.may_leave_since d (G.moment d) x → G.may_leave d x) (d m e : D) (synced : OnlySynced G d m) (settled : WasSettled G d m) where
  module _ (slot : ℕ) (c : Checkpoint) (writes : Writes G slot c m e) where
    unborn_still : G.tells → EmptyIsUnborn (G.seen d) (G.may_leave d) → EmptyIsUnborn (G.seen m) (G.may_leave m)
    unborn_still t unborn empty x now = unborn (sym (settled.same t) ∙ empty) x (synced.no_more x now)

    passed : G.tells → EmptyIsUnborn (G.seen d) (G.may_leave d) → Passes G.moment G.may_leave_since m e (HoldsOldOrNew slot (G.seen d) c)
    passed t unborn = subst (λ (file : List ℕ). Passes G.moment G.may_leave_since m e (HoldsOldOrNew slot file c)) (settled.same t) (writes.moments t (unborn_still t unborn))

    abbrev Since : Type 0
    Since = (b : ℕ) × IsBarrier G b d e × ((x : List ℕ) → G.may_leave_since e b x → HoldsOldOrNew slot (G.seen d) c x)

    of_none : G.tells → EmptyIsUnborn (G.seen d) (G.may_leave d) → G.seen d ≡ [] → Since
    of_none t unborn empty =
        let p = passed t unborn in (
          G.moment d,
          record { low = omega arith; high = omega (arith, synced.moments.later, p.later); since_b = λ x s. inr s; entry = λ t' none. refl },
          λ x s. elim (p.new_ones (G.moment d) x synced.moments.later s) [
            | inl was ↦ elim (synced.moments.new_ones (G.moment d) x (omega arith) was) [
              | inl before ↦ (λ b h. absurd (short_none slot x (unborn empty x (only_now d x before)) b h))
              | inr left ↦ (λ b h. absurd (short_none slot x (unborn empty x left) b h))
            ]
            | inr is ↦ is
          ],
        )

    of_some : G.tells → EmptyIsUnborn (G.seen d) (G.may_leave d) → (G.seen d ≡ [] → ⊥) → Since
    of_some t unborn some =
        let p = passed t unborn in
        let both = barrier G.moment G.may_leave_since G.may_leave only_now d m e (G.seen m) (HoldsOldOrNew slot (G.seen d) c) synced.moments (settled.settled t some) p in (
          G.moment m,
          record { low = synced.moments.later; high = p.later; since_b = both.0; entry = λ t' none. absurd (some none) },
          λ x s. elim (both.1 x s) [
            | inl is ↦ (λ b h. inl (subst (λ (file : List ℕ). Holds slot file b) (is ∙ settled.same t) h))
            | inr is ↦ is
          ],
        )

    none_or_some : (file : List ℕ) → (file ≡ []) ⊎ (file ≡ [] → ⊥)
    none_or_some [] = inl refl
    none_or_some (x ∷ xs) = inr (λ e. cc e)

    pub rewritten : IsRewritten G slot c d e
    rewritten = record { since = λ t unborn. elim (none_or_some (G.seen d)) [ inl none ↦ of_none t unborn none | inr some ↦ of_some t unborn some ] }

  clean_on : G.tells → (a b : ℕ) → ((k : ℕ) → G.number d < k → k ≤ a → G.fails d k ≡ false) → ((k : ℕ) → a < k → k ≤ b → G.fails m k ≡ false) → (k : ℕ) → G.number d < k → k ≤ b → G.fails d k ≡ false
  clean_on t a b first second k low high = elim (up_to_or_above k a) [
    | inl under ↦ first k low under
    | inr above ↦ sym (settled.plan t k) ∙ second k above high
  ]

  pub put_calls : (slot : ℕ) (c : Checkpoint) → HasPut G slot c m e → AllCalls G.tells G.number G.fails G.short (calls_before_writes (length (G.seen d)) + calls_to_write (G.seen d)) d e
  put_calls slot c put t =
      let (n1, s1, c1) = settled.calls t in
      let (n2, s2, c2) = put.calls t in
      let file : calls_to_write (G.seen m) ≡ calls_to_write (G.seen d) = ap (λ (l : List ℕ). calls_to_write l) (settled.same t) in
      let all : G.number e ≡ G.number d + (calls_before_writes (length (G.seen d)) + calls_to_write (G.seen d)) = omega (arith, n1, n2, file) in (
        all,
        s2 ∙ s1,
        λ k low high. clean_on t (G.number m) (G.number e) (λ i lo hi. c1 i lo (omega (arith, hi, n1))) (λ i lo hi. c2 i lo (omega (arith, hi, n2))) k low (omega (arith, high, all)),
      )

  pub put_clean : (slot : ℕ) (c : Checkpoint) → HasPut G slot c m e → IsClean G.tells G.number G.fails d e
  put_clean slot c put t k low high = (let made = put_calls slot c put t in made.2 k low (omega (arith, high, made.0)))

  pub put_holds : (slot : ℕ) (c : Checkpoint) → HasPut G slot c m e → HoldsWritten G slot c d e
  put_holds slot c put = record { holds = put.holds; durable = put.durable; calls = put_calls slot c put }

  pub put_rose : FailsToPut G m e → Rose (G.faults d) (G.faults e)
  put_rose fails = omega (arith, synced.counts, fails.rose)

  pub put_stopped : FailsToPut G m e → IsStopped G.tells G.number G.fails G.short d e
  put_stopped fails t = elim (fails.calls t) [
    | inl made ↦
        let (n1, s1, c1) = settled.calls t in
        let last : G.fails d (G.number e) ≡ true = sym (settled.plan t (G.number e)) ∙ made.2 in
        inr (
          omega (arith, n1, made.0),
          last,
          λ k low high. clean_on t (G.number m) (G.number e - 1) (λ i lo hi. c1 i lo (omega (arith, hi, n1))) (λ i lo hi. made.3 i lo (omega (arith, hi, made.0))) k low (omega (arith, high)),
        )
    | inr memory ↦ inl memory
  ]
