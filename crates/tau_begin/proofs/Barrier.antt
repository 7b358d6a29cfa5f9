-- The barrier of a disk, through the opening and whatever comes after it.
use Rattle.std.proofs.Common.{ℕ, ◌≡◌, ◌≤◌, ◌⊎◌, true, List, [], ◌∷◌, refl, sym, subst, inl, inr, ⊎_elim, length, arith, ◌∙◌}
use Rattle.std.specs.Prelude.{nat_le}
use Rattle.std.proofs.lemmas.Bool.Decides.{nat_tests}
use Rattle.tau_base.specs.declared.format.Format.{Format}
use Rattle.tau_block.specs.Image.{HasContent}
use Rattle.tau_disk.specs.declared.disk.Disk.{Ghosts}
use Rattle.tau_disk.specs.Disk.{Passes}
use Rattle.tau_disk.proofs.Passing.{passes_none, passes_on, barrier}
use Rattle.tau_stream.specs.Stream.{IsOldOrNew, IsUnborn}
use Rattle.tau_begin.specs.Opened.{IsTouched}
use Rattle.tau_begin.specs.Barrier.{IsBarrier, OpeningHasBarrier}

abbrev pub moment_by : ℕ → ℕ → List ℕ → ℕ
moment_by entry read [] = entry
moment_by entry read (x ∷ xs) = read

-- the moment of the barrier of a disk that was `d` at the entry, and `mid` once it was read
abbrev pub barrier_of : {D : Type 0} → Ghosts D → D → D → ℕ
barrier_of G d mid = moment_by (G.moment d) (G.moment mid) (G.seen d)

unborn_content : (f : Format) (n j : ℕ) (x : List ℕ) → length x ≤ 17 → HasContent f n j [] x
unborn_content f n j x short = let small : nat_le (length x) 17 ≡ true = grind (arith, nat_tests, short) in rw small refl

module _ {D : Type 0} (G : Ghosts D) (only_now : (d : D) (x : List ℕ) → G.may_leave_since d (G.moment d) x → G.may_leave d x) (f : Format) (n j long : ℕ) (old body : List ℕ) (d e : D) (t : G.tells)
    (touched : IsTouched G f n j long old body d e) (has : HasContent f n j old (G.seen d)) (empty : G.seen d ≡ [] → (old ≡ []) × IsUnborn (G.may_leave d)) (g : D) (P : List ℕ → Type 0) (passes : Passes G.moment G.may_leave_since e g P) where
  abbrev Left : List ℕ → Type 0
  Left x = IsOldOrNew f n j old body x ⊎ P x

  abbrev mid : D
  mid = touched.mid

  after : Passes G.moment G.may_leave_since mid g Left
  after = passes_on G.moment G.may_leave_since mid e g (IsOldOrNew f n j old body) P Left (touched.starts t (λ none. (empty none).1)) passes (λ x is. inl is) (λ x is. inr is)

  abbrev Put : ℕ → Type 0
  Put b = IsBarrier G b d g × ((x : List ℕ) → G.may_leave_since g b x → Left x)

  from_entry : G.seen d ≡ [] → Put (G.moment d)
  from_entry none = (
    record {
      low = omega arith;
      high = omega (arith, touched.read.only.moments.later, after.later);
      since_b = λ x s. inr s;
      entry = λ tells empty. refl;
    },
    λ x s. ⊎_elim
        (λ early. let at : G.may_leave d x = at_entry x early in
        inl (inl (subst (λ (c : List ℕ). HasContent f n j c x) (sym (empty none).0) (unborn_content f n j x ((empty none).1 x at)))))
        (λ is. is)
        (after.new_ones (G.moment d) x touched.read.only.moments.later s),
  )
    where
      at_entry : (x : List ℕ) → G.may_leave_since touched.mid (G.moment d) x → G.may_leave d x
      at_entry x s = ⊎_elim (λ before. only_now d x before) (λ is. is) (touched.read.only.moments.new_ones (G.moment d) x (omega arith) s)

  from_barrier : (G.seen d ≡ [] → ⊥) → Put (G.moment mid)
  from_barrier some =
      let both = barrier G.moment G.may_leave_since G.may_leave only_now d mid g (G.seen mid) Left touched.read.only.moments (touched.read.settled t some) after in (
        record {
          low = touched.read.only.moments.later;
          high = after.later;
          since_b = both.0;
          entry = λ tells none. absurd (some none);
        },
        λ x s. ⊎_elim
            (λ same. inl (inl (subst (λ (y : List ℕ). HasContent f n j old y) (sym (same ∙ touched.read.same t)) has)))
            (λ is. is)
            (both.1 x s),
      )

  by_bytes : (xs : List ℕ) → G.seen d ≡ xs → Put (moment_by (G.moment d) (G.moment mid) xs)
  by_bytes [] is = from_entry is
  by_bytes (y ∷ ys) is = from_barrier (λ none. no_list (sym is ∙ none))
    where
      no_list : y ∷ ys ≡ [] → ⊥
      no_list e = cc

  -- whatever a run does then, which leaves P
  pub put_on : IsBarrier G (barrier_of G d touched.mid) d g × ((x : List ℕ) → G.may_leave_since g (barrier_of G d touched.mid) x → IsOldOrNew f n j old body x ⊎ P x)
  put_on = by_bytes (G.seen d) refl

pub opening_has_barrier : {D : Type 0} (G : Ghosts D) (only_now : (d : D) (x : List ℕ) → G.may_leave_since d (G.moment d) x → G.may_leave d x) → OpeningHasBarrier G
opening_has_barrier G only_now f n j long old body d e t touched has empty =
    let put = put_on G only_now f n j long old body d e t touched has empty e (IsOldOrNew f n j old body) (passes_none G.moment G.may_leave_since e (IsOldOrNew f n j old body)) in
    (barrier_of G d touched.mid, put.0, λ x s. ⊎_elim (λ is. is) (λ is. is) (put.1 x s))
