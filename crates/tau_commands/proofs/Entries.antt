-- What is said of the disks before the slots and of those of the slots is said of the entries of all disks.
use Rattle.std.proofs.Common.{ℕ, ◌+◌, ◌-◌, ◌<◌, ◌≤◌, ◌≡◌, List, ◌++◌, length, take, drop, inl, inr, sym, ap, subst, ◌∙◌, Bool, arith}
use Rattle.std.specs.Prelude.{Some, None, slice_get}
use Rattle.std.proofs.Math.Seq.{drop-append_seam}
use Rattle.std.proofs.lemmas.List.{length-append}
use Rattle.std.proofs.lemmas.Option.{slice_get_past}
use Rattle.tau_base.proofs.Lists.{got_within}
use Rattle.tau_base.proofs.Logic.{below_or_not}
use Rattle.tau_base.specs.declared.limits.TheConstants.{MAX_STREAMS}
use Rattle.tau_disk.proofs.Places.{get_append, get_drop, get_dropped}
use Rattle.tau_disk.specs.Used.{Each, EachIn, EachUsed, IsClean, IsFirstStopped, IsStopped, OfDisk}
use Rattle.tau_begin.proofs.Slices.{get_take}
use Rattle.tau_commands.specs.Checkpoints.{IsUsed}
use Rattle.tau_commands.specs.declared.disks.TheConstants.{DISKS}

module _ {D : Type 0} (old front slots : List D) (many : length old ≡ DISKS) (long : length front ≡ MAX_STREAMS) (few : length slots ≡ 2) where
  abbrev pub New : List D
  New = front ++ slots

  pub low_old : (j : ℕ) → j < MAX_STREAMS → slice_get (take MAX_STREAMS old) j ≡ slice_get old j
  low_old j low = get_take old MAX_STREAMS j low

  pub low_new : (j : ℕ) → j < MAX_STREAMS → slice_get New j ≡ slice_get front j
  low_new j low = get_append front slots j (omega (arith, low, long))

  pub slot_old : (i : ℕ) → slice_get (drop MAX_STREAMS old) i ≡ slice_get old (MAX_STREAMS + i)
  slot_old i = get_drop MAX_STREAMS old i

  pub slot_new : (i : ℕ) → slice_get New (MAX_STREAMS + i) ≡ slice_get slots i
  slot_new i =
      let seam : drop MAX_STREAMS New ≡ slots = subst (λ (k : ℕ). drop k New ≡ slots) long (drop-append_seam front slots) in
      sym (get_drop MAX_STREAMS New i) ∙ ap (λ (xs : List D). slice_get xs i) seam

  pub of_stream : (R : D → D → Type 0) (j : ℕ) → j < MAX_STREAMS → OfDisk R (take MAX_STREAMS old) front j → OfDisk R old New j
  of_stream R j low (d, e, was, is, r) = (d, e, sym (low_old j low) ∙ was, low_new j low ∙ is, r)

  pub of_slot : (R : D → D → Type 0) (i : ℕ) → OfDisk R (drop MAX_STREAMS old) slots i → OfDisk R old New (MAX_STREAMS + i)
  of_slot R i (d, e, was, is, r) = (d, e, sym (slot_old i) ∙ was, slot_new i ∙ is, r)

  slot_at : (R : D → D → Type 0) → Each R (drop MAX_STREAMS old) slots → (i : ℕ) (d : D) → slice_get old (MAX_STREAMS + i) ≡ Some d → (e : D) × (slice_get New (MAX_STREAMS + i) ≡ Some e) × R d e
  slot_at R each i d was = let (e, is, r) = each i d (slot_old i ∙ was) in (e, slot_new i ∙ is, r)

  module _ (n : ℕ) (le : n ≤ MAX_STREAMS) where
    pub each_stream : (R : D → D → Type 0) → EachUsed R (take MAX_STREAMS old) front n → (j : ℕ) (d : D) → j < n → slice_get old j ≡ Some d → (e : D) × (slice_get New j ≡ Some e) × R d e
    each_stream R each j d low was =
        let under : j < MAX_STREAMS = omega (arith, low, le) in
        let (e, is, r) = each j d low (low_old j under ∙ was) in
        (e, low_new j under ∙ is, r)

    pub each_used : (R : D → D → Type 0) → EachUsed R (take MAX_STREAMS old) front n → Each R (drop MAX_STREAMS old) slots → EachIn (IsUsed n) (λ j. R) old New
    each_used R streams each j d (inl low) was = each_stream R streams j d low was
    each_used R streams each j d (inr high) was =
        let place : MAX_STREAMS + (j - MAX_STREAMS) ≡ j = omega (arith, high.0) in
        subst (λ (k : ℕ). (e : D) × (slice_get New k ≡ Some e) × R d e) place (slot_at R each (j - MAX_STREAMS) d (ap (λ (k : ℕ). slice_get old k) place ∙ was))

    all_long : length New ≡ DISKS
    all_long = omega (arith, length-append front slots, long, few)

    module _ (rest : drop n front ≡ drop n (take MAX_STREAMS old)) where
      between : (j : ℕ) → n ≤ j → j < MAX_STREAMS → slice_get New j ≡ slice_get old j
      between j ge low = low_new j low ∙ get_dropped front (take MAX_STREAMS old) n j rest ge ∙ low_old j low

      -- entries that are not used are as they were
      pub unused : (j : ℕ) → (IsUsed n j → ⊥) → slice_get New j ≡ slice_get old j
      unused j out = elim (below_or_not j n) [
        | inl low ↦ absurd (out (inl low))
        | inr ge ↦ elim (below_or_not j MAX_STREAMS) [
          | inl low ↦ between j ge low
          | inr high ↦ elim (below_or_not j DISKS) [
            | inl under ↦ absurd (out (inr (high, under)))
            | inr past ↦ slice_get_past New j (omega (arith, past, all_long)) ∙ sym (slice_get_past old j (omega (arith, past, many)))
          ]
        ]
      ]

      module _ (tells : Type 0) (number : D → ℕ) (fails : D → ℕ → Bool) (short : D → Bool) where
        pub first_stream : (j : ℕ) → j < n → IsFirstStopped tells number fails short (take MAX_STREAMS old) front j → IsFirstStopped tells number fails short old New j
        first_stream j low first = (
          of_stream (IsStopped tells number fails short) j (omega (arith, low, le)) first.0,
          λ i d under was.
              let here : i < MAX_STREAMS = omega (arith, under, low, le) in
              let (e, is, clean) = first.1 i d under (low_old i here ∙ was) in
              (e, low_new i here ∙ is, clean),
        )

        still : (d : D) → IsClean tells number fails d d
        still d t k low high = absurd (omega (arith, low, high))

        below_slots : EachUsed (IsClean tells number fails) (take MAX_STREAMS old) front n → (j : ℕ) (d : D) → j < MAX_STREAMS → slice_get old j ≡ Some d → (e : D) × (slice_get New j ≡ Some e) × IsClean tells number fails d e
        below_slots clean j d low was = elim (below_or_not j n) [
          | inl under ↦ each_stream (IsClean tells number fails) clean j d under was
          | inr ge ↦ (d, between j ge low ∙ was, still d)
        ]

        pub first_slot : (i : ℕ) → EachUsed (IsClean tells number fails) (take MAX_STREAMS old) front n → IsFirstStopped tells number fails short (drop MAX_STREAMS old) slots i → IsFirstStopped tells number fails short old New (MAX_STREAMS + i)
        first_slot i clean first = (
          of_slot (IsStopped tells number fails short) i first.0,
          λ j d under was. elim (below_or_not j MAX_STREAMS) [
            | inl low ↦ below_slots clean j d low was
            | inr high ↦
                let place : MAX_STREAMS + (j - MAX_STREAMS) ≡ j = omega (arith, high) in
                let (e, is, c) = first.1 (j - MAX_STREAMS) d (omega (arith, under, high)) (slot_old (j - MAX_STREAMS) ∙ ap (λ (k : ℕ). slice_get old k) place ∙ was) in
                (e, ap (λ (k : ℕ). slice_get New k) (sym place) ∙ slot_new (j - MAX_STREAMS) ∙ is, c)
          ],
        )
