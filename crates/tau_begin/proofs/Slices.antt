-- The first disks among all.
use Rattle.std.proofs.Common.{ℕ, zero, suc, ◌≡◌, ◌+◌, ◌<◌, ◌≤◌, List, [], ◌∷◌, ◌++◌, refl, sym, ap, ◌∙◌, subst, take, drop, length, arith}
use Rattle.std.specs.Prelude.{slice_get, slice_index}
use Rattle.std.proofs.Math.Seq.{take-append_seam}
use Rattle.std.proofs.lemmas.List.{take-append-drop, drop-append-le, length-append}
use Rattle.tau_disk.specs.declared.disk.Disk.{Ghosts}
use Rattle.tau_disk.specs.Stages.{Broke, Staged, StageFails, AreLengths}
use Rattle.tau_disk.specs.Used.{EachIn, OfDisk}
use Rattle.tau_scan.specs.Outside.{calls_to_settle, IsSettled, IsSynced, AreSettled, AreSynced, StopsSettling, SyncedFirst}

module _ {D : Type 0} where
  pub get_take : (ds : List D) (n j : ℕ) → j < n → slice_get (take n ds) j ≡ slice_get ds j
  get_take ds zero j lt = absurd (omega (arith, lt))
  get_take [] (suc n) j lt = refl
  get_take (x ∷ xs) (suc n) zero lt = refl
  get_take (x ∷ xs) (suc n) (suc j) lt = get_take xs n j (omega (arith, lt))

  pub taken_long : (ds : List D) (n : ℕ) → n ≤ length ds → length (take n ds) ≡ n
  taken_long ds zero le = refl
  taken_long [] (suc n) le = absurd (omega (arith, le))
  taken_long (d ∷ ds) (suc n) le = let rest = taken_long ds n (omega (arith, le)) in omega (arith, rest)

  -- what was told of the first n disks as a list of their own is told of them among all
  module _ (old now : List D) (n : ℕ) (there : n ≤ length old) (long : length now ≡ n) where
    abbrev pub Back : List D
    Back = now ++ drop n old

    back : take n Back ≡ now
    back = subst (λ (k : ℕ). take k Back ≡ now) long (take-append_seam now (drop n old))

    many : length Back ≡ length old
    many =
        let all = ap (λ (ds : List D). length ds) (take-append-drop n old) in
        omega (arith, length-append now (drop n old), length-append (take n old) (drop n old), all, taken_long old n there, long)

    pub rest_from : (k : ℕ) → k ≤ n → drop k now ≡ drop k (take n old) → drop k Back ≡ drop k old
    rest_from k le same =
        drop-append-le k now (drop n old) (omega (arith, le, long))
        ∙ ap (λ (ds : List D). ds ++ drop n old) same
        ∙ sym (drop-append-le k (take n old) (drop n old) (omega (arith, le, taken_long old n there)))
        ∙ ap (λ (ds : List D). drop k ds) (take-append-drop n old)

    pub each_back : (P : ℕ → Type 0) (R : ℕ → D → D → Type 0) → ((j : ℕ) → P j → j < n) → EachIn P R (take n old) now → EachIn P R old Back
    each_back P R low each j d p was =
        let (e, there, r) = each j d p (get_take old n j (low j p) ∙ was) in
        (e, sym (get_take Back n j (low j p)) ∙ ap (λ (ds : List D). slice_get ds j) back ∙ there, r)

    pub stage_back : (R : ℕ → D → D → Type 0) (k : ℕ) → k ≤ n → Staged R k (take n old) now → Staged R k old Back
    stage_back R k le staged = record {
      each = each_back (λ i. i < k) R (λ j low. omega (arith, low, le)) staged.each;
      rest = rest_from k le staged.rest;
      many = many;
    }

    disk_back : (R : D → D → Type 0) (j : ℕ) → j < n → OfDisk R (take n old) now j → OfDisk R old Back j
    disk_back R j lt (d, e, was, is, r) = (d, e, sym (get_take old n j lt) ∙ was, sym (get_take Back n j lt) ∙ ap (λ (ds : List D). slice_get ds j) back ∙ is, r)

    pub fails_back : (R S : ℕ → D → D → Type 0) (j : ℕ) → j < n → StageFails R S j (take n old) now → StageFails R S j old Back
    fails_back R S j lt fails = record {
      below = each_back (λ i. i < j) R (λ i low. omega (arith, low, lt)) fails.below;
      here = disk_back (S j) j lt fails.here;
      rest = rest_from (j + 1) (omega (arith, lt)) fails.rest;
      many = many;
    }

    module _ (G : Ghosts D) (lengths : List ℕ) (count : length lengths ≡ n) where
      pub synced_back : AreSynced G lengths (take n old) now → AreSynced G lengths old Back
      synced_back synced = each_back (λ j. j < length lengths) (λ j. IsSynced G (slice_index lengths j)) (λ j low. omega (arith, low, count)) synced

      pub first_back : EachIn (λ j. j < length lengths) (λ j. SyncedFirst G) (take n old) now → EachIn (λ j. j < length lengths) (λ j. SyncedFirst G) old Back
      first_back each = each_back (λ j. j < length lengths) (λ j. SyncedFirst G) (λ j low. omega (arith, low, count)) each

      pub settled_back : AreSettled G lengths (take n old) now → AreSettled G lengths old Back
      settled_back settled = stage_back (λ j. IsSettled G (slice_index lengths j)) (length lengths) (omega (arith, count)) settled

      pub stops_back : (j : ℕ) → StopsSettling G lengths j (take n old) now → StopsSettling G lengths j old Back
      stops_back j (low, fails) = (low, fails_back (λ i. IsSettled G (slice_index lengths i)) (λ i. Broke G (calls_to_settle (slice_index lengths i))) j (omega (arith, low, count)) fails)

  pub lengths_first : (tells : Type 0) (seen : D → List ℕ) (old : List D) (n : ℕ) (lengths : List ℕ) → length lengths ≡ n → AreLengths tells seen old lengths → AreLengths tells seen (take n old) lengths
  lengths_first tells seen old n lengths count are j d low was = are j d low (sym (get_take old n j (omega (arith, low, count))) ∙ was)
