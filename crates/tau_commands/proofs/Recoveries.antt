-- The first disks among all.
use Rattle.std.proofs.Common.{ℕ, Bool, zero, suc, ◌≡◌, ◌<◌, List, [], ◌∷◌, refl, sym, ◌∙◌, subst, ◌++◌, take, drop, length, arith}
use Rattle.std.proofs.Math.Seq.{take-append_seam}
use Rattle.std.specs.Prelude.{Some, slice_get}
use Rattle.tau_disk.specs.Used.{Each, EachUsed, OnlyRead, RoseAt, AllCalls, IsClean, IsFirstStopped}
use Rattle.tau_scan.specs.Outside.{IsRead}

module _ {D : Type 0} where
  get_take : (ds : List D) (n j : ℕ) → j < n → slice_get (take n ds) j ≡ slice_get ds j
  get_take ds zero j lt = absurd (omega (arith, lt))
  get_take [] (suc n) j lt = refl
  get_take (x ∷ xs) (suc n) zero lt = refl
  get_take (x ∷ xs) (suc n) (suc j) lt = get_take xs n j (omega (arith, lt))

  -- what a slice of the whole list hands back
  pub handed_back : (new old : List D) (len : ℕ) → length new ≡ len → take len (new ++ drop (length new) old) ≡ new
  handed_back new old len long = subst (λ (k : ℕ). take k (new ++ drop (length new) old) ≡ new) long (take-append_seam new (drop (length new) old))

  take_below : (ds : List D) (n j : ℕ) (d : D) → slice_get (take n ds) j ≡ Some d → j < n
  take_below ds zero j d e = absurd (cc)
  take_below [] (suc n) j d e = absurd (cc)
  take_below (x ∷ xs) (suc n) zero d e = omega arith
  take_below (x ∷ xs) (suc n) (suc j) d e = let lt : j < n = take_below xs n j d e in omega (arith, lt)

  pub read_first : (tells : Type 0) (seen : D → List ℕ) (may_leave : D → List ℕ → Type 0) (moment : D → ℕ) (since : D → ℕ → List ℕ → Type 0) (faults number : D → ℕ) (fails : D → ℕ → Bool) (old new : List D) (n : ℕ) →
      Each (IsRead tells seen may_leave moment since faults number fails) (take n old) (take n new) → EachUsed (OnlyRead tells seen may_leave moment since) old new n
  read_first tells seen may_leave moment since faults number fails old new n each j d lt get =
      let (e, there, r) = each j d (get_take old n j lt ∙ get) in
      (e, sym (get_take new n j lt) ∙ there, r.read)

  pub rose_among : (faults : D → ℕ) (old new : List D) (n j : ℕ) → RoseAt faults (take n old) (take n new) j → (j < n) × RoseAt faults old new j
  rose_among faults old new n j (d, e, was, is, rose) =
      let lt : j < n = take_below old n j d was in
      (lt, (d, e, sym (get_take old n j lt) ∙ was, sym (get_take new n j lt) ∙ is, rose))

  -- what holds of each disk of a slice of the first ones holds of these
  pub each_first : (R : D → D → Type 0) (old new : List D) (n : ℕ) → Each R (take n old) (take n new) → EachUsed R old new n
  each_first R old new n each j d lt get =
      let (e, there, r) = each j d (get_take old n j lt ∙ get) in
      (e, sym (get_take new n j lt) ∙ there, r)

  -- and of a slice that was lent
  pub each_lent : (R : D → D → Type 0) (old new : List D) (n : ℕ) → length new ≡ n → Each R (take n old) new → EachUsed R old (new ++ drop n old) n
  each_lent R old new n long each =
      let same : take n (new ++ drop n old) ≡ new = subst (λ (k : ℕ). take k (new ++ drop n old) ≡ new) long (take-append_seam new (drop n old)) in
      each_first R old (new ++ drop n old) n (subst (λ (ds : List D). Each R (take n old) ds) (sym same) each)

  -- so many calls of which none failed: none was one that is to fail
  pub clean_of : (tells : Type 0) (number : D → ℕ) (fails : D → ℕ → Bool) (short : D → Bool) (count : ℕ) (old new : List D) (n : ℕ) → EachUsed (AllCalls tells number fails short count) old new n → EachUsed (IsClean tells number fails) old new n
  clean_of tells number fails short count old new n each j d lt get =
      let (e, there, calls) = each j d lt get in
      (e, there, λ t k low high. (let made = calls t in made.2 k low (omega (arith, high, made.0))))

  pub stopped_among : (tells : Type 0) (number : D → ℕ) (fails : D → ℕ → Bool) (short : D → Bool) (old new : List D) (n j : ℕ) → IsFirstStopped tells number fails short (take n old) (take n new) j → IsFirstStopped tells number fails short old new j
  stopped_among tells number fails short old new n j h =
      let (d, e, was, is, stop) = h.0 in
      let lt : j < n = take_below old n j d was in (
        (d, e, sym (get_take old n j lt) ∙ was, sym (get_take new n j lt) ∙ is, stop),
        λ i b low get.
            let under : i < n = omega (arith, low, lt) in
            let (f, there, clean) = h.1 i b low (get_take old n i under ∙ get) in
            (f, sym (get_take new n i under) ∙ there, clean),
      )
