-- Reading disks one after another.
use Rattle.std.proofs.Common.{ℕ, Bool, zero, suc, ◌≡◌, inl, inr, ◌+◌, ◌<◌, ◌≤◌, List, [], ◌∷◌, ◌++◌, map, take, length, refl, sym, ap, subst, ◌∙◌, arith}
use Rattle.std.specs.Prelude.{Some, slice_get}
use Rattle.std.proofs.Math.ListN.{set}
use Rattle.std.proofs.lemmas.Bool.{cases_eq}
use Rattle.std.proofs.lemmas.List.{length-append, length-set}
use Rattle.tau_disk.proofs.Passing.{passes_none}
use Rattle.tau_disk.specs.Disk.{Rose}
use Rattle.tau_disk.specs.Used.{Each, RoseAt}
use Rattle.tau_scan.specs.Outside.{IsRead}
use Rattle.tau_base.proofs.Logic.{some_is}
use Rattle.tau_base.proofs.Lists.{get_set_same, get_set_other}

-- one disk more gives its bytes
pub taken_more : {D : Type 0} (seen : D → List ℕ) (old : List D) (n : ℕ) (d : D) → slice_get old n ≡ Some d → map seen (take (n + 1) old) ≡ map seen (take n old) ++ seen d ∷ []
taken_more seen [] n d here = absurd cc
taken_more {D} seen (y ∷ old) zero d here = ap (λ (z : D). seen z ∷ []) (some_is y d here)
taken_more seen (y ∷ old) (suc n) d here = let next : suc n + 1 ≡ suc (n + 1) = omega arith in rw next (ap (λ (zs : List (List ℕ)). seen y ∷ zs) (taken_more seen old n d here))

module _ {D : Type 0} (tells : Type 0) (seen : D → List ℕ) (may_leave : D → List ℕ → Type 0) (moment : D → ℕ) (since : D → ℕ → List ℕ → Type 0) (faults number : D → ℕ) (fails : D → ℕ → Bool) where
  pub untouched : (d : D) → IsRead tells seen may_leave moment since faults number fails d d
  untouched d = record {
    read = record {
      same = λ t. refl;
      no_more = λ x m. m;
      no_less = λ x m. m;
      moments = passes_none moment since d (may_leave d);
    };
    counts = omega arith;
    plan = λ t k. refl;
    few = λ t. omega arith;
  }

  -- the disks below an index are read, and gave these images; the others are as they were
  pub record IsReading (old new : List D) (n : ℕ) (images : List (List ℕ)) : Type 0 where
    pub read : Each (IsRead tells seen may_leave moment since faults number fails) old new
    pub rest : (k : ℕ) → n ≤ k → slice_get new k ≡ slice_get old k
    pub given : tells → images ≡ map seen (take n old)
    pub count : length images ≡ n
    pub many : length new ≡ length old

  pub reading_first : (old : List D) → IsReading old old 0 []
  reading_first old = record {
    read = λ j d here. (d, here, untouched d);
    rest = λ k le. refl;
    given = λ t. refl;
    count = refl;
    many = refl;
  }

  -- the disk at an index was read, and whatever it gave
  pub each_on : (old new : List D) (n : ℕ) (images : List (List ℕ)) (d e : D) → IsReading old new n images → n < length new → slice_get new n ≡ Some d → IsRead tells seen may_leave moment since faults number fails d e →
      Each (IsRead tells seen may_leave moment since faults number fails) old (set new n e)
  each_on old new n images d e g lt here read j b was = elim (cases_eq j n) [
    | inl same ↦
        let mine : slice_get old n ≡ Some b = subst (λ (k : ℕ). slice_get old k ≡ Some b) same was in
        let is : d ≡ b = some_is d b (sym here ∙ g.rest n (omega arith) ∙ mine) in
        (e, subst (λ (k : ℕ). slice_get (set new n e) k ≡ Some e) (sym same) (get_set_same new n e lt), subst (λ (z : D). IsRead tells seen may_leave moment since faults number fails z e) is read)
    | inr other ↦ let (f, there, r) = g.read j b was in (f, get_set_other new n j e other ∙ there, r)
  ]

  pub reading_on : (old new : List D) (n : ℕ) (images : List (List ℕ)) (d e : D) (image : List ℕ) → IsReading old new n images → n < length new → slice_get new n ≡ Some d → IsRead tells seen may_leave moment since faults number fails d e →
      (tells → image ≡ seen d) → IsReading old (set new n e) (n + 1) (images ++ image ∷ [])
  reading_on old new n images d e image g lt here read gave = record {
    read = each_on old new n images d e g lt here read;
    rest = λ k le. get_set_other new n k e (λ same. omega (arith, le, same)) ∙ g.rest k (omega (arith, le));
    given = λ t.
        let more = taken_more seen old n d (sym (g.rest n (omega arith)) ∙ here) in
        ap (λ (xs : List (List ℕ)). xs ++ image ∷ []) (g.given t) ∙ ap (λ (x : List ℕ). map seen (take n old) ++ x ∷ []) (gave t) ∙ sym more;
    count = omega (arith, length-append images (image ∷ []), g.count);
    many = length-set new n e ∙ g.many;
  }

  -- the disk at an index was read, and its count of faults rose
  pub rose_there : (old new : List D) (n : ℕ) (images : List (List ℕ)) (d e : D) → IsReading old new n images → n < length new → slice_get new n ≡ Some d → Rose (faults d) (faults e) → RoseAt faults old (set new n e) n
  rose_there old new n images d e g lt here rose = (d, e, sym (g.rest n (omega arith)) ∙ here, get_set_same new n e lt, rose)
