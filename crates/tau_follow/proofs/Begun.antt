-- Nothing is read.
use Rattle.std.proofs.Common.{ℕ, inl, true, zero, suc, ◌+◌, ◌≡◌, List, [], ◌∷◌, ◌++◌, length, replicate, Some, None, Ok, refl, sym, ap, subst, ◌∙◌, arith, slice_index}
use Rattle.std.proofs.lemmas.List.{length-append}
use Rattle.std.specs.Prelude.{slice_get, slice_index_or}
use Rattle.tau_base.specs.declared.format.Format.{Format}
use Rattle.tau_record.specs.declared.entry.Placed.{Placed}
use Rattle.tau_scan.specs.Reading.{catalogue_in}
use Rattle.tau_epoch_laws.proofs.Fresh.{none_of}
use Rattle.tau_follow_laws.specs.Following.{begun}
use Rattle.tau_follow_laws.proofs.GoesOn.{fronts_none}
use Rattle.tau_follow.specs.declared.reader.Reader.{Reader}
use Rattle.tau_follow.specs.declared.stage.Stage.{Stage}
use Rattle.tau_follow.specs.Reading.{IsRead}
use Rattle.tau_follow.specs.Applying.{stages_from}
use Rattle.tau_follow.specs.Holding.{AreStaged}
use Rattle.tau_follow.specs.declared.waits.Waits.{Waits}
use Rattle.tau_follow.specs.Feeding.{AreRead}
use Rattle.tau_follow.proofs.Fed.{none_passed}

pub one_more : {A : Type 0} (k : ℕ) (x : A) → replicate k x ++ x ∷ [] ≡ replicate (k + 1) x
one_more zero x = refl
one_more (suc k) x = let n : suc k + 1 ≡ suc (k + 1) = omega arith in ap (λ l. x ∷ l) (one_more k x) ∙ ap (λ (m : ℕ). replicate m x) (sym n)

pub pushed_one : {A : Type 0} (k : ℕ) (x : A) (xs ys : List A) → ys ≡ xs ++ x ∷ [] → xs ≡ replicate k x → ys ≡ replicate (k + 1) x
pushed_one k x xs ys e h = e ∙ ap (λ l. l ++ x ∷ []) h ∙ one_more k x

pub pushed_long : {A : Type 0} (k : ℕ) (xs ys : List A) (x : A) → ys ≡ xs ++ x ∷ [] → length xs ≡ k → length ys ≡ k + 1
pushed_long k xs ys x e h = let l = ap length e ∙ length-append xs (x ∷ []) in omega (arith, l, h)

pub pushed_all : {A : Type 0} (P : A → Type 0) (xs : List A) (y : A) (j : ℕ) (x : A) → ((i : ℕ) (z : A) → slice_get xs i ≡ Some z → P z) → P y → slice_get (xs ++ y ∷ []) j ≡ Some x → P x
pushed_all P [] y zero x all here e = subst P (let same : y ≡ x = cc in same) here
pushed_all P [] y (suc j) x all here e = absurd cc
pushed_all P (z ∷ xs) y zero x all here e = all 0 x e
pushed_all P (z ∷ xs) y (suc j) x all here e = pushed_all P xs y j x (λ i w g. all (suc i) w g) here e

pub pushed_items : {A : Type 0} (P : A → Type 0) (xs ys : List A) (y : A) (j : ℕ) (x : A) → ys ≡ xs ++ y ∷ [] → ((i : ℕ) (z : A) → slice_get xs i ≡ Some z → P z) → P y → slice_get ys j ≡ Some x → P x
pushed_items P xs ys y j x is all here e = pushed_all P xs y j x all here (sym (ap (λ l. slice_get l j) is) ∙ e)

long_one : {A : Type 0} (n : ℕ) (x : A) → length (replicate n x) ≡ n
long_one zero x = refl
long_one (suc n) x = ap suc (long_one n x)

got_one : {A : Type 0} (n j : ℕ) (x y : A) → slice_get (replicate n x) j ≡ Some y → x ≡ y
got_one zero j x y e = absurd cc
got_one (suc n) zero x y e = cc
got_one (suc n) (suc j) x y e = got_one n j x y e

index_one : {A : Type 0} (n j : ℕ) (x : A) → slice_index_or (replicate n x) j x ≡ x
index_one zero j x = refl
index_one (suc n) zero x = refl
index_one (suc n) (suc j) x = index_one n j x

no_stages : (j n : ℕ) → replicate n [] ≡ stages_from [] [] j (replicate n [])
no_stages j zero = refl
no_stages j (suc n) = ap (λ (l : List (List Stage)). [] ∷ l) (no_stages (suc j) n)

none_read : (f : Format) (n : ℕ) (readers : List Reader) → length readers ≡ n → ((j : ℕ) (r : Reader) → slice_get readers j ≡ Some r → IsRead f n [] [] r) → AreRead f n (replicate n []) (replicate n []) readers
none_read f n readers as_many all = record {
  many = long_one n [];
  wide = long_one n [];
  as_many = as_many;
  fronts = fronts_none f n;
  each = λ j ps r e g. subst (λ (b : List ℕ). IsRead f n b ps r) (sym (index_one n j [])) (subst (λ (l : List Placed). IsRead f n [] l r) (got_one n j [] ps e) (all j r g));
}

pub begun_read : (f : Format) (n k : ℕ) (streams : List (List Placed)) (readers : List Reader) → k ≡ n → streams ≡ replicate k [] → length readers ≡ k → ((j : ℕ) (r : Reader) → slice_get readers j ≡ Some r → IsRead f n [] [] r) → AreRead f n (replicate n []) streams readers
begun_read f n k streams readers e is as_many all =
    subst (λ (l : List (List Placed)). AreRead f n (replicate n []) l readers) (sym (is ∙ ap (λ (m : ℕ). replicate m []) e)) (none_read f n readers (as_many ∙ e) all)

pub begun_staged : (n k : ℕ) (stages : List (List Stage)) (firsts : List ℕ) (waits : Waits) → k ≡ n → stages ≡ replicate k [] → ((j : ℕ) → slice_index firsts j ≡ 0) → waits.lost ≡ true → AreStaged (begun n) stages firsts waits
begun_staged n k stages firsts waits e is z lost = record { stages_are = is ∙ ap (λ (m : ℕ). replicate m []) e ∙ no_stages 0 n; passed = none_passed stages firsts z; kept = inl lost }

pub begun_one : (n : ℕ) → catalogue_in (replicate n []) ≡ Ok None
unfolding catalogue_in
begun_one n = none_of 0 n
