-- The lowest of the calls that are left over.
use Rattle.std.proofs.Common.{ℕ, zero, suc, ◌+◌, ◌≤◌, ◌≡◌, Bool, inl, inr, List, [], ◌∷◌, ◌++◌, length, take, refl, sym, ap, subst, ◌∙◌, Option, arith}
use Rattle.std.specs.Prelude.{Some, None, if◌then◌else◌, slice_get}
use Rattle.std.proofs.lemmas.Bool.Decides.{leb_tells}
use Rattle.tau_core.specs.declared.resume.LeftOver.{LeftOver}
use Rattle.tau_core.specs.Plain.{PlainSeat}
use Rattle.tau_core.specs.LeftOvers.{lower, IsLeftAt, IsLowestIn, IsLowestOf}
use Rattle.tau_core.proofs.Pushes.{each_snoc}
use Rattle.tau_base.proofs.Lists.{got_front, got_last}

-- one more number of the worker
pub lowest_more : (w n : ℕ) (xs : List ℕ) (f : Option LeftOver) → IsLowestIn w xs f → IsLowestIn w (xs ++ n ∷ []) (lower f (Some (record { number = n; worker = w; at = length xs })))
lowest_more w n xs None q = (refl, got_last xs n, each_snoc (λ (i k : ℕ). n ≤ k) xs n (λ i k e. absurd (let bad : None ≡ Some k = sym (ap (λ (l : List ℕ). slice_get l i) q) ∙ e in cc)) (omega arith))
lowest_more w n xs (Some a) q = elim (leb_tells a.number n) [
  | inl t ↦ subst (λ (b : Bool). IsLowestIn w (xs ++ n ∷ []) (if b then Some a else Some new)) (sym t.0)
      (q.0, got_front xs (n ∷ []) a.at a.number q.1, each_snoc (λ (i k : ℕ). a.number ≤ k) xs n q.2 t.1)
  | inr t ↦ subst (λ (b : Bool). IsLowestIn w (xs ++ n ∷ []) (if b then Some a else Some new)) (sym t.0)
      (refl, got_last xs n, each_snoc (λ (i k : ℕ). n ≤ k) xs n (λ i k e. (let le = q.2 i k e in let lt = t.1 in omega arith)) (omega arith))
]
  where
    new : LeftOver
    new = record { number = n; worker = w; at = length xs }

left_more : (ss : List PlainSeat) (s : PlainSeat) (l : LeftOver) → IsLeftAt ss l → IsLeftAt (ss ++ s ∷ []) l
left_more ss s l q = record { seat = q.seat; is = got_front ss (s ∷ []) l.worker q.seat q.is; number = q.number }

left_last : (ss : List PlainSeat) (s : PlainSeat) (l : LeftOver) → l.worker ≡ length ss → slice_get s.left l.at ≡ Some l.number → IsLeftAt (ss ++ s ∷ []) l
left_last ss s l e got = record { seat = s; is = ap (slice_get (ss ++ s ∷ [])) e ∙ got_last ss s; number = got }

abbrev is_below : ℕ → ℕ → PlainSeat → Type 0
is_below m w s = (i n : ℕ) → slice_get s.left i ≡ Some n → m ≤ n

none_below : (m : ℕ) (s : PlainSeat) → s.left ≡ [] → (i n : ℕ) → slice_get s.left i ≡ Some n → m ≤ n
none_below m s none i n e = absurd (let bad : None ≡ Some n = sym (ap (λ (l : List ℕ). slice_get l i) none) ∙ e in cc)

-- one more worker
pub lowest_seat : (ss : List PlainSeat) (s : PlainSeat) (f r : Option LeftOver) → IsLowestOf ss f → IsLowestIn (length ss) s.left r → IsLowestOf (ss ++ s ∷ []) (lower f r)
lowest_seat ss s None None q r = each_snoc (λ (w : ℕ) (t : PlainSeat). t.left ≡ []) ss s q r
lowest_seat ss s None (Some b) q r =
    (left_last ss s b r.0 r.1, λ w t i n e f. each_snoc (is_below b.number) ss s (λ v u d j m g. none_below b.number u (q v u d) j m g) r.2 w t e i n f)
lowest_seat ss s (Some a) None q r =
    (left_more ss s a q.0, λ w t i n e f. each_snoc (is_below a.number) ss s (λ v u d j m g. q.1 v u j m d g) (λ j m g. none_below a.number s r j m g) w t e i n f)
lowest_seat ss s (Some a) (Some b) q r = elim (leb_tells a.number b.number) [
  | inl t ↦ subst (λ (c : Bool). IsLowestOf (ss ++ s ∷ []) (if c then Some a else Some b)) (sym t.0)
      (left_more ss s a q.0, λ w u i n e f. each_snoc (is_below a.number) ss s (λ v x d j m g. q.1 v x j m d g) (λ j m g. (let le = r.2 j m g in let lt = t.1 in omega arith)) w u e i n f)
  | inr t ↦ subst (λ (c : Bool). IsLowestOf (ss ++ s ∷ []) (if c then Some a else Some b)) (sym t.0)
      (left_last ss s b r.0 r.1, λ w u i n e f. each_snoc (is_below b.number) ss s (λ v x d j m g. (let le = q.1 v x j m d g in let lt = t.1 in omega arith)) r.2 w u e i n f)
]

-- the first elements with one more
pub take_snoc : {A : Type 0} (xs : List A) (i : ℕ) (x : A) → slice_get xs i ≡ Some x → take (i + 1) xs ≡ take i xs ++ x ∷ []
take_snoc {A} xs i x e = (let next : i + 1 ≡ suc i = omega arith in ap (λ n. take n xs) next ∙ more xs i e)
  where
    more : (ys : List A) (j : ℕ) → slice_get ys j ≡ Some x → take (suc j) ys ≡ take j ys ++ x ∷ []
    more [] j f = absurd (let bad : None ≡ Some x = f in cc)
    more (y ∷ ys) zero f = (let same : y ≡ x = cc in ap (λ z. z ∷ []) same)
    more (y ∷ ys) (suc j) f = ap (λ l. y ∷ l) (more ys j f)
