-- What the tests of an audit decide.
use Rattle.std.proofs.Common.{ℕ, zero, suc, ◌+◌, ◌<◌, ◌≡◌, ◌==◌, ◌||◌, Bool, true, false, List, [], ◌∷◌, length, map, get_or, refl, sym, ap, subst, ◌∙◌, arith, Option}
use Rattle.std.specs.Prelude.{Some, None, slice_get, slice_index, slice_index_or, count_by}
use Rattle.std.specs.List.{range_with_len}
use Rattle.std.proofs.lemmas.Bool.{both_ways, and_parts}
use Rattle.std.proofs.lemmas.Bool.Decides.{nat_tests}
use Rattle.std.proofs.lemmas.Option.{slice_get_read}
use Rattle.tau_base.specs.Database.{empty_db}
use Rattle.tau_proc.specs.Effect.{Effect}
use Rattle.tau_report.specs.declared.report.Fate.{Fate}
use Rattle.tau_report.specs.declared.report.Fate.TheVariants.{Acked, Unsure, Unrun}
use Rattle.tau_inspect.specs.Executed.{effects, numbered}
use Rattle.tau_inspect.specs.ByNumber.{is_in, HasCounts, HasFlags}
use Rattle.tau_inspect.specs.Tests.{told_so}
use Rattle.tau_inspect.specs.Audit.{Case, acts, fate_of, has_ack, times_due, is_acked, IsTold}
use Rattle.tau_inspect.proofs.Acts.{act_at}
use Rattle.tau_base.proofs.Logic.{some_is}

-- an element that was read, whatever stands for one that is not there
pub read_at : {A : Type 0} (xs : List A) (i : ℕ) (x d : A) → i < length xs → x ≡ get_or xs i x → slice_index_or xs i d ≡ x
read_at [] i x d lt is = absurd (omega (arith, lt))
read_at (y ∷ ys) zero x d lt is = sym is
read_at (y ∷ ys) (suc i) x d lt is = read_at ys i x d (omega (arith, lt)) is

pub any_mapped : (k : ℕ) (as' : List (ℕ × List ℕ)) → has_ack k as' ≡ is_in k (map (λ a. a.0) as')
any_mapped k [] = refl
any_mapped k (a ∷ as') = ap (λ b. (a.0 == k) || b) (any_mapped k as')

range_get : (n a i d : ℕ) → i < n → get_or (range_with_len a n) i d ≡ a + i
range_get zero a i d lt = absurd (omega (arith, lt))
range_get (suc n) a zero d lt = omega arith
range_get (suc n) a (suc i) d lt = range_get n (a + 1) i d (omega (arith, lt)) ∙ omega arith

pub range_length : (n a : ℕ) → length (range_with_len a n) ≡ n
range_length zero a = refl
range_length (suc n) a = ap suc (range_length n (a + 1))

pub number_get : (n i : ℕ) → i < n → i + 1 ≡ get_or (range_with_len 1 n) i (i + 1)
number_get n i lt = omega (arith, range_get n 1 i (i + 1) lt)

-- ---- fate

told_true : (f : Fate) (n : ℕ) (b : Bool) → told_so f n b ≡ true → (n ≡ times_due f) × (b ≡ is_acked f)
told_true (Acked r) n b e = let p = and_parts (n == 1) b e in (grind (arith, nat_tests, p.0), p.1)
told_true (Unsure r) n true e = absurd (both_ways false refl ((and_parts (n == 1) false e).1))
told_true (Unsure r) n false e = let p = and_parts (n == 1) true e in (grind (arith, nat_tests, p.0), refl)
told_true Unrun n true e = absurd (both_ways false refl ((and_parts (n == 0) false e).1))
told_true Unrun n false e = let p = and_parts (n == 0) true e in (grind (arith, nat_tests, p.0), refl)

told_false : (f : Fate) (n : ℕ) (b : Bool) → told_so f n b ≡ false → n ≡ times_due f → b ≡ is_acked f → ⊥
told_false (Acked r) n b e p q = (let so : told_so (Acked r) 1 true ≡ false = subst (λ (x : ℕ). told_so (Acked r) x true ≡ false) p (subst (λ (x : Bool). told_so (Acked r) n x ≡ false) q e) in both_ways true so refl)
told_false (Unsure r) n b e p q = (let so : told_so (Unsure r) 1 false ≡ false = subst (λ (x : ℕ). told_so (Unsure r) x false ≡ false) p (subst (λ (x : Bool). told_so (Unsure r) n x ≡ false) q e) in both_ways true so refl)
told_false Unrun n b e p q = (let so : told_so Unrun 0 false ≡ false = subst (λ (x : ℕ). told_so Unrun x false ≡ false) p (subst (λ (x : Bool). told_so Unrun n x ≡ false) q e) in both_ways true so refl)

module _ (c : Case) (counts : List ℕ) (acked : List Bool) (many : length c.report.fates ≡ length c.load.calls) (counted : HasCounts (length c.load.calls) c.report.order counts)
    (flagged : HasFlags (length c.load.calls) (map (λ a. a.0) c.report.acks) acked) (i : ℕ) (f : Fate) (lt : i < length c.report.fates) (is : f ≡ get_or c.report.fates i f) where
  the_fate : fate_of c (i + 1) ≡ f
  the_fate = ap (λ (k : ℕ). slice_index_or c.report.fates k Unrun) (omega arith) ∙ read_at c.report.fates i f Unrun lt is

  the_count : slice_index counts (i + 1) ≡ count_by (λ n. n == (i + 1)) c.report.order
  the_count = counted.tells (i + 1) (omega (arith, lt, many))

  the_flag : slice_index_or acked (i + 1) false ≡ has_ack (i + 1) c.report.acks
  the_flag = flagged.tells (i + 1) (omega (arith, lt, many)) ∙ sym (any_mapped (i + 1) c.report.acks)

  pub fate_fits : told_so f (slice_index counts (i + 1)) (slice_index_or acked (i + 1) false) ≡ true → IsTold c (i + 1)
  fate_fits e = let p = told_true f (slice_index counts (i + 1)) (slice_index_or acked (i + 1) false) e in record {
    order = sym the_count ∙ p.0 ∙ ap times_due (sym the_fate);
    ack = sym the_flag ∙ p.1 ∙ ap is_acked (sym the_fate);
  }

  pub fate_unfit : told_so f (slice_index counts (i + 1)) (slice_index_or acked (i + 1) false) ≡ false → IsTold c (i + 1) → ⊥
  fate_unfit e t = told_false f (slice_index counts (i + 1)) (slice_index_or acked (i + 1) false) e (the_count ∙ t.order ∙ ap times_due the_fate) (the_flag ∙ t.ack ∙ ap is_acked the_fate)

-- ---- a call of the order that was executed

pub act_there : (c : Case) (done : List Effect) (i k : ℕ) (e : Effect) → done ≡ effects (acts c) → i < length done → e ≡ get_or done i e → slice_get c.report.order i ≡ Some k →
    slice_get (acts c) i ≡ Some (record { call = numbered c.load.calls k; effect = e })
act_there c done i k e is lt here at =
    act_at c.load.declarations.procs c.load.calls c.report.order empty_db i k e at (ap (λ l. slice_get l i) (sym is) ∙ slice_get_read done (length done) i e refl lt here)

-- what stands at an index, as a search takes it
pub here_at : {A : Type 0} (xs : List A) (i : ℕ) (x : A) → slice_get xs i ≡ Some x → (i < length xs) × (x ≡ get_or xs i x)
here_at {A} [] i x e = absurd (none_some e)
  where
    none_some : ◌≡◌ {A = Option A} None (Some x) → ⊥
    none_some q = cc
here_at (y ∷ ys) zero x e = (omega arith, sym (some_is y x e))
here_at (y ∷ ys) (suc i) x e = let w = here_at ys i x e in (omega (arith, w.0), w.1)
