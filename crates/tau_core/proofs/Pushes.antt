-- Parts that are made one after another.
use Rattle.std.proofs.Common.{ℕ, zero, suc, ◌+◌, ◌≡◌, List, [], ◌∷◌, ◌++◌, length, refl, sym, ap, subst, ◌∙◌, arith}
use Rattle.std.specs.Prelude.{Some, None, slice_get}
use Rattle.tau_base.specs.declared.value.LogMode.{LogMode}
use Rattle.tau_core.specs.Plain.{PlainSeat, PlainStream}
use Rattle.tau_core.specs.Opens.{IsSeatAtRest, IsStreamAtRest, AreSeats, AreStreams}

pub length_snoc : {A : Type 0} (xs : List A) (x : A) → length (xs ++ x ∷ []) ≡ length xs + 1
length_snoc [] x = refl
length_snoc (y ∷ ys) x = (let e = length_snoc ys x in omega arith)

pub each_snoc : {A : Type 0} (P : ℕ → A → Type 0) (xs : List A) (x : A) → ((i : ℕ) (a : A) → slice_get xs i ≡ Some a → P i a) → P (length xs) x →
    (i : ℕ) (a : A) → slice_get (xs ++ x ∷ []) i ≡ Some a → P i a
each_snoc P [] x all q zero a e = (let same : x ≡ a = cc in subst (P 0) same q)
each_snoc P [] x all q (suc i) a e = absurd (let bad : None ≡ Some a = e in cc)
each_snoc P (y ∷ ys) x all q zero a e = all zero a e
each_snoc P (y ∷ ys) x all q (suc i) a e = each_snoc (λ k b. P (suc k) b) ys x (λ k b f. all (suc k) b f) q i a e

pub seats_more : (w streams : ℕ) (mode : LogMode) (xs : List PlainSeat) (x : PlainSeat) → AreSeats w streams mode xs → IsSeatAtRest streams mode w x → AreSeats (w + 1) streams mode (xs ++ x ∷ [])
seats_more w streams mode xs x a r = record {
  count = length_snoc xs x ∙ ap (λ (n : ℕ). n + 1) a.count;
  each = each_snoc (IsSeatAtRest streams mode) xs x a.each (subst (λ (n : ℕ). IsSeatAtRest streams mode n x) (sym a.count) r);
}

pub streams_more : (j : ℕ) (xs : List PlainStream) (x : PlainStream) → AreStreams j xs → IsStreamAtRest x → AreStreams (j + 1) (xs ++ x ∷ [])
streams_more j xs x a r = record {
  count_is = length_snoc xs x ∙ ap (λ (n : ℕ). n + 1) a.count_is;
  each = each_snoc (λ k s. IsStreamAtRest s) xs x a.each r;
}
