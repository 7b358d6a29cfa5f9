-- Slots and words, filled one after another.
use Rattle.std.proofs.Common.{ℕ, zero, suc, ◌+◌, ◌*◌, ◌<◌, ◌≡◌, List, [], ◌∷◌, ◌++◌, length, refl, sym, ap, subst, ◌∙◌, arith, get_or-set_same, get_or-set_other}
use Rattle.std.specs.Prelude.{Some, None, replicate, slice_get, slice_index, slice_set}
use mathlib.Core.Option.{some}
use lib.ListN.{get_elem?, length-replicate}
use Rattle.tau_core.proofs.Pushes.{length_snoc, each_snoc}
use Rattle.tau_desk.specs.Laid.{AreFirstWords, AreWords, EachOf}
use Rattle.tau_base.proofs.Lists.{got_front, got_last}

pub each_more : {A B : Type 0} (R : ℕ → A → B → Type 0) (xs : List A) (ys : List B) (x : A) (y : B) → EachOf R xs ys → R (length xs) x y → EachOf R (xs ++ x ∷ []) (ys ++ y ∷ [])
each_more {A} {B} R xs ys x y g r = record {
  count = (let e = length_snoc xs x in let f = length_snoc ys y in let h = g.count in omega arith);
  each = each_snoc (λ k z. (a : A) × (slice_get (xs ++ x ∷ []) k ≡ Some a) × R k a z) ys y
      (λ k z e. let o = g.each k z e in (o.0, got_front xs (x ∷ []) k o.0 o.1, o.2))
      (x, ap (slice_get (xs ++ x ∷ [])) g.count ∙ got_last xs x, subst (λ (n : ℕ). R n x y) (sym g.count) r);
}

-- a word is put, and no other one changes
pub word_put : (ws : List ℕ) (a b x : ℕ) → b ≡ a → 8 * a < length ws → slice_index (slice_set ws (8 * a) x) (8 * b) ≡ x
word_put ws a b x e lt = ap (λ (n : ℕ). slice_index (slice_set ws (8 * a) x) (8 * n)) e ∙ get_or-set_same ws (8 * a) x 0 lt

pub word_else : (ws : List ℕ) (a b x : ℕ) → (b ≡ a → ⊥) → slice_index (slice_set ws (8 * a) x) (8 * b) ≡ slice_index ws (8 * b)
word_else ws a b x ne = get_or-set_other ws (8 * a) (8 * b) x 0 (λ e. ne (omega (arith, e)))

pub got_elem : {A : Type 0} (xs : List A) (k : ℕ) (x : A) → slice_get xs k ≡ Some x → get_elem? xs k ≡ some x
got_elem [] k x e = absurd (let bad : None ≡ Some x = e in cc)
got_elem (y ∷ xs) zero x e = (let same : y ≡ x = cc in ap some same)
got_elem (y ∷ xs) (suc k) x e = got_elem xs k x e

zeros_at : (n i : ℕ) → slice_index (replicate n 0) i ≡ 0
zeros_at zero i = refl
zeros_at (suc n) zero = refl
zeros_at (suc n) (suc i) = zeros_at n i

-- the words at the beginning: zeros, into which two vectors were put
pub are_first : (parts n : ℕ) (ends plv before middle after : List ℕ) → n ≡ length ends → length plv ≡ length ends → before ≡ replicate (8 * (parts + (n + n + 1))) 0 → length middle ≡ length before → AreWords middle parts ends →
    ((k : ℕ) → ((j : ℕ) → j < length ends → k ≡ parts + j → ⊥) → slice_index middle (8 * k) ≡ slice_index before (8 * k)) → length after ≡ length middle → AreWords after (parts + n) plv →
    ((k : ℕ) → ((j : ℕ) → j < length plv → k ≡ parts + n + j → ⊥) → slice_index after (8 * k) ≡ slice_index middle (8 * k)) → AreFirstWords parts ends plv after
are_first parts n ends plv before middle after same wide zeros long put others long_2 put_2 others_2 =
    let none : (k : ℕ) → slice_index before k ≡ 0 = λ k. ap (λ (l : List ℕ). slice_index l k) zeros ∙ zeros_at (8 * (parts + (n + n + 1))) k in
    record {
      count = (let z : ℕ = 0 in let e : length before ≡ 8 * (parts + (n + n + 1)) = ap (λ (l : List ℕ). length l) zeros ∙ length-replicate (8 * (parts + (n + n + 1))) z in omega (arith, e, long, long_2, same));
      free = λ k lt. others_2 k (λ j l e. omega (arith, lt, e)) ∙ others k (λ j l e. omega (arith, lt, e)) ∙ none (8 * k);
      ends_are = λ j lt. others_2 (parts + j) (λ i l e. omega (arith, lt, e, same)) ∙ put j lt;
      plv_are = subst (λ (m : ℕ). AreWords after (parts + m) plv) same put_2;
      stop = others_2 (parts + (length ends + length ends)) (λ i l e. omega (arith, l, e, same, wide)) ∙ others (parts + (length ends + length ends)) (λ i l e. omega (arith, l, e)) ∙ none (8 * (parts + (length ends + length ends)));
    }
