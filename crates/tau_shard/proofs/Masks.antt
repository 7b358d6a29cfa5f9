-- Sets of workers in masks, and who holds a key by two of them.
use Rattle.std.proofs.Common.{ℕ, zero, suc, max, ◌*◌, ◌%◌, ◌^◌, ◌-◌, ◌<◌, ◌≤◌, true, false, Bool, ◌≡◌, inl, inr, refl, sym, ap, subst, ◌∙◌, List, Option, w32, bit_or, bit_and, arith}
use Rattle.std.specs.Prelude.{Some, None, ◌==◌, ◌||◌}
use Rattle.std.specs.Int.{bit_at, trailing_zeros}
use Rattle.std.proofs.Math.Path.{fun_ext}
use Rattle.std.proofs.lemmas.Bool.{cases_Bool, cases_eq, cases_lt, eq-eqb}
use Rattle.std.proofs.lemmas.Nat.Bits.{bit_at_set_same, bit_at_set_other, bit_at_clear_same, bit_at_clear_other, bit_at_and, bit_at_above, bit_at_or, bit_at-trailing_zeros, bit_at-zero, bit_at-lt, same_from_bits}
use Rattle.tau_base.specs.declared.value.Mode.{Mode}
use Rattle.tau_base.specs.declared.value.Mode.TheVariants.{Read, Write}
use Rattle.tau_shard.specs.Shard.{at, Entry, entry_or, held_as}
use Rattle.tau_shard.proofs.At.{at_same, at_other}
use Rattle.tau_shard.specs.declared.entry.LockEntry.{LockEntry}
use Rattle.tau_shard.specs.Read.{bits, holder, entry_of}
use Rattle.tau_shard.specs.Blocks.{against, blocks, IsLeast}

pub bits_with : (n w : ℕ) → w < 32 → bits (bit_or n (1 * 2 ^ w % 4294967296)) ≡ at w true (bits n)
bits_with n w lt = fun_ext (λ u. elim (cases_eq u w) [
  | inl is ↦ subst (λ (k : ℕ). bits (bit_or n (1 * 2 ^ w % 4294967296)) k ≡ at w true (bits n) k) (sym is)
      (eq-eqb (bit_at (bit_or n (1 * 2 ^ w % 4294967296)) w) 1 (bit_at_set_same w32 n w lt) ∙ sym (at_same w true (bits n)))
  | inr ne ↦ ap (λ (b : ℕ). b == 1) (bit_at_set_other w32 n w lt u ne) ∙ sym (at_other w true (bits n) u ne)
])

pub bits_zero : (u : ℕ) → bits 0 u ≡ false
bits_zero u = ap (λ (b : ℕ). b == 1) (bit_at-zero u)

cleared_above : (n m u : ℕ) → n < 4294967296 → 32 ≤ u → bit_at (bit_and n m) u ≡ bit_at n u
cleared_above n m u small above =
    let e = bit_at_and n m u in
    let z = bit_at_above n 32 u small above in
    omega arith

cleared_other : (n w u : ℕ) → n < 4294967296 → w < 32 → (u ≡ w → ⊥) → bit_at (bit_and n (4294967295 - 1 * 2 ^ w % 4294967296)) u ≡ bit_at n u
cleared_other n w u small lt ne = elim (cases_lt u 32) [
  | inl low ↦ bit_at_clear_other w32 n w lt u low ne
  | inr high ↦ cleared_above n (4294967295 - 1 * 2 ^ w % 4294967296) u small high
]

pub bits_without : (n w : ℕ) → n < 4294967296 → w < 32 → bits (bit_and n (4294967295 - 1 * 2 ^ w % 4294967296)) ≡ at w false (bits n)
bits_without n w small lt = fun_ext (λ u. elim (cases_eq u w) [
  | inl is ↦ subst (λ (k : ℕ). bits (bit_and n (4294967295 - 1 * 2 ^ w % 4294967296)) k ≡ at w false (bits n) k) (sym is)
      (ap (λ (b : ℕ). b == 1) (bit_at_clear_same w32 n w lt) ∙ sym (at_same w false (bits n)))
  | inr ne ↦ ap (λ (b : ℕ). b == 1) (cleared_other n w u small lt ne) ∙ sym (at_other w false (bits n) u ne)
])

-- holders by two sets, changed at one worker
holder_at : (w : ℕ) (a b : Bool) (reads writes : ℕ → Bool) → (λ (u : ℕ). holder (at w a reads u) (at w b writes u)) ≡ at w (holder a b) (λ u. holder (reads u) (writes u))
holder_at w a b reads writes = fun_ext (λ u. elim (cases_Bool (u == w)) [ inl is ↦ rw is refl | inr no' ↦ rw no' refl ])

holder_write : (w : ℕ) (reads writes : ℕ → Bool) → (λ (u : ℕ). holder (reads u) (at w true writes u)) ≡ at w (Some Write) (λ u. holder (reads u) (writes u))
holder_write w reads writes = fun_ext (λ u. elim (cases_Bool (u == w)) [ inl is ↦ rw is refl | inr no' ↦ rw no' refl ])

entry_by : (e : LockEntry) (w : ℕ) (m : Option Mode) (r s : ℕ) → (λ (u : ℕ). holder (bits r u) (bits s u)) ≡ at w m (λ u. holder (bits e.readers u) (bits e.writers u)) →
    entry_of (record e { readers = r; writers = s }) ≡ held_as (entry_of e) w m
entry_by e w m r s p = λ i. record { holders = p i; write_lv = e.write; read_lv = e.read }

pub entry_both : (e : LockEntry) (w : ℕ) (a b : Bool) (r s : ℕ) → bits r ≡ at w a (bits e.readers) → bits s ≡ at w b (bits e.writers) →
    entry_of (record e { readers = r; writers = s }) ≡ held_as (entry_of e) w (holder a b)
entry_both e w a b r s p q =
    entry_by e w (holder a b) r s ((λ i. λ (u : ℕ). holder (p i u) (q i u)) ∙ holder_at w a b (bits e.readers) (bits e.writers))

pub entry_write : (e : LockEntry) (w : ℕ) (s : ℕ) → bits s ≡ at w true (bits e.writers) →
    entry_of (record e { writers = s }) ≡ held_as (entry_of e) w (Some Write)
entry_write e w s q =
    entry_by e w (Some Write) e.readers s ((λ i. λ (u : ℕ). holder (bits e.readers u) (q i u)) ∙ holder_write w (bits e.readers) (bits e.writers))

-- whose hold conflicts, by the masks
pub bits_or : (m n : ℕ) → bits (bit_or m n) ≡ (λ (u : ℕ). bits m u || bits n u)
bits_or m n = fun_ext (λ u. ap (λ (b : ℕ). b == 1) (bit_at_or m n u) ∙ both (bit_at m u) (bit_at n u) (bit_at-lt m u) (bit_at-lt n u))
  where
    both : (a b : ℕ) → a < 2 → b < 2 → (max a b == 1) ≡ (a == 1 || b == 1)
    both zero zero p q = refl
    both zero (suc zero) p q = refl
    both zero (suc (suc b)) p q = absurd (omega arith)
    both (suc zero) zero p q = refl
    both (suc zero) (suc zero) p q = refl
    both (suc zero) (suc (suc b)) p q = absurd (omega arith)
    both (suc (suc a)) b p q = absurd (omega arith)

pub against_read : (e : LockEntry) → bits e.writers ≡ (λ (u : ℕ). against Read ((entry_of e).holders u))
against_read e = fun_ext (λ u. by (bits e.readers u) (bits e.writers u))
  where
    by : (r s : Bool) → s ≡ against Read (holder r s)
    by r true = refl
    by true false = refl
    by false false = refl

pub against_write : (e : LockEntry) → ◌≡◌ {A = ℕ → Bool} (λ (u : ℕ). bits e.readers u || bits e.writers u) (λ (u : ℕ). against Write ((entry_of e).holders u))
against_write e = fun_ext (λ u. by (bits e.readers u) (bits e.writers u))
  where
    by : (r s : Bool) → (r || s) ≡ against Write (holder r s)
    by true true = refl
    by false true = refl
    by true false = refl
    by false false = refl

pub blocks_by : (e : Entry) (w : ℕ) (m : Mode) → at w false (λ (u : ℕ). against m (e.holders u)) ≡ blocks e w m
blocks_by e w m = fun_ext (λ u. elim (cases_Bool (u == w)) [ inl is ↦ rw is refl | inr no' ↦ rw no' refl ])

-- the lowest bit of a mask
pub least_bit : (n : ℕ) → 0 < n → n < 4294967296 → (trailing_zeros w32 n < 32) × IsLeast (bits n) (trailing_zeros w32 n)
least_bit n above small =
    let h = bit_at-trailing_zeros w32 n above small in
    (h.0, (eq-eqb (bit_at n (trailing_zeros w32 n)) 1 h.1, λ v lt. ap (λ (b : ℕ). b == 1) (h.2 v lt)))

-- where both masks are empty, nobody holds the key
pub nobody : (e : LockEntry) → e.readers ≡ 0 → e.writers ≡ 0 → (w : ℕ) → (entry_of e).holders w ≡ None
nobody e r s w = (λ i. holder (bits (r i) w) (bits (s i) w)) ∙ rw (bits_zero w) refl

pub nobody_new : (floor : List ℕ) (at : ℕ) → entry_of (record { read = floor; write = floor; readers = 0; writers = 0; row_at = at }) ≡ entry_or floor None
nobody_new floor at = λ i. record { holders = fun_ext (λ w. nobody (record { read = floor; write = floor; readers = 0; writers = 0; row_at = at }) refl refl w) i; write_lv = floor; read_lv = floor }

not_held : (r s : Bool) → holder r s ≡ None → (r ≡ false) × (s ≡ false)
not_held r true e = absurd (let bad : Some Write ≡ None = e in cc)
not_held true false e = absurd (let bad : Some Read ≡ None = e in cc)
not_held false false e = (refl, refl)

bit_off : (n w : ℕ) → bits n w ≡ false → bit_at n w ≡ bit_at 0 w
bit_off n w e = let lt = bit_at-lt n w in let z = bit_at-zero w in elim (cases_eq (bit_at n w) 1) [
  | inl is ↦ absurd (let bad : true ≡ false = sym (eq-eqb (bit_at n w) 1 is) ∙ e in cc)
  | inr ne ↦ omega (arith, ne)
]

-- and where nobody holds it, they are empty
pub zero_from : (e : LockEntry) → ((w : ℕ) → (entry_of e).holders w ≡ None) → (e.readers ≡ 0) × (e.writers ≡ 0)
zero_from e free = (
  same_from_bits e.readers 0 (λ w. bit_off e.readers w (not_held (bits e.readers w) (bits e.writers w) (free w)).0),
  same_from_bits e.writers 0 (λ w. bit_off e.writers w (not_held (bits e.readers w) (bits e.writers w) (free w)).1),
)
