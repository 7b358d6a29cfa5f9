-- Functions that are changed at one place, and shards that are changed at one key.
use Rattle.std.proofs.Common.{ℕ, false, ◌≡◌, ◌⊎◌, inl, inr, refl, sym, ap, subst, ◌∙◌}
use Rattle.std.proofs.Math.Path.{fun_ext}
use Rattle.std.proofs.lemmas.Bool.{eq-eqb, ne_eqb, cases_eq, cases_Bool}
use Rattle.tau_base.specs.declared.value.Key.{Key}
use Rattle.tau_base.specs.Database.{same_key}
use Rattle.tau_base.proofs.Keys.{same_key_itself, same_key_is}
use Rattle.tau_shard.specs.Shard.{at, Entry, Shard, entry_in, put_entry}

pub at_same : {A : Type 0} (i : ℕ) (a : A) (f : ℕ → A) → at i a f i ≡ a
at_same i a f = rw (eq-eqb i i refl) refl

pub at_other : {A : Type 0} (i : ℕ) (a : A) (f : ℕ → A) (j : ℕ) → (j ≡ i → ⊥) → at i a f j ≡ f j
at_other i a f j ne = rw (ne_eqb j i ne) refl

pub at_at : {A : Type 0} (i : ℕ) (a b : A) (f : ℕ → A) → at i a (at i b f) ≡ at i a f
at_at {A} i a b f = fun_ext (λ j. elim (cases_eq j i) [
  | inl is ↦ subst (λ (k : ℕ). at i a (at i b f) k ≡ at i a f k) (sym is) (at_same i a (at i b f) ∙ sym (at_same i a f))
  | inr ne ↦ at_other i a (at i b f) j ne ∙ at_other i b f j ne ∙ sym (at_other i a f j ne)
])

pub at_itself : {A : Type 0} (i : ℕ) (f : ℕ → A) → at i (f i) f ≡ f
at_itself {A} i f = fun_ext (λ j. elim (cases_eq j i) [
  | inl is ↦ subst (λ (k : ℕ). at i (f i) f k ≡ f k) (sym is) (at_same i (f i) f)
  | inr ne ↦ at_other i (f i) f j ne
])

-- what a shard that is changed shows of keys of which it shows the same, it shows of all keys
pub shown_kept : {A : Type 0} (F : Shard → Key → A) (shards : ℕ → Shard) (i j : ℕ) (sh : Shard) (y : Key) → F sh y ≡ F (shards i) y →
    F (at i sh shards j) y ≡ F (shards j) y
shown_kept F shards i j sh y e = elim (cases_eq j i) [
  | inl is ↦ ap (λ s. F s y) (ap (at i sh shards) is ∙ at_same i sh shards) ∙ e ∙ ap (λ k. F (shards k) y) (sym is)
  | inr ne ↦ ap (λ s. F s y) (at_other i sh shards j ne)
]

pub shown_new : {A : Type 0} (F : Shard → Key → A) (shards : ℕ → Shard) (i : ℕ) (sh : Shard) (y : Key) → F (at i sh shards i) y ≡ F sh y
shown_new F shards i sh y = ap (λ s. F s y) (at_same i sh shards)

pub entry_same : (sh : Shard) (x : Key) (e : Entry) → entry_in (put_entry sh x e) x ≡ e
entry_same sh x e = rw (same_key_itself x) refl

pub entry_other : (sh : Shard) (x y : Key) (e : Entry) → same_key y x ≡ false → entry_in (put_entry sh x e) y ≡ entry_in sh y
entry_other sh x y e ne = rw ne refl

-- a key is another one or not
pub cases_key : (y x : Key) → (y ≡ x) ⊎ (same_key y x ≡ false)
cases_key y x = elim (cases_Bool (same_key y x)) [ inl e ↦ inl (same_key_is y x e) | inr e ↦ inr e ]
