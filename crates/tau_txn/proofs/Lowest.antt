-- The lowest key of those that are held.
use Rattle.std.proofs.Common.{◌≡◌, true, List, [], ◌∷◌, refl, sym, subst, inl, inr}
use Rattle.std.specs.Prelude.{Some}
use Rattle.std.specs.Ordering.{is_lt, is_le, is_eq}
use Rattle.std.specs.declared.cmp.Ordering.{Ordering}
use Rattle.std.specs.declared.cmp.Ordering.TheVariants.{Less, Equal, Greater}
use Rattle.std.specs.FinMap.Entries.{is_sorted, below_all}
use Rattle.std.proofs.lemmas.Bool.{and_parts, cases_Bool}
use Rattle.tau_base.specs.declared.value.Key.{Key}
use Rattle.tau_base.specs.declared.value.Mode.{Mode}
use Rattle.tau_base.specs.Database.{same_key, key_cmp}
use Rattle.tau_base.proofs.Keys.{same_key_is, same_key_itself}
use Rattle.tau_machine.specs.Hands.{mode_of}
use Rattle.tau_txn.specs.Next.{IsLowest}
use Rattle.tau_txn.specs.Steps.{first_key}

less_is_le : (o : Ordering) → is_lt o ≡ true → is_le o ≡ true
less_is_le Less e = refl
less_is_le Equal e = cc
less_is_le Greater e = cc

equal_is_le : (o : Ordering) → is_eq o ≡ true → is_le o ≡ true
equal_is_le Less e = cc
equal_is_le Equal e = refl
equal_is_le Greater e = cc

below_lowest : (x : Key) (es : List (Key × Mode)) → below_all key_cmp x es ≡ true → (k : Key) (m : Mode) → mode_of k es ≡ Some m → is_lt (key_cmp x k) ≡ true
below_lowest x [] below k m at = cc
below_lowest x (e ∷ es) below k m at =
    let parts = and_parts (is_lt (key_cmp x e.0)) (below_all key_cmp x es) below in
    elim (cases_Bool (same_key k e.0)) [
      | inl same ↦ subst (λ (y : Key). is_lt (key_cmp x y) ≡ true) (sym (same_key_is k e.0 same)) parts.0
      | inr other ↦ below_lowest x es parts.1 k m (rw other at at)
    ]

-- its mode, and that it is the lowest
pub record FirstHeld (x : Key) (held : List (Key × Mode)) : Type 0 where
  pub mode : Mode
  pub held_in : mode_of x held ≡ Some mode
  pub lowest : IsLowest x held

pub first_held : (x : Key) (held : List (Key × Mode)) → is_sorted key_cmp held ≡ true → first_key held ≡ Some x → FirstHeld x held
first_held x [] sorted first = cc
first_held x (e ∷ es) sorted first =
    let at : e.0 ≡ x = cc in
    let parts = and_parts (below_all key_cmp e.0 es) (is_sorted key_cmp es) sorted in
    subst (λ (y : Key). FirstHeld y (e ∷ es)) at (record {
      mode = e.1;
      held_in = rw (same_key_itself e.0) refl;
      lowest = λ k m there. elim (cases_Bool (same_key k e.0)) [
        | inl same ↦ subst (λ (y : Key). is_le (key_cmp e.0 y) ≡ true) (sym (same_key_is k e.0 same)) (equal_is_le (key_cmp e.0 e.0) (same_key_itself e.0))
        | inr other ↦ less_is_le (key_cmp e.0 k) (below_lowest e.0 es parts.0 k m (rw other at there))
      ];
    })
