-- Held keys.
use Rattle.std.proofs.Common.{true, false, ◌≡◌, inl, inr, List, [], ◌∷◌, refl, ap, subst, ◌∙◌}
use Rattle.std.specs.FinMap.Entries.{by_order}
use Rattle.std.specs.Prelude.{Some, None}
use Rattle.std.proofs.lemmas.Bool.{cases_Bool}
use Rattle.tau_base.specs.declared.value.Key.{Key}
use Rattle.tau_base.specs.declared.value.Mode.{Mode}
use Rattle.std.specs.Ordering.{is_eq}
use Rattle.std.specs.declared.cmp.Ordering.{Ordering}
use Rattle.std.specs.declared.cmp.Ordering.TheVariants.{Less, Equal, Greater}
use Rattle.tau_base.specs.Database.{same_key, key_cmp}
use Rattle.tau_base.proofs.Keys.{same_key_itself, same_key_is}
use Rattle.tau_machine.specs.Hands.{mode_of, without, hold}

pub without_same : (x : Key) (held : List (Key × Mode)) → mode_of x (without x held) ≡ None
without_same x [] = refl
without_same x (e ∷ es) = elim (cases_Bool (same_key x e.0)) [
  | inl is ↦ rw is (without_same x es)
  | inr no' ↦ rw no' (rw no' (without_same x es))
]

pub without_other : (y x : Key) (held : List (Key × Mode)) → same_key y x ≡ false → mode_of y (without x held) ≡ mode_of y held
without_other y x [] ne = refl
without_other y x (e ∷ es) ne = elim (cases_Bool (same_key x e.0)) [
  | inl is ↦ let apart : same_key y e.0 ≡ false = subst (λ (k : Key). same_key y k ≡ false) (same_key_is x e.0 is) ne in
      rw is (rw apart (without_other y x es ne))
  | inr no' ↦ rw no' (elim (cases_Bool (same_key y e.0)) [
    | inl same ↦ rw same refl
    | inr apart ↦ rw apart (without_other y x es ne)
  ])
]

ties : (x y : Key) → key_cmp x y ≡ Equal → x ≡ y
ties x y e = same_key_is x y (ap is_eq e)

differs : (x y : Key) (o : Ordering) → key_cmp x y ≡ o → is_eq o ≡ false → same_key x y ≡ false
differs x y o e n = ap is_eq e ∙ n

pub hold_same : (x : Key) (m : Mode) (held : List (Key × Mode)) → mode_of x (hold x m held) ≡ Some m
hold_same x m [] = rw (same_key_itself x) refl
hold_same x m (e ∷ es) = at' (key_cmp x e.0) refl (hold_same x m es)
  where
    at' : (o : Ordering) → key_cmp x e.0 ≡ o → mode_of x (hold x m es) ≡ Some m → mode_of x (by_order o ((x, m) ∷ e ∷ es) ((e.0, m) ∷ es) (e ∷ hold x m es)) ≡ Some m
    at' Less p rest = rw (same_key_itself x) refl
    at' Equal p rest = let is : same_key x e.0 ≡ true = subst (λ (k : Key). same_key x k ≡ true) (ties x e.0 p) (same_key_itself x) in rw is refl
    at' Greater p rest = rw (differs x e.0 Greater p refl) rest

pub hold_other : (y x : Key) (m : Mode) (held : List (Key × Mode)) → same_key y x ≡ false → mode_of y (hold x m held) ≡ mode_of y held
hold_other y x m [] ne = rw ne refl
hold_other y x m (e ∷ es) ne = at' (key_cmp x e.0) refl (hold_other y x m es ne)
  where
    at' : (o : Ordering) → key_cmp x e.0 ≡ o → mode_of y (hold x m es) ≡ mode_of y es → mode_of y (by_order o ((x, m) ∷ e ∷ es) ((e.0, m) ∷ es) (e ∷ hold x m es)) ≡ mode_of y (e ∷ es)
    at' Less p rest = rw ne refl
    at' Equal p rest = let apart : same_key y e.0 ≡ false = subst (λ (k : Key). same_key y k ≡ false) (ties x e.0 p) ne in rw apart refl
    at' Greater p rest = elim (cases_Bool (same_key y e.0)) [
      | inl is ↦ rw is refl
      | inr n ↦ rw n rest
    ]
