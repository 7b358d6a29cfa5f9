-- Places of keys.
use Rattle.std.proofs.Common.{ℕ, suc, ◌+◌, ◌<◌, ◌≤◌, ◌≡◌, List, [], ◌∷◌, ◌++◌, length, take, drop, get_or, set, Result, Ok, Err, refl, ap, subst, arith}
use Rattle.std.specs.List.{insert, refill}
use Rattle.std.specs.FinMap.Entries.{by_order}
use Rattle.std.specs.declared.cmp.Ordering.{Ordering}
use Rattle.std.specs.declared.cmp.Ordering.TheVariants.{Less, Equal, Greater}
use Rattle.tau_base.specs.declared.value.Key.{Key}
use Rattle.tau_base.specs.declared.value.Mode.{Mode}
use Rattle.tau_base.specs.Database.{key_cmp}
use Rattle.tau_machine.specs.Hands.{hold}
use Rattle.tau_txn.specs.Spot.{later, spot}

take_front : {A : Type 0} (ws ys : List A) → take (length ws) (ws ++ ys) ≡ ws
take_front [] ys = refl
take_front (w ∷ ws) ys = ap (λ l. w ∷ l) (take_front ws ys)

-- a slice of the whole, written and put back
pub refilled : {A : Type 0} (n : ℕ) (xs ws : List A) → length ws ≡ n → refill n xs ws ≡ ws
refilled n xs ws e = subst (λ k. take k (ws ++ drop (length ws) xs) ≡ ws) e (take_front ws (drop (length ws) xs))

pub err_is : (key : Key) (m : Mode) (held : List (Key × Mode)) (i : ℕ) → spot key held ≡ Err i → (i ≤ length held) × (insert held i (key, m) ≡ hold key m held)
err_is key m [] i e = let z : 0 ≡ i = cc in subst (λ k. (k ≤ 0) × (insert {X = Key × Mode} [] k (key, m) ≡ (key, m) ∷ [])) z (omega arith, refl)
err_is key m (e ∷ es) i s = at' (key_cmp key e.0) (spot key es) s refl (λ j. err_is key m es j)
  where
    at' : (o : Ordering) (r : Result ℕ ℕ) → by_order o (Err 0) (Ok 0) (later 1 r) ≡ Err i → spot key es ≡ r →
        ((j : ℕ) → spot key es ≡ Err j → (j ≤ length es) × (insert es j (key, m) ≡ hold key m es)) →
        (i ≤ length (e ∷ es)) × (insert (e ∷ es) i (key, m) ≡ by_order o ((key, m) ∷ e ∷ es) ((e.0, m) ∷ es) (e ∷ hold key m es))
    at' Less r p q h = let z : 0 ≡ i = cc in subst (λ k. (k ≤ length (e ∷ es)) × (insert (e ∷ es) k (key, m) ≡ (key, m) ∷ e ∷ es)) z (omega arith, refl)
    at' Equal r p q h = cc
    at' Greater (Ok j) p q h = cc
    at' Greater (Err j) p q h =
        let one : 1 + j ≡ i = cc in
        let z : suc j ≡ i = omega arith in
        let w = h j q in
        subst (λ k. (k ≤ length (e ∷ es)) × (insert (e ∷ es) k (key, m) ≡ e ∷ hold key m es)) z (let l = w.0 in omega arith, ap (λ l. e ∷ l) w.1)

pub ok_is : (key : Key) (m : Mode) (d : Key × Mode) (held : List (Key × Mode)) (i : ℕ) → spot key held ≡ Ok i → (i < length held) × (set held i ((get_or held i d).0, m) ≡ hold key m held)
ok_is key m d [] i e = cc
ok_is key m d (e ∷ es) i s = at' (key_cmp key e.0) (spot key es) s refl (λ j. ok_is key m d es j)
  where
    at' : (o : Ordering) (r : Result ℕ ℕ) → by_order o (Err 0) (Ok 0) (later 1 r) ≡ Ok i → spot key es ≡ r →
        ((j : ℕ) → spot key es ≡ Ok j → (j < length es) × (set es j ((get_or es j d).0, m) ≡ hold key m es)) →
        (i < length (e ∷ es)) × (set (e ∷ es) i ((get_or (e ∷ es) i d).0, m) ≡ by_order o ((key, m) ∷ e ∷ es) ((e.0, m) ∷ es) (e ∷ hold key m es))
    at' Less r p q h = cc
    at' Equal r p q h = let z : 0 ≡ i = cc in subst (λ k. (k < length (e ∷ es)) × (set (e ∷ es) k ((get_or (e ∷ es) k d).0, m) ≡ (e.0, m) ∷ es)) z (omega arith, refl)
    at' Greater (Err j) p q h = cc
    at' Greater (Ok j) p q h =
        let one : 1 + j ≡ i = cc in
        let z : suc j ≡ i = omega arith in
        let w = h j q in
        subst (λ k. (k < length (e ∷ es)) × (set (e ∷ es) k ((get_or (e ∷ es) k d).0, m) ≡ e ∷ hold key m es)) z (let l = w.0 in omega arith, ap (λ l. e ∷ l) w.1)
