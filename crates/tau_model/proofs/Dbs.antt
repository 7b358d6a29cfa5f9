-- What writes do at keys that others touch.
use Rattle.std.proofs.Common.{Bool, true, false, ◌≡◌, inl, inr, List, [], ◌∷◌, refl, sym, ◌∙◌, ◌||◌}
use Rattle.std.proofs.Math.Path.{fun_ext}
use Rattle.std.proofs.lemmas.Bool.{cases_Bool, both_ways}
use Rattle.tau_base.specs.declared.value.Key.{Key}
use Rattle.tau_base.specs.declared.value.Value.{Value}
use Rattle.tau_base.specs.Database.{Db, same_key, written}
use Rattle.tau_base.proofs.Keys.{same_key_itself}
use Rattle.tau_proc.specs.Effect.{has_key, Agrees}
use Rattle.tau_base.proofs.Logic.{or_true, or_left}

pub or_false : (a b : Bool) → (a || b) ≡ false → (a ≡ false) × (b ≡ false)
or_false true b e = absurd (both_ways true e refl)
or_false false b e = (refl, e)

-- a key that is not written keeps its value
pub written_apart : (ws : List (Key × Value)) (db : Db) (k : Key) → has_key k ws ≡ false → written ws db k ≡ db k
written_apart [] db k e = refl
written_apart (w ∷ ws) db k e = let parts = or_false (same_key k w.0) (has_key k ws) e in rw parts.0 (written_apart ws db k parts.1)

-- a key that is written has what was written, whatever the database
pub written_same : (ws : List (Key × Value)) (db other : Db) (k : Key) → has_key k ws ≡ true → written ws db k ≡ written ws other k
written_same [] db other k e = absurd (both_ways false refl e)
written_same (w ∷ ws) db other k e =
    elim (cases_Bool (same_key k w.0)) [
      | inl same ↦ rw same refl
      | inr apart ↦ rw apart (written_same ws db other k (rw apart at e))
    ]

-- writes to different keys may change places
pub written_swap : (vs ws : List (Key × Value)) (db : Db) → ((k : Key) → has_key k vs ≡ true → has_key k ws ≡ true → ⊥) →
    written vs (written ws db) ≡ written ws (written vs db)
written_swap vs ws db apart = fun_ext (λ k. at k (has_key k vs) (has_key k ws) refl refl)
  where
    at : (k : Key) (a b : Bool) → has_key k vs ≡ a → has_key k ws ≡ b → written vs (written ws db) k ≡ written ws (written vs db) k
    at k true true p q = absurd (apart k p q)
    at k true false p q = written_same vs (written ws db) db k p ∙ sym (written_apart ws (written vs db) k q)
    at k false true p q = written_apart vs (written ws db) k p ∙ written_same ws db (written vs db) k q
    at k false false p q = written_apart vs (written ws db) k p ∙ written_apart ws db k q ∙ sym (written_apart ws (written vs db) k q ∙ written_apart vs db k p)

-- what was seen is seen as well where none of it was written
pub agrees_before : (rs ws : List (Key × Value)) (db : Db) → ((k : Key) → has_key k rs ≡ true → has_key k ws ≡ true → ⊥) →
    Agrees rs (written ws db) → Agrees rs db
agrees_before [] ws db apart h = tt
agrees_before (r ∷ rs) ws db apart h = (
  sym (written_apart ws db r.0 (unwritten (has_key r.0 ws) refl)) ∙ h.0,
  agrees_before rs ws db (λ k p. apart k (or_true (same_key k r.0) (has_key k rs) p)) h.1,
)
  where
    unwritten : (b : Bool) → has_key r.0 ws ≡ b → has_key r.0 ws ≡ false
    unwritten false e = e
    unwritten true e = absurd (apart r.0 (or_left (same_key r.0 r.0) (has_key r.0 rs) (same_key_itself r.0)) e)

pub agrees_after : (rs ws : List (Key × Value)) (db : Db) → ((k : Key) → has_key k rs ≡ true → has_key k ws ≡ true → ⊥) →
    Agrees rs db → Agrees rs (written ws db)
agrees_after [] ws db apart h = tt
agrees_after (r ∷ rs) ws db apart h = (
  written_apart ws db r.0 (unwritten (has_key r.0 ws) refl) ∙ h.0,
  agrees_after rs ws db (λ k p. apart k (or_true (same_key k r.0) (has_key k rs) p)) h.1,
)
  where
    unwritten : (b : Bool) → has_key r.0 ws ≡ b → has_key r.0 ws ≡ false
    unwritten false e = e
    unwritten true e = absurd (apart r.0 (or_left (same_key r.0 r.0) (has_key r.0 rs) (same_key_itself r.0)) e)
