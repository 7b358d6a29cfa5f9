-- Passes over the calls.
use Rattle.std.proofs.Common.{ℕ, ◌+◌, ◌≤◌, ◌<◌, Bool, true, false, ◌≡◌, List, [], ◌∷◌, ◌++◌, length, take, set, refl, arith}
use Rattle.std.proofs.lemmas.List.{take_more_set}
use Rattle.std.proofs.lemmas.Grind.{common_steps}
use Rattle.tau_base.specs.Vectors.{AtMost, covers}
use Rattle.tau_base.proofs.Vectors.{covers_at_most, at_most_covers, at_most_trans}
use Rattle.tau_ack.specs.declared.Waiting.{Waiting}
use Rattle.tau_ack.specs.Pending.{NoneCovered, IsPass, in_pass}

pub none_more : (plv : List ℕ) (xs : List Waiting) (w : Waiting) → NoneCovered plv xs → covers plv w.lv ≡ false → NoneCovered plv (xs ++ w ∷ [])
none_more plv [] w h no' = (no', tt)
none_more plv (x ∷ xs) w h no' = (h.0, none_more plv xs w h.1 no')

-- a smaller vector covers none of them either
pub none_below : (v w : List ℕ) (xs : List Waiting) → AtMost v w → NoneCovered w xs → NoneCovered v xs
none_below v w [] low h = tt
none_below v w (x ∷ xs) low h = (below (covers v x.lv) refl, none_below v w xs low h.1)
  where
    below : (b : Bool) → covers v x.lv ≡ b → covers v x.lv ≡ false
    below true e = let up = at_most_covers w x.lv (at_most_trans x.lv v w (covers_at_most v x.lv e) low) in let bad = h.0 in (cc)
    below false e = e

pub moved_down : (plv : List ℕ) (xs : List Waiting) (p n : ℕ) (w : Waiting) → p ≤ n → n < length xs → NoneCovered plv (take p xs) → covers plv w.lv ≡ false →
    NoneCovered plv (take (p + 1) (set xs p w))
moved_down plv xs p n w order inside h no' = rw (take_more_set xs p w (omega arith)) (none_more plv (take p xs) w h no')

-- a pass that has come to the end of the calls and has left all of them
pub none_at_end : (v w : List ℕ) (xs : List Waiting) (p n : ℕ) → IsPass w p n xs → p ≡ length xs → AtMost v w → NoneCovered v (in_pass p n xs)
none_at_end v w xs p n is end low =
    let same : in_pass p n xs ≡ take p xs = grind (arith, common_steps) in
    rw same (none_below v w (take p xs) low is.left)
