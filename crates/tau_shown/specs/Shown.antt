-- The words, the parts at home and the views of a table show one state c. Word 8 k, for k below n, is the turn of the part k; after the turns stand e more words, which show numbers of the state.
use Rattle.std.specs.Prelude.{◌≡◌, ℕ, ◌+◌, ◌*◌, ◌<◌, ◌≤◌, slice_index, length, Option, Some, Bool, true, false}
use mathlib.Core.Option.{some, none}
use lib.ListN.{get_elem?}
use Rattle.atomic_table.specs.Table.{State}

-- each part as it is, whether it is out, and with which seat; and which seat has each role
pub record Places (P : Type 0) : Type 0 where
  pub part : ℕ → P
  pub out : ℕ → Bool
  pub holder : ℕ → ℕ
  pub seat_of : ℕ → ℕ

module _ {C P W V : Type 0} (IsPart : ℕ → P → C → Type 0) (IsRole : ℕ → W → C → Type 0) (word : ℕ → C → ℕ) (hand : V → Option (ℕ × P)) (has : ℕ → V → Option W) (sees : C → V → Type 0) (meets : C → Type 0) where
  pub record PartIs (s : State (Option P) V) (at : Places P) (k : ℕ) : Type 0 where
    pub home : at.out k ≡ false → (slice_index s.words (8 * k) ≡ 0) × (get_elem? s.homes k ≡ some (some (Some (at.part k))))
    pub away : at.out k ≡ true → (0 < slice_index s.words (8 * k)) × (get_elem? s.homes k ≡ some none) × ((v : V) × (get_elem? s.views (at.holder k) ≡ some v) × (hand v ≡ Some (k, at.part k)))

  pub record ViewIs (n : ℕ) (c : C) (at : Places P) (j : ℕ) (v : V) : Type 0 where
    pub held : (k : ℕ) (p : P) → hand v ≡ Some (k, p) → (k < n) × (at.part k ≡ p) × (at.out k ≡ true) × (at.holder k ≡ j)
    pub roles : (w : ℕ) (x : W) → has w v ≡ Some x → IsRole w x c × (at.seat_of w ≡ j)
    pub busy : (k : ℕ) (p : P) → hand v ≡ Some (k, p) → (w : ℕ) × (x : W) × (has w v ≡ Some x)
    pub seen : sees c v

  pub record Shown (n e : ℕ) (s : State (Option P) V) : Type 0 where
    pub core : C
    pub at : Places P
    pub wide : length s.words ≡ 8 * (n + e)
    pub slots : n ≤ length s.homes
    pub numbers : (i : ℕ) → i < e → slice_index s.words (8 * (n + i)) ≡ word i core
    pub is_part : (k : ℕ) → k < n → IsPart k (at.part k) core
    pub each_part : (k : ℕ) → k < n → PartIs s at k
    pub each_view : (j : ℕ) (v : V) → get_elem? s.views j ≡ some v → ViewIs n core at j v
    pub kept : meets core

  -- from c to c' nothing changes but the part k and the role w, which is y then; what other seats see of c they see of c'
  pub record Turns (n : ℕ) (c c' : C) (k w : ℕ) (y : W) : Type 0 where
    pub parts : (j : ℕ) (p : P) → j < n → (j ≡ k → ⊥) → IsPart j p c → IsPart j p c'
    pub mine : IsRole w y c'
    pub others : (u : ℕ) (x : W) → (u ≡ w → ⊥) → IsRole u x c → IsRole u x c'
    pub sight : (v : V) → ((x : W) → has w v ≡ Some x → ⊥) → sees c v → sees c' v
    pub kept : meets c'
