-- Vectors against which records are judged.
use Rattle.std.proofs.Common.{ℕ, ◌≤◌, ◌≡◌, inl, inr, List, [], ◌∷◌, refl, ap, ◌∙◌, arith}
use Rattle.std.specs.List.{Contains}
use Rattle.tau_base.specs.Vectors.{AtMost, covers}
use Rattle.tau_base.proofs.Vectors.{covers_at_most, at_most_covers, at_most_trans, at_most_itself}
use Rattle.tau_epoch.specs.Epochs.{Mark, largest, meet, judged_by, judging}
use Rattle.tau_epoch.specs.Laws.{IsLeast}
use Rattle.tau_epoch.proofs.Least.{found, none_least}
use Rattle.tau_epoch.proofs.Meets.{meet_left, meet_greatest}
use Rattle.tau_model.specs.History.{Member}
use Rattle.tau_scan.proofs.Known.{bool_same}

-- one number, one vector
abbrev pub Agree : List Mark → Type 0
Agree marks = (x y : Mark) → Member x marks → Member y marks → x.number ≡ y.number → x.lv ≡ y.lv

-- if marks agree, any least epoch above a number tells what judges its records
pub judging_is : (elv : List ℕ) (known : List Mark) (k : ℕ) (m : Mark) → ((x y : Mark) → Contains known x → Contains known y → x.number ≡ y.number → x.lv ≡ y.lv) → IsLeast k known m →
    judging elv known k ≡ meet m.lv elv
judging_is elv known k m agree is = elim (found k known) [
  | inl w ↦
      let low = is.least w.0 w.2.there w.2.above in
      let high = w.2.least m is.there is.above in
      let same : w.0.lv ≡ m.lv = agree w.0 m w.2.there is.there (omega (arith, low, high)) in
      ap (judged_by elv) w.1 ∙ ap (λ (v : List ℕ). meet v elv) same
  | inr none ↦ absurd (let low = none.1 m is.there in let high = is.above in omega (arith, low, high))
]

pub judging_none : (elv : List ℕ) (known : List Mark) (k : ℕ) → ((x : Mark) → Contains known x → x.number ≤ k) → judging elv known k ≡ elv
judging_none elv known k none = ap (judged_by elv) (none_least k known none)

-- vectors of which each is at most the other cover the same
pub covers_alike : (v w dep : List ℕ) → AtMost v w → AtMost w v → covers v dep ≡ covers w dep
covers_alike v w dep p q = bool_same (covers v dep) (covers w dep)
    (λ e. at_most_covers w dep (at_most_trans dep v w (covers_at_most v dep e) p))
    (λ e. at_most_covers v dep (at_most_trans dep w v (covers_at_most w dep e) q))

-- a vector within the lengths covers as much as its meet with them
pub meet_covers : (v w dep : List ℕ) → AtMost v w → covers (meet v w) dep ≡ covers v dep
meet_covers v w dep low = covers_alike (meet v w) v dep (meet_left v w) (meet_greatest v w v (at_most_itself v) low)

-- ---- the largest number

pub up_to_largest : (marks : List Mark) (m : Mark) → Member m marks → m.number ≤ largest marks
up_to_largest [] m h = absurd h
up_to_largest (x ∷ marks) m (inl e) = let same = ap (λ (y : Mark). y.number) e in omega (arith, same)
up_to_largest (x ∷ marks) m (inr h) = let low = up_to_largest marks m h in omega (arith, low)

pub largest_at_most : (marks : List Mark) (n : ℕ) → ((m : Mark) → Member m marks → m.number ≤ n) → largest marks ≤ n
largest_at_most [] n all = omega arith
largest_at_most (x ∷ marks) n all = let here = all x (inl refl) in let rest = largest_at_most marks n (λ m h. all m (inr h)) in omega (arith, here, rest)
