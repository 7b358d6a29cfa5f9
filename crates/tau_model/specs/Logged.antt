-- Vectors and places in streams, and the orders that they allow.
use Rattle.std.specs.Prelude.{ℕ, ◌≤◌, ◌<◌, Bool, true, false, ◌≡◌, ◌↔◌, List, [], ◌∷◌, length, slice_index, slice_set}
use Rattle.tau_base.specs.Vectors.{AtMost}
use Rattle.tau_model.specs.History.{Act, Member, Before, Conflict, updates}

-- what the log says of a call: its stream, where its record starts and ends there, and its vector before its place
pub record Place : Type 0 where
  pub stream : ℕ
  pub start : ℕ
  pub past : ℕ
  pub dep : List ℕ

-- the vector of a call: its dep, with its own component at the end of its record where it has one
abbrev pub lv : Bool → Place → List ℕ
lv true p = slice_set p.dep p.stream p.past
lv false p = p.dep

-- each of these records starts at or after the component of its stream
abbrev pub StartBehind : List ℕ → List Place → Type 0
StartBehind v [] = Unit {0}
StartBehind v (q ∷ qs) = (slice_index v q.stream ≤ q.start) × StartBehind v qs

-- the vector of each record is, for each stream, at most the start of every record of that stream that is itself or later
abbrev pub Orderly : List Place → Type 0
Orderly [] = Unit {0}
Orderly (p ∷ ps) = StartBehind p.dep (p ∷ ps) × Orderly ps

-- these calls in the order in which they committed, those that pass `up` with a record, and where the streams end
pub record IsPlaced {A : Type 0} (place : A → Place) (up : A → Bool) (ends : List ℕ) (acts : List A) : Type 0 where
  -- the dep of a call is at most the start of its own record
  pub own : (r : A) → Member r acts → up r ≡ true → slice_index (place r).dep (place r).stream ≤ (place r).start
  -- and of each later one
  pub later : (t r : A) → Before t r acts → up r ≡ true → slice_index (place t).dep (place r).stream ≤ (place r).start
  -- the records of a stream commit in its order
  pub starts : (r s : A) → Before r s acts → up r ≡ true → up s ≡ true → (place r).stream ≡ (place s).stream → (place r).start < (place s).start
  -- no vector exceeds the ends
  pub ended : (t : A) → Member t acts → AtMost (place t).dep ends
  pub placed : (r : A) → Member r acts → up r ≡ true →
      ((place r).stream < length ends) × ((place r).stream < length (place r).dep) × ((place r).start < (place r).past)

module _ {C : Type 0} (place : C → Place) where
  -- where an earlier call conflicts with a later one, the later one's dep covers the earlier one's vector; and the calls have their places
  pub record IsLogged (ends : List ℕ) (acts : List (Act C)) : Type 0 where
    pub ordered : (u t : Act C) → Before u t acts → Conflict u.effect t.effect → AtMost (lv (updates u.effect) (place u.call)) (place t.call).dep
    pub places : IsPlaced (λ (x : Act C). place x.call) (λ x. updates x.effect) ends acts

  -- the chosen calls are those whose record ends at or below the cut, which covers its dep
  abbrev pub IsCutAt : List ℕ → List (Act C) → (C → Bool) → Type 0
  IsCutAt cut acts chosen = (x : Act C) → Member x acts →
      (chosen x.call ≡ true) ↔ ((updates x.effect ≡ true) × ((place x.call).past ≤ slice_index cut (place x.call).stream) × AtMost (place x.call).dep cut)
