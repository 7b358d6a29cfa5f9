-- Recovery by several workers: records are started and finished in turns.
use Rattle.std.specs.Prelude.{◌≤◌, ◌≡◌, ◌⊎◌, List, [], ◌∷◌, ◌++◌, slice_index}
use Rattle.tau_model.specs.History.{Member}
use Rattle.tau_model.specs.Logged.{Place}

-- the records that are not started, those in flight, and those finished in the order in which they were
pub record Replaying (A : Type 0) : Type 0 where
  pub todo : List A
  pub flight : List A
  pub order : List A

pub data Turn (A : Type 0) : Type 0 where
  Start : A → Turn A
  Finish : A → Turn A

module _ {A : Type 0} (place : A → Place) where
  -- each record that is not finished starts at or after its stream's component of the dep
  abbrev pub IsReady : Replaying A → A → Type 0
  IsReady s r = (q : A) → Member q s.todo ⊎ Member q s.flight → slice_index (place r).dep (place q).stream ≤ (place q).start

  abbrev pub Turned : Replaying A → Turn A → Replaying A → Type 0
  Turned s (Start r) t = (front back : List A) × (s.todo ≡ front ++ r ∷ back) × IsReady s r × (t ≡ record { todo = front ++ back; flight = r ∷ s.flight; order = s.order })
  Turned s (Finish r) t = (front back : List A) × (s.flight ≡ front ++ r ∷ back) × (t ≡ record { todo = s.todo; flight = front ++ back; order = s.order ++ r ∷ [] })

  abbrev pub Turns : Replaying A → List (Turn A) → Replaying A → Type 0
  Turns s [] t = t ≡ s
  Turns s (e ∷ es) t = (m : Replaying A) × Turned s e m × Turns m es t
