-- Light vectors: none is raised but by what the call depends on.
use Rattle.std.specs.Prelude.{ℕ, ◌<◌, ◌≡◌, true, List, slice_index}
use Rattle.tau_model.specs.History.{Act, Member, Depends, updates}
use Rattle.tau_model.specs.Logged.{Place}

-- each component of t's dep that exceeds what is persisted is the end of a record of that stream on whose call t depends in these acts
abbrev pub IsLight : {C : Type 0} → (C → Place) → List ℕ → List (Act C) → Act C → Type 0
IsLight {C} place persisted acts t = (j : ℕ) → slice_index persisted j < slice_index (place t.call).dep j →
    (u : Act C) × Member u acts × (updates u.effect ≡ true) × ((place u.call).stream ≡ j) × ((place u.call).past ≡ slice_index (place t.call).dep j) × Depends acts t u
