-- Committed calls, as the reported history sees them.
use Rattle.std.specs.Prelude.{ℕ, ◌≤◌, ◌<◌, Bool, List, Option, Some, None, length, map, is_some, slice_index, slice_set}
use Rattle.std.specs.Option.{ForSome}
use Rattle.tau_model.specs.declared.committed.Committed.{Committed}
use Rattle.tau_model.specs.declared.committed.Spot.{Spot}
use Rattle.tau_model.specs.Logged.{Place}
use Rattle.tau_model.specs.Reported.{reported_of}

abbrev pub place_at : List ℕ → Option Spot → Place
place_at dep None = record { stream = 0; start = 0; past = 0; dep = dep }
place_at dep (Some s) = record { stream = s.stream; start = s.start; past = s.past; dep = dep }

-- its place; of a read-only call the dep counts alone
abbrev pub place_of : Committed → Place
place_of c = place_at c.dep c.spot

-- its vector: its dep, with the component of its stream at the end of its record where it has one
abbrev pub lv_at : List ℕ → Option Spot → List ℕ
lv_at dep None = dep
lv_at dep (Some s) = slice_set dep s.stream s.past

abbrev pub has_record : Committed → Bool
has_record c = is_some c.spot

abbrev pub number_of : Committed → ℕ
number_of c = c.number

-- the numbers of these calls in the order of their reported history
abbrev pub reported_numbers : List ℕ → List Committed → List ℕ
reported_numbers ends calls = map number_of (reported_of place_of has_record number_of ends calls)

-- the record of the call, where it has one, is in a stream with one of these ends, and starts at or before it
abbrev pub IsSpotWithin : List ℕ → Option Spot → Type 0
IsSpotWithin ends spot = ForSome spot (λ s. (s.stream < length ends) × (s.start ≤ slice_index ends s.stream))

abbrev pub IsWithin : List ℕ → Committed → Type 0
IsWithin ends c = IsSpotWithin ends c.spot
