-- A manager places an anchor.
use Rattle.std.specs.Prelude.{ℕ, false, ◌+◌, ◌<◌, ◌≤◌, List, [], ◌∷◌, ◌++◌, length, slice_index}
use Rattle.tau_base.specs.declared.limits.TheConstants.{MAX_ANCHORS}
use Rattle.tau_base.specs.Modes.{format_of}
use Rattle.tau_record.specs.Record.{Spells}
use Rattle.tau_record.specs.declared.entry.Entry.TheVariants as entry
use Rattle.tau_core.specs.State.{Plain}
use Rattle.tau_rule.specs.Role.{Managed}
use Rattle.tau_rule.specs.Rule.{MAX_ANCHOR}
use Rattle.tau_rule.specs.Steps.{Sat}
use Rattle.tau_rule.specs.Positions.{IsManager}

-- what it has then: one anchor more, whose record starts there
abbrev pub anchored : Managed → List ℕ → List ℕ → ℕ → Managed
anchored g v bytes start = record g { anchors = g.anchors ++ v ∷ []; own = g.own ++ record { start = start; bytes = bytes } ∷ [] }

-- the seat is the manager's, these are the bytes of the anchor that holds what it has seen, and the stream has room for one
pub record IsToAnchor (origin : Plain) (j : ℕ) (m : Sat) (bytes : List ℕ) : Type 0 where
  pub managed : Managed
  pub is : IsManager origin j m managed
  pub spelled : (vectors : List (List ℕ)) → Spells (format_of origin.load.mode) origin.load.streams vectors false (entry.Anchor m.0.seen) bytes
  pub low : 1 ≤ length bytes
  pub high : length bytes ≤ MAX_ANCHOR
  pub room : slice_index origin.load.opening.anchors.items j + length managed.anchors < MAX_ANCHORS
