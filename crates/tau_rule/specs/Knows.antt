-- What a seat knows.
use Rattle.std.specs.Prelude.{ℕ, Bool, List, [], Option, None, false}
use Rattle.tau_core.specs.State.{Plain}
use Rattle.tau_occ.specs.declared.style.Style.{Style}
use Rattle.tau_rule.specs.Role.{Role}
use Rattle.tau_rule.specs.declared.part.Part.{Part}

-- what the desk was opened with: the core as it was then, and the style of the workers
pub record PlainOrigin : Type 0 where
  pub value : Plain
  pub style : Style

pub record Knows : Type 0 where
  -- the core with which the desk was opened, none of a seat that is spent
  pub opened : Option Plain
  -- the actors' parts that it has, by their numbers: worker w has w, the manager of stream j has workers + j, the clerk has workers + streams
  pub roles : List (ℕ × Role)
  -- the part that it took, with its number, as it was then
  pub hand : Option (ℕ × Part)
  -- how far it has seen each stream persisted
  pub seen : List ℕ
  -- the newest anchor of its stream that it has read, with its number, 0 for none
  pub read : ℕ × List ℕ
  -- whether it has found the stop raised
  pub found : Bool

-- a seat that has given all it had to another
abbrev pub spent : Knows
spent = record { opened = None; roles = []; hand = None; seen = []; read = (0, []); found = false }
