-- What an optimistic worker has peeked of its call, and what the call has seen under its locks.
use Rattle.std.specs.Prelude.{◌≡◌, false, Option, Some, None, List, [], ◌∷◌, ◌++◌}
use Rattle.tau_base.specs.declared.value.Call.{Call}
use Rattle.tau_base.specs.declared.value.Key.{Key}
use Rattle.tau_base.specs.declared.value.Value.{Value}
use Rattle.tau_proc.specs.declared.proc.Proc.{Proc}
use Rattle.tau_machine.specs.Hands.{Hand, Phase, Running, Quitting, Placed, Freeing}
use Rattle.tau_machine.specs.Stage.{Wants, stage}

-- the call wants these keys, one after another, where it has seen the values of those in front
abbrev pub Asks : List Proc → Call → List (Key × Value) → List (Key × Value) → Type 0
Asks procs c front [] = Unit {0}
Asks procs c front (r ∷ rs) = ((reads : List (Key × Value)) × (stage procs c front ≡ Wants reads r.0)) × Asks procs c (front ++ r ∷ []) rs

-- it has seen the first of what was peeked
abbrev pub IsFront : List (Key × Value) → List (Key × Value) → Type 0
IsFront seen ps = (back : List (Key × Value)) × (ps ≡ seen ++ back)

module _ (procs : List Proc) where
  -- a call that runs has seen the first of what was peeked, which it has asked for; one that quits has nothing peeked
  abbrev pub PhaseFits : List (Key × Value) → Hand → Phase → Type 0
  PhaseFits ps h Running = Asks procs h.call.call [] ps × IsFront h.seen ps
  PhaseFits ps h Quitting = ps ≡ []
  PhaseFits ps h (Placed t) = Unit {0}
  PhaseFits ps h (Freeing t) = Unit {0}

  abbrev pub HandFits : List (Key × Value) → Hand → Type 0
  HandFits ps h = (h.given_up ≡ false) × PhaseFits ps h h.phase

  -- what is peeked fits this hand
  abbrev pub Fits : List (Key × Value) → Option Hand → Type 0
  Fits ps None = Unit {0}
  Fits ps (Some h) = HandFits ps h
