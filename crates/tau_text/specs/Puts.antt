-- What a function put at the end of the arguments.
use Rattle.std.specs.Prelude.{◌≡◌, ◌++◌, ◌∷◌, [], List, Result, Ok, Err}
use Rattle.tau_base.specs.declared.value.Value.{Value}
use Rattle.tau_text.specs.declared.fault.TextCause.{TextCause}
use Rattle.tau_text.specs.declared.fault.LineRefusal.{LineRefusal}
use Rattle.tau_text.specs.Given.{Fails}

-- the value that was read, or else its cause is given
abbrev pub Puts : {X : Type 0} → List Value → List Value → Result X LineRefusal → Result Value TextCause → Type 0
Puts old new (Ok x) read = (v : Value) × (read ≡ Ok v) × (new ≡ old ++ v ∷ [])
Puts old new (Err e) read = Fails e read
