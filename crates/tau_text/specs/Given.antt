-- Steps that may fail with a cause, and what a function of the code gives of them.
use Rattle.std.specs.Prelude.{◌≡◌, Option, Some, None, Result, Ok, Err}
use Rattle.tau_text.specs.declared.fault.TextCause.{TextCause}
use Rattle.tau_text.specs.declared.fault.LineRefusal.{LineRefusal}
use Rattle.tau_text.specs.declared.fault.LineRefusal.TheVariants as refusals

infixl 10 ◌>>=◌
abbrev pub ◌>>=◌ : {A B E : Type 0} → Result A E → (A → Result B E) → Result B E
(Ok x) >>= f = f x
(Err e) >>= f = Err e

-- the value, where there is one, else this cause
abbrev pub or_else : {A : Type 0} → TextCause → Option A → Result A TextCause
or_else cause (Some x) = Ok x
or_else cause None = Err cause

-- What a function returned, seen by view, is what the definition gives, unless memory ran out.
abbrev pub Fails : {Y : Type 0} → LineRefusal → Result Y TextCause → Type 0
Fails refusals.Memory read = Unit {0}
Fails (refusals.Cause f) read = read ≡ Err f

abbrev pub Gives : {X Y : Type 0} → (X → Y) → Result X LineRefusal → Result Y TextCause → Type 0
Gives view (Ok x) read = read ≡ Ok (view x)
Gives view (Err e) read = Fails e read
