-- Steps that may fail, one after the other, where the last gave a value.
use Rattle.std.proofs.Common.{◌≡◌, Result, Ok, Err, refl}
use Rattle.tau_text.specs.declared.fault.TextCause.{TextCause}
use Rattle.tau_text.specs.Given.{◌>>=◌}

-- a step that gives x, and the next one
pub then_ok : {A B : Type 0} (r : Result A TextCause) (f : A → Result B TextCause) (x : A) (y : Result B TextCause) → r ≡ Ok x → f x ≡ y → (r >>= f) ≡ y
then_ok r f x y e g = rw e g
