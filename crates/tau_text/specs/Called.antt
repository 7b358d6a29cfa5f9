-- Which call a line makes, by its first word.
use Rattle.std.specs.Prelude.{ℕ, List, Result, Ok, Err}
use Rattle.tau_base.specs.declared.value.Value.{Value}
use Rattle.tau_base.specs.declared.value.Call.{Call}
use Rattle.tau_proc.specs.declared.proc.Proc.{Proc}
use Rattle.tau_proc.specs.declared.procs.TheConstants.{PUT, ADD, GET, DEL}
use Rattle.tau_text.specs.declared.fault.TextCause.{TextCause}
use Rattle.tau_text.specs.declared.fault.TextCause.TheVariants.{UnknownWord}
use Rattle.tau_text.specs.declared.heads.Head.{Head}
use Rattle.tau_text.specs.declared.heads.Head.TheVariants as heads
use Rattle.tau_text.specs.Given.{◌>>=◌}
use Rattle.tau_text.specs.Forms.{call_of, put_call, add_call, key_call, proc_call}

-- the call of a procedure by its number, with the arguments that were read
abbrev pub numbered : ℕ → Result (List Value) TextCause → Result Call TextCause
numbered p read = read >>= λ a. Ok (call_of p a)

-- The first words of declarations and of turns make none.
unfoldable pub called : List (List ℕ) → List Proc → Head → List (List ℕ) → Result Call TextCause
called tables procs heads.Put ws = numbered PUT (put_call tables ws)
called tables procs heads.Add ws = numbered ADD (add_call tables ws)
called tables procs heads.Get ws = numbered GET (key_call tables ws)
called tables procs heads.Del ws = numbered DEL (key_call tables ws)
called tables procs heads.Call ws = proc_call procs ws
called tables procs heads.Table ws = Err UnknownWord
called tables procs heads.Proc ws = Err UnknownWord
called tables procs heads.Turns ws = Err UnknownWord
