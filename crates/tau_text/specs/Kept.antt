-- What is known of that which was read, and what the answer of the code says of the reading.
use Rattle.std.specs.Prelude.{◌≡◌, ℕ, ◌<◌, ◌≤◌, List, [], length, Some, Result, Ok, Err, All, IfSome, IsTrue}
use Rattle.std.specs.List.{list_all}
use Rattle.tau_base.specs.declared.limits.TheConstants.{MAX_ARGS, MAX_CALLS, MAX_CATALOGUE, MAX_PROCS, MAX_STEPS, MAX_TABLES, MAX_TURNS}
use Rattle.tau_base.specs.declared.value.Call.{Call}
use Rattle.tau_proc.specs.declared.proc.Proc.{Proc}
use Rattle.tau_proc.specs.Limits.{step_fits, open_whens}
use Rattle.tau_proc.specs.Takes.{takes}
use Rattle.tau_text.specs.declared.load.Workload.{Workload}
use Rattle.tau_text.specs.declared.fault.TextFault.{TextFault}
use Rattle.tau_text.specs.declared.fault.LineRefusal.{LineRefusal}
use Rattle.tau_text.specs.declared.fault.LineRefusal.TheVariants as of_lines
use Rattle.tau_text.specs.declared.fault.TextRefusal.{TextRefusal}
use Rattle.tau_text.specs.declared.fault.TextRefusal.TheVariants as refusals
use Rattle.tau_text.specs.declared.reading.Reading.{Reading}
use Rattle.tau_text.specs.declared.reading.Begun.{Begun}

-- What a function returned is what the definition gives, unless memory ran out.
abbrev pub Misses : {X : Type 0} → TextRefusal → Result X TextFault → Type 0
Misses refusals.NoMemory read = Unit {0}
Misses (refusals.Bad f) read = read ≡ Err f

abbrev pub Reads : {X : Type 0} → Result X TextRefusal → Result X TextFault → Type 0
Reads (Ok x) read = read ≡ Ok x
Reads (Err e) read = Misses e read

-- the refusal of a line, with its number
abbrev pub refusal : ℕ → LineRefusal → TextRefusal
refusal n of_lines.Memory = refusals.NoMemory
refusal n (of_lines.Cause cause) = refusals.Bad (record { line = n; cause = cause })

-- each call is one that these procedures take, and they are not too many
pub record AreCalls (procs : List Proc) (calls : List Call) : Type 0 where
  pub taken : All (λ c. IsTrue (takes procs c)) calls
  pub count : length calls ≤ MAX_CALLS

-- a begun procedure within the limits
pub record IsBegun (procs : List Proc) (b : Begun) : Type 0 where
  pub room : length procs < MAX_PROCS
  pub args : b.proc.args ≤ MAX_ARGS
  pub steps : length b.proc.steps ≤ MAX_STEPS
  pub names : IsTrue (list_all (step_fits b.proc.args) b.proc.steps)
  pub depth : b.depth ≤ length b.proc.steps
  pub whens : open_whens (Some 0) b.proc.steps ≡ Some b.depth

-- what was read is within the limits
pub record IsWithin (s : Reading) : Type 0 where
  pub tables : length s.tables ≤ MAX_TABLES
  pub size : s.size ≤ MAX_CATALOGUE
  pub begun : IfSome s.begun (λ b. IsBegun s.procs b × (s.calls ≡ []))
  pub calls : AreCalls s.procs s.calls
  pub turns : IfSome s.turns (λ ts. length ts ≤ MAX_TURNS)

-- a workload within the limits, whose every call is one that its procedures take
pub record IsRunnable (load : Workload) : Type 0 where
  pub tables : length load.declarations.tables ≤ MAX_TABLES
  pub calls : AreCalls load.declarations.procs load.calls
  pub turns : IfSome load.turns (λ ts. length ts ≤ MAX_TURNS)
