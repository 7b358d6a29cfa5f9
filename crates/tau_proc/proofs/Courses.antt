-- Where a machine stands, by the values that it was given.
use Rattle.std.proofs.Common.{◌≡◌, ℕ, ◌+◌, List, [], ◌∷◌, ◌++◌, sym, ap, ◌∙◌, append_assoc, append-nil}
use Rattle.tau_base.specs.declared.value.Call.{Call}
use Rattle.tau_base.specs.declared.value.Key.{Key}
use Rattle.tau_base.specs.declared.value.Value.{Value}
use Rattle.tau_proc.specs.declared.machine.Stop.{Stop}
use Rattle.tau_proc.specs.declared.machine.Stop.TheVariants.{Row, End}
use Rattle.tau_proc.specs.declared.proc.Proc.{Proc}
use Rattle.tau_proc.specs.declared.reply.Reply.{Reply}
use Rattle.tau_proc.specs.declared.step.Step.{Step}
use Rattle.tau_proc.specs.Meaning.{Running, meaning}
use Rattle.tau_proc.specs.Progress.{Progress, IsAt, ahead, at_stop, next_want, want_of, buffered}
use Rattle.tau_proc.specs.Stage.{Stage, Ends, stage, values}
use Rattle.tau_proc.specs.Theorems.{WantsAreMeaning}
use Rattle.tau_proc.proofs.Stages.{stage_ends, stage_wants}

module _ (procs : List Proc) (c : Call) (given : List Value) (n : ℕ) (m : Progress) (is : IsAt procs c given n m) where
  -- where it stands now
  pub is_at_now : ahead m [] ≡ stage procs c given
  is_at_now = is.stands [] ∙ ap (stage procs c) (append-nil given)

  -- and what it wants
  pub is_at_wants : next_want m ≡ want_of (stage procs c given) n
  is_at_wants = ap (λ (s : Stage). want_of s m.granted) is_at_now ∙ ap (want_of (stage procs c given)) is.granted

  -- where it stands once it was given one more value
  pub is_at_gives : (v : Value) (new : Progress) → ((vs : List Value) → ahead new vs ≡ ahead m (v ∷ vs)) → new.granted ≡ m.granted → IsAt procs c (given ++ v ∷ []) n new
  is_at_gives v new more same = record {
    stands = λ vs. more vs ∙ is.stands (v ∷ vs) ∙ ap (stage procs c) (sym (append_assoc given (v ∷ []) vs));
    granted = same ∙ is.granted;
  }

  -- and once one more of its writes was granted
  pub is_at_granted : (new : Progress) → ((vs : List Value) → ahead new vs ≡ ahead m vs) → new.granted ≡ m.granted + 1 → IsAt procs c given (n + 1) new
  is_at_granted new more same = record { stands = λ vs. more vs ∙ is.stands vs; granted = same ∙ ap (λ (k : ℕ). k + 1) is.granted }

at_end : (args : List Value) (steps : List Step) (done : ℕ) (r : Running) (stop : Stop) (ws : List (Key × Value)) (reply : Reply) → at_stop args steps done r stop [] ≡ Ends ws reply → r.writes ≡ ws
at_end args steps done r (Row key then) ws reply e = cc
at_end args steps done r (End q) ws reply e = cc

-- a call that has ended has buffered its writes
pub buffered_ends : (m : Progress) (ws : List (Key × Value)) (reply : Reply) → ahead m [] ≡ Ends ws reply → buffered m ≡ ws
buffered_ends m ws reply e = at_end m.args m.steps m.done m.running m.stop ws reply e

pub wants_are_meaning : WantsAreMeaning
wants_are_meaning procs c db m = (
  λ front read back n e is. is_at_wants procs c (values front) n m is ∙ ap (λ (s : Stage). want_of s n) (stage_wants procs c db front read back e),
  λ n is. let e = meaning procs c db in (
    is_at_wants procs c (values e.reads) n m is ∙ ap (λ (s : Stage). want_of s n) (stage_ends procs c db),
    buffered_ends m e.writes e.reply (is_at_now procs c (values e.reads) n m is ∙ stage_ends procs c db),
  ),
)
