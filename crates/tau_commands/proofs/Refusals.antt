-- What a refusal tells and leaves.
use Rattle.std.proofs.Common.{ℕ, ◌≡◌, List, sym, ◌∙◌, subst, inl, inr, true}
use Rattle.tau_commands.specs.declared.status.Status.{Status}
use Rattle.tau_commands.specs.declared.status.Status.TheVariants as status
use Rattle.tau_commands.specs.Fault.{fault_text, is_refusal, TellsFault}
use Rattle.tau_run.specs.RunFacts.{WroteFront}

-- an answer other than lack of memory is the refusal
pub answers_as : (wrote : List ℕ → Type 0) (rose : Type 0) (refusal answer s : Status) → TellsFault wrote rose refusal answer → answer ≡ s → (s ≡ status.NoMemory → ⊥) → refusal ≡ s
answers_as wrote rose refusal answer s (inl told) e some = sym told.0 ∙ e
answers_as wrote rose refusal answer s (inr none) e some = absurd (some (sym e ∙ none.0))

pub told_refusal : (wrote : List ℕ → Type 0) (rose : Type 0) (refusal answer : Status) → TellsFault wrote rose refusal answer → is_refusal answer ≡ true → WroteFront wrote rose (fault_text answer)
told_refusal wrote rose refusal answer (inl told) e = subst (λ (s : Status). WroteFront wrote rose (fault_text s)) (sym told.0) told.1
told_refusal wrote rose refusal answer (inr none) e = let no : is_refusal status.NoMemory ≡ true = subst (λ (s : Status). is_refusal s ≡ true) none.0 e in absurd (cc)
