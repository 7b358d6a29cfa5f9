-- How a call may end, by its causes.
use Rattle.std.proofs.Common.{ℕ, ◌≡◌, List, [], sym, ap, ◌∙◌, subst, inl, inr, true}
use Rattle.std.specs.Prelude.{Result, Ok, Err}
use Rattle.tau_text.specs.declared.load.Workload.{Workload}
use Rattle.tau_text.specs.declared.fault.TextFault.{TextFault}
use Rattle.tau_run.specs.RunFacts.{WroteFront}
use Rattle.tau_commands.specs.declared.status.Status.{Status}
use Rattle.tau_commands.specs.declared.status.Status.TheVariants as status
use Rattle.tau_commands.specs.Fault.{fault_text, TellsFault}
use Rattle.tau_commands.specs.Outside.{HasWorkload, HasFault, is_before_disks, ends_text}
use Rattle.tau_engine.specs.RunSays.{MayEnd}
use Rattle.tau_commands.proofs.Ends.{nothing_told}

loaded : Workload → Result Workload TextFault → Workload
loaded a (Ok x) = x
loaded a (Err x) = a

pub same_load : (text : List ℕ) (a b : Workload) → HasWorkload text a → HasWorkload text b → a ≡ b
unfolding loaded
same_load text a b one other = ap (loaded a) (sym one.1 ∙ other.1)

pub not_both : (text : List ℕ) (load : Workload) (fault : TextFault) → HasWorkload text load → HasFault text fault → ⊥
not_both text load fault one other = (let f : Ok load ≡ Err fault = sym one.1 ∙ other.1 in cc f)

pub runs_behind : (s : Status) → MayEnd s → is_before_disks s ≡ true → ⊥
runs_behind status.Ok may e = cc e
runs_behind status.NoMemory may e = cc e
runs_behind status.WriteFault may e = cc e
runs_behind (status.DiskFault j) may e = cc e
runs_behind (status.BadLog fault) may e = cc e
runs_behind status.Usage may e = may
runs_behind (status.BadText at why) may e = may
runs_behind status.ReadFault may e = may
runs_behind status.TooLong may e = may
runs_behind (status.BadFeed at) may e = may
runs_behind (status.BadReport number) may e = may

-- a refusal before a run: its answer, and that lack of memory tells nothing
pub ends_unread : (wrote : List ℕ → Type 0) (rose : Type 0) (refusal answer : Status) → ends_text refusal ≡ true → TellsFault wrote rose refusal answer → (ends_text answer ≡ true) × (answer ≡ status.NoMemory → wrote [])
ends_unread wrote rose refusal answer kind (inr none) = (ap ends_text none.0, λ e. none.1)
ends_unread wrote rose refusal answer kind (inl told) = (ap ends_text told.0 ∙ kind, λ e. nothing_told wrote rose (subst (λ (s : Status). WroteFront wrote rose (fault_text s)) (sym told.0 ∙ e) told.1))
