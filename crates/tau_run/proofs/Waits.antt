-- Each call that writes waits for all that was there when the run began.
use Rattle.std.proofs.Common.{ℕ, true, ◌≡◌, List, [], ◌∷◌, ◌++◌, sym, ap, subst, ◌∙◌, append_assoc}
use Rattle.std.proofs.lemmas.List.{append-nil}
use Rattle.tau_base.specs.declared.value.LogMode.{LogMode}
use Rattle.tau_base.specs.Shards.{shard_number}
use Rattle.tau_base.specs.Vectors.{AtMost}
use Rattle.tau_model.specs.History.{Act, Member, updates}
use Rattle.tau_machine.specs.Above.{Above}
use Rattle.tau_machine.specs.Events.{Event}
use Rattle.tau_machine.specs.Hands.{Txn}
use Rattle.tau_machine.specs.Runs.{LeadOn}
use Rattle.tau_machine.specs.Runs as machine
use Rattle.tau_machine.specs.State.{Setting, Core}
use Rattle.tau_machine.proofs.Floors.{above_theorem}
use Rattle.tau_text.specs.declared.load.Workload.{Workload}
use Rattle.tau_core.specs.declared.state.Load.{Load}
use Rattle.tau_core.specs.View.{setting_of}
use Rattle.tau_core.proofs.Shards.{shard_small}
use Rattle.tau_run.specs.CoreRun.{IsLoadOn, IsFirstState}
use Rattle.tau_run.specs.Laws.{CallsWait}
use Rattle.tau_run.specs.Start.{Start}

above_on : (set : Setting) (low : List ℕ) (events : List Event) (s s' : Core) (K new : List (Act Txn)) → Above set low K s → LeadOn set events s s' new → Above set low (K ++ new) s'
above_on set low [] s s' K new a h =
    let same : K ++ new ≡ K = ap (λ (ts : List (Act Txn)). K ++ ts) h.1 ∙ append-nil K in
    subst (λ (ts : List (Act Txn)). Above set low ts s') (sym same) (subst (Above set low K) (sym h.0) a)
above_on set low (e ∷ events) s s' K new a h =
    let first = (above_theorem set low).1 K h.1 e s h.0 a h.3 in
    let rest = above_on set low events h.0 s' (K ++ h.1) h.2 first h.4 in
    let same : (K ++ h.1) ++ h.2 ≡ K ++ new = append_assoc K h.1 h.2 ∙ ap (λ (ts : List (Act Txn)). K ++ ts) (sym h.5) in
    subst (λ (ts : List (Act Txn)). Above set low ts s') same rest

pub calls_wait : CallsWait
calls_wait l opening events K s run first t m up =
    let set : Setting = setting_of l in
    let begun = (above_theorem set l.opening.floor).0 opening run.opens (λ x. first.floor_low (shard_number x) (shard_small x)) in
    let above = above_on set l.opening.floor events opening s [] K begun run.leads in
    above.deps t m up

-- and so for the old log, of a run that begins so
pub waits_for : (n m : ℕ) (mode : LogMode) (load : Workload) (start : Start) (l : Load) (opening : Core) (events : List Event) (K : List (Act Txn)) (s : Core) → IsLoadOn n m mode load start l → machine.Run (setting_of l) opening events K s →
    IsFirstState l opening → (t : Act Txn) → Member t K → updates t.effect ≡ true → AtMost start.log.elv t.call.place.dep
waits_for n m mode load start l opening events K s on run first t q up = subst (λ (v : List ℕ). AtMost v t.call.place.dep) on.opening.floor (calls_wait l opening events K s run first t q up)
