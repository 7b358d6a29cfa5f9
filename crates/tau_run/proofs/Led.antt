-- What the events of a run by turns lead to: no call is given up.
use Rattle.std.proofs.Common.{ℕ, false, ◌≡◌, List, [], ◌∷◌, ◌++◌, refl, sym, subst, ◌∙◌}
use Rattle.std.proofs.lemmas.List.{append-nil}
use Rattle.tau_model.specs.History.{Act}
use Rattle.tau_machine.specs.Hands.{Txn}
use Rattle.tau_machine.specs.State.{Setting, Core}
use Rattle.tau_machine.specs.Events.{Event, Lock, Busy, Quit, Commit, Post, Free, FirstFree, Done, DoneReading, Drop, Gather, PlaceAnchor, Persist, Ack, Stop, Resume}
use Rattle.tau_machine.specs.Runs.{LeadOn}
use Rattle.tau_machine.proofs.Runs.{lead_on_more}
use Rattle.tau_run.specs.Laws.{KeepsCall, KeepCalls}
use Rattle.tau_run.specs.Turns.{Progress, begun, IsOwn, Goes, Tells}

-- what the events of a progress are
pub record IsLed (set : Setting) (opening : Core) (p : Progress) : Type 0 where
  pub leads : LeadOn set p.events opening p.state p.joined
  pub keep : KeepCalls p.events

keep_more : (es : List Event) (e : Event) → KeepCalls es → KeepsCall e → KeepCalls (es ++ e ∷ [])
keep_more [] e k q = (q, tt)
keep_more (x ∷ es) e k q = (k.0, keep_more es e k.1 q)

-- an event that gives no call up, and acknowledges none
abbrev pub IsQuiet : Event → Type 0
IsQuiet (Quit w up) = up ≡ false
IsQuiet (Ack w v) = ⊥
IsQuiet _ = Unit {0}

quiet_keeps : (e : Event) → IsQuiet e → KeepsCall e
quiet_keeps (Lock w) q = tt
quiet_keeps (Busy w) q = tt
quiet_keeps (Quit w up) q = q
quiet_keeps (Commit w) q = tt
quiet_keeps (Post w) q = tt
quiet_keeps (Free w) q = tt
quiet_keeps (FirstFree w) q = tt
quiet_keeps (Done w) q = tt
quiet_keeps (DoneReading w) q = tt
quiet_keeps (Drop i v) q = tt
quiet_keeps (Gather j) q = tt
quiet_keeps (PlaceAnchor j v) q = tt
quiet_keeps (Persist j upto) q = tt
quiet_keeps (Ack w v) q = tt
quiet_keeps (Stop j upto) q = tt
quiet_keeps (Resume w) q = tt

-- an event of a worker is one
pub own_keeps : (w : ℕ) (e : Event) → IsOwn w e → IsQuiet e
own_keeps w (Lock u) o = tt
own_keeps w (Busy u) o = tt
own_keeps w (Quit u up) o = o.1
own_keeps w (Commit u) o = tt
own_keeps w (Post u) o = tt
own_keeps w (Free u) o = tt
own_keeps w (FirstFree u) o = tt
own_keeps w (Done u) o = tt
own_keeps w (DoneReading u) o = tt
own_keeps w (Drop i v) o = absurd o
own_keeps w (Gather j) o = absurd o
own_keeps w (PlaceAnchor j v) o = absurd o
own_keeps w (Persist j upto) o = absurd o
own_keeps w (Ack u v) o = absurd o
own_keeps w (Stop j upto) o = absurd o
own_keeps w (Resume u) o = absurd o

module _ (set : Setting) (m n : ℕ) (opening : Core) where
  pub goes_led : (e : Event) (p p' : Progress) → IsQuiet e → IsLed set opening p → Goes set m n e p p' → IsLed set opening p'
  goes_led e p p' k led g = record {
    leads = subst (λ (es : List Event). LeadOn set es opening p'.state p'.joined) (sym g.events)
        (subst (λ (new : List (Act Txn)). LeadOn set (p.events ++ e ∷ []) opening p'.state new) (sym g.joined) (lead_on_more set p.events p.joined opening p.state p'.state e g.new led.leads g.leads));
    keep = subst KeepCalls (sym g.events) (keep_more p.events e led.keep (quiet_keeps e k));
  }

  pub tells_led : (w : ℕ) (p p' : Progress) → IsLed set opening p → Tells set m n w p p' → IsLed set opening p'
  tells_led w p p' led g = record {
    leads = subst (λ (es : List Event). LeadOn set es opening p'.state p'.joined) (sym g.events)
        (subst (λ (new : List (Act Txn)). LeadOn set (p.events ++ Ack w p.state.plv ∷ []) opening p'.state new) (append-nil p.joined ∙ sym g.joined)
        (lead_on_more set p.events p.joined opening p.state p'.state (Ack w p.state.plv) [] led.leads g.leads));
    keep = subst KeepCalls (sym g.events) (keep_more p.events (Ack w p.state.plv) led.keep tt);
  }

pub begun_led : (set : Setting) (opening : Core) → IsLed set opening (begun opening)
begun_led set opening = record { leads = (refl, refl); keep = tt }
