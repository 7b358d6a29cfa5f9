-- Events of which each Busy has a cause, and one more.
use Rattle.std.proofs.Common.{List, [], ◌∷◌, ◌++◌, refl, sym, ap, subst, ◌∙◌, append_assoc}
use Rattle.std.proofs.lemmas.List.{append-nil}
use Rattle.tau_model.specs.History.{Act}
use Rattle.tau_machine.specs.Hands.{Txn}
use Rattle.tau_machine.specs.State.{Core, Setting}
use Rattle.tau_machine.specs.Events.{Event, Leads}
use Rattle.tau_occ.specs.declared.style.Style.{Style}
use Rattle.tau_rule.specs.Holders.{BusyHasCause, LeadHeld}

module _ (set : Setting) (style : Style) where
  pub held_more : (es : List Event) (K : List (Act Txn)) (opening s s' : Core) (e : Event) (new : List (Act Txn)) → LeadHeld set style es opening s K → Leads set e s s' new → BusyHasCause set style e s → LeadHeld set style (es ++ e ∷ []) opening s' (K ++ new)
  held_more [] K opening s s' e new (same, none) leads holder = (
    s',
    new,
    [],
    subst (λ (x : Core). Leads set e x s' new) same leads,
    subst (λ (x : Core). BusyHasCause set style e x) same holder,
    (refl, refl),
    ap (λ (xs : List (Act Txn)). xs ++ new) none ∙ sym (append-nil new),
  )
  held_more (x ∷ es) K opening s s' e new (m, first, rest, step, before, more, all) leads holder = (
    m,
    first,
    rest ++ new,
    step,
    before,
    held_more es rest m s s' e new more leads holder,
    ap (λ (xs : List (Act Txn)). xs ++ new) all ∙ append_assoc first rest new,
  )
