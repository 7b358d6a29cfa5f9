-- A lock says Busy only with a cause, which the style of the workers sets.
use Rattle.std.specs.Prelude.{ℕ, ◌≡◌, ◌⊎◌, Some, List, [], ◌∷◌, ◌++◌}
use Rattle.tau_base.specs.declared.value.Key.{Key}
use Rattle.tau_base.specs.declared.value.Mode.TheVariants.{Read}
use Rattle.tau_model.specs.History.{Act}
use Rattle.tau_machine.specs.Hands.{Hand, Txn}
use Rattle.tau_machine.specs.State.{Core, Setting}
use Rattle.tau_machine.specs.Events.{Busy, Event, Leads, lock_next, ready}
use Rattle.tau_machine.specs.Waits.{IsBarred}
use Rattle.tau_occ.specs.declared.style.Style.{Style}
use Rattle.tau_occ.specs.declared.style.Style.TheVariants.{Locking, Optimistic}

module _ (set : Setting) where
  -- the worker is to lock a key to read it
  pub record IsToRead (w : ℕ) (s : Core) : Type 0 where
    pub hand : Hand
    pub key : Key
    pub is : (ready set s w).hand ≡ Some hand
    pub next : lock_next set hand ≡ Some (key, Read)

  -- Why a worker is Busy: another one holds the key that it wants, in a mode that conflicts. An optimistic one may also be Busy
  -- where it is to read: the row may not be what it peeked.
  abbrev pub IsBusyIn : Style → ℕ → Core → Type 0
  IsBusyIn Locking w s = IsBarred set w s
  IsBusyIn Optimistic w s = IsBarred set w s ⊎ IsToRead w s

  abbrev pub BusyHasCause : Style → Event → Core → Type 0
  BusyHasCause style (Busy w) s = IsBusyIn style w s
  BusyHasCause style _ s = Unit {0}

  -- the events lead from s to s' one after another, and each worker that is Busy by one of them has a cause then
  abbrev pub LeadHeld : Style → List Event → Core → Core → List (Act Txn) → Type 0
  LeadHeld style [] s s' new = (s' ≡ s) × (new ≡ [])
  LeadHeld style (e ∷ es) s s' new = (m : Core) × (first rest : List (Act Txn)) × Leads set e s m first × BusyHasCause style e s × LeadHeld style es m s' rest × (new ≡ first ++ rest)
