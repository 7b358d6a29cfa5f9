-- An action that is another one comes in another phase.
use Rattle.std.proofs.Common.{◌≡◌, Option, refl}
use Rattle.tau_base.specs.declared.value.Key.{Key}
use Rattle.tau_base.specs.declared.value.Mode.{Mode}
use Rattle.tau_base.specs.declared.value.Value.{Value}
use Rattle.tau_txn.specs.declared.action.Action.{Action}
use Rattle.tau_txn.specs.declared.action.Action.TheVariants as action
use Rattle.tau_core.specs.declared.event.Phase.TheVariants.{Locking, Quitting, Freeing}
use Rattle.tau_core.proofs.PhaseOf.{phase_of}

pub elsewhere_lock : (a : Action) → ((x : Key) (m : Mode) → a ≡ action.Lock x m → ⊥) → phase_of a ≡ Locking → ⊥
elsewhere_lock (action.Lock x m) n e = n x m refl
elsewhere_lock (action.Quit x) n e = cc
elsewhere_lock (action.Commit size) n e = cc
elsewhere_lock action.Post n e = cc
elsewhere_lock (action.Free x write) n e = cc
elsewhere_lock (action.Done reply lv) n e = cc
elsewhere_lock action.LeftOver n e = cc
elsewhere_lock action.Nothing n e = cc

pub elsewhere_quit : (a : Action) → ((x : Key) → a ≡ action.Quit x → ⊥) → phase_of a ≡ Quitting → ⊥
elsewhere_quit (action.Lock x m) n e = cc
elsewhere_quit (action.Quit x) n e = n x refl
elsewhere_quit (action.Commit size) n e = cc
elsewhere_quit action.Post n e = cc
elsewhere_quit (action.Free x write) n e = cc
elsewhere_quit (action.Done reply lv) n e = cc
elsewhere_quit action.LeftOver n e = cc
elsewhere_quit action.Nothing n e = cc

pub elsewhere_free : (a : Action) → ((x : Key) (write : Option Value) → a ≡ action.Free x write → ⊥) → phase_of a ≡ Freeing → ⊥
elsewhere_free (action.Lock x m) n e = cc
elsewhere_free (action.Quit x) n e = cc
elsewhere_free (action.Commit size) n e = cc
elsewhere_free action.Post n e = cc
elsewhere_free (action.Free x write) n e = n x write refl
elsewhere_free (action.Done reply lv) n e = cc
elsewhere_free action.LeftOver n e = cc
elsewhere_free action.Nothing n e = cc
