-- The kind of an action tells its phase, and which action it is.
use Rattle.std.proofs.Common.{ℕ, ◌≡◌, List, refl}
use Rattle.tau_base.specs.declared.value.Key.{Key}
use Rattle.tau_base.specs.declared.value.Mode.{Mode}
use Rattle.tau_proc.specs.declared.reply.Reply.{Reply}
use Rattle.tau_txn.specs.declared.action.Action.{Action}
use Rattle.tau_txn.specs.declared.action.Action.TheVariants as action
use Rattle.tau_txn.specs.declared.action.ActionKind.{ActionKind}
use Rattle.tau_txn.specs.declared.action.ActionKind.TheVariants as kind
use Rattle.tau_txn.specs.Next.{kind_of}
use Rattle.tau_core.specs.declared.event.Phase.TheVariants.{Ready, Placed, Ended}
use Rattle.tau_core.specs.Phases.{phase_of_kind}
use Rattle.tau_core.proofs.PhaseOf.{phase_of}

pub phase_kind : (a : Action) → phase_of a ≡ phase_of_kind (kind_of a)
phase_kind (action.Lock x m) = refl
phase_kind (action.Quit x) = refl
phase_kind (action.Commit size) = refl
phase_kind action.Post = refl
phase_kind (action.Free x write) = refl
phase_kind (action.Done reply lv) = refl
phase_kind action.LeftOver = refl
phase_kind action.Nothing = refl

pub lock_kind : (a : Action) → kind_of a ≡ kind.Lock → (x : Key) × (m : Mode) × (a ≡ action.Lock x m)
lock_kind (action.Lock x m) e = (x, m, refl)
lock_kind (action.Quit x) e = cc
lock_kind (action.Commit size) e = cc
lock_kind action.Post e = cc
lock_kind (action.Free x write) e = cc
lock_kind (action.Done reply lv) e = cc
lock_kind action.LeftOver e = cc
lock_kind action.Nothing e = cc

pub commit_kind : (a : Action) → kind_of a ≡ kind.Commit → (size : ℕ) × (a ≡ action.Commit size)
commit_kind (action.Lock x m) e = cc
commit_kind (action.Quit x) e = cc
commit_kind (action.Commit size) e = (size, refl)
commit_kind action.Post e = cc
commit_kind (action.Free x write) e = cc
commit_kind (action.Done reply lv) e = cc
commit_kind action.LeftOver e = cc
commit_kind action.Nothing e = cc

pub post_kind : (a : Action) → kind_of a ≡ kind.Post → a ≡ action.Post
post_kind (action.Lock x m) e = cc
post_kind (action.Quit x) e = cc
post_kind (action.Commit size) e = cc
post_kind action.Post e = refl
post_kind (action.Free x write) e = cc
post_kind (action.Done reply lv) e = cc
post_kind action.LeftOver e = cc
post_kind action.Nothing e = cc

pub done_kind : (a : Action) → kind_of a ≡ kind.Done → (reply : Reply) × (lv : List ℕ) × (a ≡ action.Done reply lv)
done_kind (action.Lock x m) e = cc
done_kind (action.Quit x) e = cc
done_kind (action.Commit size) e = cc
done_kind action.Post e = cc
done_kind (action.Free x write) e = cc
done_kind (action.Done reply lv) e = (reply, lv, refl)
done_kind action.LeftOver e = cc
done_kind action.Nothing e = cc

-- a kind that is another one comes in another phase

pub elsewhere_commit : (k : ActionKind) → (k ≡ kind.Commit → ⊥) → phase_of_kind k ≡ Ready → ⊥
elsewhere_commit kind.Lock n e = cc
elsewhere_commit kind.Quit n e = cc
elsewhere_commit kind.Commit n e = n refl
elsewhere_commit kind.Post n e = cc
elsewhere_commit kind.Free n e = cc
elsewhere_commit kind.Done n e = cc
elsewhere_commit kind.LeftOver n e = cc
elsewhere_commit kind.Nothing n e = cc

pub elsewhere_post : (k : ActionKind) → (k ≡ kind.Post → ⊥) → phase_of_kind k ≡ Placed → ⊥
elsewhere_post kind.Lock n e = cc
elsewhere_post kind.Quit n e = cc
elsewhere_post kind.Commit n e = cc
elsewhere_post kind.Post n e = n refl
elsewhere_post kind.Free n e = cc
elsewhere_post kind.Done n e = cc
elsewhere_post kind.LeftOver n e = cc
elsewhere_post kind.Nothing n e = cc

pub elsewhere_done : (k : ActionKind) → (k ≡ kind.Done → ⊥) → phase_of_kind k ≡ Ended → ⊥
elsewhere_done kind.Lock n e = cc
elsewhere_done kind.Quit n e = cc
elsewhere_done kind.Commit n e = cc
elsewhere_done kind.Post n e = cc
elsewhere_done kind.Free n e = cc
elsewhere_done kind.Done n e = n refl
elsewhere_done kind.LeftOver n e = cc
elsewhere_done kind.Nothing n e = cc
