-- A worker looks how far a stream is persisted.
use Rattle.std.proofs.Common.{ℕ, ◌≡◌, refl, sym, subst}
use Rattle.std.specs.Prelude.{slice_set}
use Rattle.tau_rule.specs.Positions.{sees_to}
use Rattle.tau_desk.specs.Seats.{PlainWorkerSeat}
use Rattle.tau_crew.specs.Working.{WorksOn}
use Rattle.tau_crew.proofs.WorkSteps.{works_known}

pub works_seen : (s s' : PlainWorkerSeat) (stream upto : ℕ) → s' ≡ record s { me = (sees_to stream upto s.me.0, s.me.1); seen = slice_set s.seen stream upto } → WorksOn s s'
works_seen s s' stream upto e =
    subst (λ (x : PlainWorkerSeat). WorksOn s x) (sym e) (works_known s (record s { me = (sees_to stream upto s.me.0, s.me.1); seen = slice_set s.seen stream upto }) (refl, refl, refl, refl) refl (λ x. x) (λ x. x))
