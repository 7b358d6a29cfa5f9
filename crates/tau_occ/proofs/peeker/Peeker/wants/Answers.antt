use Rattle.std.proofs.Common.{◌≡◌, List, [], sym, ap, subst, ◌∙◌}
use Rattle.std.specs.Prelude.{None, IfSome}
use Rattle.std.specs.Map.{lookup}
use Rattle.tau_base.specs.Database.{same_key}
use Rattle.tau_base.specs.declared.value.Key.{Key}
use Rattle.tau_base.specs.declared.value.Value.{Value}
use Rattle.tau_machine.specs.Stage.{stage}
use Rattle.tau_proc.specs.Progress.{ahead}
use Rattle.tau_proc.specs.Stage.{Wants}
use Rattle.tau_txn.specs.Progress.{Follows}
use Rattle.tau_occ.specs.Peeker.{PlainPeeker, IsPeeking, wanted_of}
use Rattle.tau_occ.proofs.Peeks.{wants_by}
use Rattle.tau_occ.proofs.peeker.Peeker.wants.Goals as goal

pub returns-clause-wants : goal.returns-clause-wants
returns-clause-wants c = λ procs call is.
    let here = subst (IsPeeking procs call) (sym c.self.view_is) is in
    let saw : c.as_slice-seen.result.now ≡ c.self.inside.seen.items = c.as_slice-seen.ensures.value in
    let follows : Follows procs call c.self.inside.seen.items c.run_on-key.new.machine =
    subst (λ (l : List (Key × Value)). Follows procs call l c.run_on-key.new.machine) saw
    (c.run_on-key.ensures.follows procs call (subst (λ (l : List (Key × Value)). Follows procs call l c.self.inside.machine) (sym saw) here.follows)) in
    wants_by procs call c.self.inside.seen.items c.run_on-key.new.machine c.run_on-key.result follows
    (subst (λ (l : List (Key × Value)). IfSome c.run_on-key.result (λ key. (ahead c.run_on-key.new.machine [] ≡ Wants key) × (lookup (same_key key) l ≡ None))) saw c.run_on-key.ensures.stands)
    c.run_on-key.ensures.ended
    ∙ ap (λ (q : PlainPeeker). wanted_of (stage procs call q.seen)) c.self.view_is
