-- Each want is answered by a value that is noted.
use Rattle.std.proofs.Common.{sym, subst, ◌∙◌}
use Rattle.tau_proc.specs.Progress.{Progress, IsRead, buffered}
use Rattle.tau_replay.specs.Result.{Executes}
use Rattle.tau_replay.proofs.Tries.{trying_ends}
use Rattle.tau_replay.proofs.calls.try_call.Goals as goal

pub returns-in-Write-clause-executed : goal.returns-in-Write-clause-executed
returns-in-Write-clause-executed g c _ =
    subst (λ (m : Progress). Executes c.args.procs.now c.args.scratch.now.call c.wants.scratch.reads.items (buffered m)) (sym c.next.ensures.same)
    (trying_ends c.args.procs.now c.args.scratch.now.call c.wants.scratch.reads.items c.wants.scratch.machine c.wants.invariant.trying (λ r. subst IsRead (sym c.next.ensures.want ∙ c.in-Write.is) r))

pub returns-in-Finished-clause-executed : goal.returns-in-Finished-clause-executed
returns-in-Finished-clause-executed g c _ =
    subst (λ (m : Progress). Executes c.args.procs.now c.args.scratch.now.call c.wants.scratch.reads.items (buffered m)) (sym c.next.ensures.same)
    (trying_ends c.args.procs.now c.args.scratch.now.call c.wants.scratch.reads.items c.wants.scratch.machine c.wants.invariant.trying (λ r. subst IsRead (sym c.next.ensures.want ∙ c.in-Finished.is) r))
