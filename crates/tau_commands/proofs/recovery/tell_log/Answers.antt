use Rattle.std.proofs.Common.{◌≡◌, List, refl, subst}
use Rattle.tau_disk.specs.Disk.{Rose}
use Rattle.tau_scan.specs.declared.fault.LogFault.{LogFault}
use Rattle.tau_scan.specs.declared.fault.LogCause.TheVariants as cause
use Rattle.tau_scan.specs.Taken.{Kept}
use Rattle.tau_replay.specs.Redone.{IsOrderOf}
use Rattle.tau_commands.specs.declared.status.Status.TheVariants as status
use Rattle.tau_commands.specs.Outside.{Wrote}
use Rattle.tau_commands.specs.Recovery.{IsTangle}
use Rattle.tau_commands.proofs.Refusals.{answers_as}
use Rattle.tau_commands.proofs.recovery.tell_log.Goals as goal

pub returns-in-Err-Tangled-clause-tangled : goal.returns-in-Err-Tangled-clause-tangled
returns-in-Err-Tangled-clause-tangled g c fault e =
    let here : LogFault = record { stream = c.in-Err-Tangled.stream; cause = cause.Tangled c.in-Err-Tangled.at } in
    let told : status.BadLog here ≡ status.BadLog fault = answers_as (Wrote g.K.Sink.tells (g.K.Sink.held c.args.sink.now) (g.K.Sink.held c.refuse.new.sink)) (Rose (g.K.Sink.faults c.args.sink.now) (g.K.Sink.faults c.refuse.new.sink))
    (status.BadLog here) c.refuse.result (status.BadLog fault) c.refuse.ensures e (λ none. cc) in
    let same : here ≡ fault = cc in
    let failed = rw c.in-Err-Tangled.field-0-is at c.in-Err-Tangled.is in
    let stuck = c.replay_threads.ensures.tangled c.in-Err-Tangled.stream c.in-Err-Tangled.at failed in
    subst (λ (f : LogFault). IsTangle c.args.log.now f × ((order : List Kept) → IsOrderOf c.args.log.now order → ⊥)) same ((c.in-Err-Tangled.at, refl, stuck.0), stuck.1)
