use Rattle.std.proofs.Common.{ℕ, ◌≡◌, ◌≤◌, ◌∙◌, List, length, sym, ap, subst, arith}
use Rattle.std.specs.Prelude.{Some, Ok}
use Rattle.tau_base.specs.declared.format.Format.{Format}
use Rattle.tau_base.specs.declared.format.Format.TheVariants.{One}
use Rattle.tau_base.specs.Modes.{most_streams}
use Rattle.tau_base.proofs.Logic.{some_is}
use Rattle.tau_scan.specs.declared.log.Log.{Log}
use Rattle.tau_scan.specs.Reading.{log_of}
use Rattle.tau_replay.specs.Redone.{IsOrderOf}
use Rattle.tau_engine.proofs.bench.recovered.Goals as goal

pub scan-requires-clause-high : goal.scan-requires-clause-high
scan-requires-clause-high g c = omega (arith, c.requires.high)

pub scan-requires-clause-fits : goal.scan-requires-clause-fits
scan-requires-clause-fits g c f is = subst (λ (h : Format). length c.args.disks.now ≤ most_streams h) (some_is One f is) c.requires.high

-- the log has an order, so redoing it gets stuck nowhere
pub unreachable-requires-in-Err-Tangled : goal.unreachable-requires-in-Err-Tangled
unreachable-requires-in-Err-Tangled g c =
    let found = rw c.in-Err-Tangled.field-0-is at c.in-Err-Tangled.is in
    let stuck = (c.replay_threads.ensures.tangled c.in-Err-Tangled.field-0-0 c.in-Err-Tangled.field-0-1 found).1 in
    let there = c.requires.ordered in
    let read = c.in-Ok.ensures.read in
    let same : Ok there.0 ≡ Ok c.in-Ok.log = sym there.1 ∙ ap (λ (images : List (List ℕ)). log_of (Some One) images) (sym (read.as_seen tt)) ∙ read.gives in
    let one : there.0 ≡ c.in-Ok.log = cc in
    stuck there.2 (subst (λ (log : Log). IsOrderOf log there.2) one there.3)
