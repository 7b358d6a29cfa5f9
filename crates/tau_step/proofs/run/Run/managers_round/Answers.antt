use Rattle.std.proofs.Common.{refl, sym, subst, arith}
use Rattle.std.specs.Prelude.{is_ok}
use Rattle.std.proofs.lemmas.Result.{err_from_is_err_and}
use Rattle.tau_step.specs.RunEffects.{Manages}
use Rattle.tau_step.specs.Rounding.{all_managed}
use Rattle.tau_step.proofs.Rounds.{managers_none, managers_more, managers_cut, managers_all}
use Rattle.tau_step.proofs.StyleFits.{workers_none, workers_on}
use Rattle.tau_step.proofs.run.Run.managers_round.Goals as goal

pub loop-stream-init : goal.loop-stream-init
loop-stream-init g c = record { manages = managers_none g.met.D.Disk.seen_now c.args.self.now c.args.writers.now.items c.requires.on; same = workers_none c.args.self.now.core }

pub manage-requires-clause-on : goal.manage-requires-clause-on
manage-requires-clause-on g c = c.loop-stream.invariant.manages.on refl

pub manage-requires-clause-there : goal.manage-requires-clause-there
manage-requires-clause-there g c = omega (arith, c.loop-stream-test.true, c.loop-stream.invariant.manages.streams)

pub returns-in_err-manage-clause-manages : goal.returns-in_err-manage-clause-manages
returns-in_err-manage-clause-manages g c =
    let p = err_from_is_err_and c.from_residual.result c.from_residual.ensures.1 in
    subst (λ r. Manages all_managed (is_ok r) c.args.self.now c.manage.new.self c.args.writers.now.items c.manage.new.writers.items) (sym p.1)
    (managers_cut g.met.D.Disk.seen_now c.loop-stream.stream _ c.args.self.now c.loop-stream.self c.manage.new.self c.args.writers.now.items c.loop-stream.writers.items c.manage.new.writers.items
    (omega (arith, c.loop-stream-test.true, c.requires.on.streams)) c.loop-stream.invariant.manages c.in_err-manage.ensures.manages)

pub loop-stream-preserved : goal.loop-stream-preserved
loop-stream-preserved g c = record {
  manages = managers_more g.met.D.Disk.seen_now c.loop-stream.stream c.in_ok-manage.field-0 c.args.self.now c.loop-stream.self c.manage.new.self c.args.writers.now.items c.loop-stream.writers.items c.manage.new.writers.items c.loop-stream.invariant.manages c.in_ok-manage.ensures.manages;
  same = workers_on c.args.self.now.core c.loop-stream.self.core c.manage.new.self.core c.loop-stream.invariant.same c.in_ok-manage.ensures.same;
}

pub returns-clause-manages : goal.returns-clause-manages
returns-clause-manages g c = managers_all g.met.D.Disk.seen_now c.loop-stream.stream c.args.self.now c.loop-stream.self c.args.writers.now.items c.loop-stream.writers.items (omega (arith, c.loop-stream-test.false, c.loop-stream.auto.stream-end, c.requires.on.streams)) c.loop-stream.invariant.manages

pub returns-clause-same : goal.returns-clause-same
returns-clause-same g c = c.loop-stream.invariant.same
