use Rattle.std.proofs.Common.{true, false, sym, ◌≡◌, ap, ◌∙◌}
use Rattle.std.specs.Prelude.{Ok, Err}
use Rattle.std.proofs.lemmas.Result.{err_from_is_err_and}
use Rattle.tau_step.proofs.Draining.{flushed_as, idle_as, failed_as, short_as}
use Rattle.tau_step.proofs.run.Run.flushed.Goals as goal

pub manage-requires-clause-on : goal.manage-requires-clause-on
manage-requires-clause-on g c = c.requires.on

pub manage-requires-clause-there : goal.manage-requires-clause-there
manage-requires-clause-there g c = c.requires.there

pub returns-in-Flushed-clause-manages : goal.returns-in-Flushed-clause-manages
returns-in-Flushed-clause-manages g c = flushed_as g.met.D.Disk.seen_now c.args.stream c.args.self.now c.manage.new.self c.args.writers.now.items c.manage.new.writers.items (rw c.in-Flushed.is at c.in_ok-manage.ensures.manages)

pub returns-in-Flushed-clause-fewer : goal.returns-in-Flushed-clause-fewer
returns-in-Flushed-clause-fewer g c = λ e. c.manage.ensures.fewer (c.in_ok-manage.was ∙ ap Ok c.in-Flushed.is)

pub returns-in-Idle-clause-manages : goal.returns-in-Idle-clause-manages
returns-in-Idle-clause-manages g c = idle_as g.met.D.Disk.seen_now c.args.stream c.args.self.now c.manage.new.self c.args.writers.now.items c.manage.new.writers.items (rw c.in-Idle.is at c.in_ok-manage.ensures.manages)

pub returns-in-Idle-clause-fewer : goal.returns-in-Idle-clause-fewer
returns-in-Idle-clause-fewer g c = λ e. absurd (let bad : Ok false ≡ Ok true = e in cc)

pub returns-in-Failed-clause-manages : goal.returns-in-Failed-clause-manages
returns-in-Failed-clause-manages g c = failed_as g.met.D.Disk.seen_now c.args.stream c.args.self.now c.manage.new.self c.args.writers.now.items c.manage.new.writers.items (rw c.in-Failed.is at c.in_ok-manage.ensures.manages)

pub returns-in-Failed-clause-fewer : goal.returns-in-Failed-clause-fewer
returns-in-Failed-clause-fewer g c = λ e. absurd (let bad : Ok false ≡ Ok true = e in cc)

pub returns-in_err-manage-clause-manages : goal.returns-in_err-manage-clause-manages
returns-in_err-manage-clause-manages g c = rw (err_from_is_err_and c.from_residual.result c.from_residual.ensures.1).1 (short_as g.met.D.Disk.seen_now c.args.stream _ c.args.self.now c.manage.new.self c.args.writers.now.items c.manage.new.writers.items c.in_err-manage.ensures.manages)

pub returns-in_err-manage-clause-fewer : goal.returns-in_err-manage-clause-fewer
returns-in_err-manage-clause-fewer g c = λ e.
    let p = err_from_is_err_and c.from_residual.result c.from_residual.ensures.1 in
    absurd (let bad : Err p.0 ≡ Ok true = sym p.1 ∙ e in cc)
