use Rattle.std.proofs.Common.{subst, sym}
use Rattle.tau_crew.specs.declared.manager.ManagerJob.{ManagerJob}
use Rattle.tau_crew.specs.Together.{IsManagerReady, ManagerWent}
use Rattle.tau_crew.proofs.together.manage_all.Goals as goal

pub for_each_mut-requires-clause-accepts : goal.for_each_mut-requires-clause-accepts
for_each_mut-requires-clause-accepts g c κs within = λ i p lt is.
    subst (λ (job : ManagerJob g.row.D.Denot g.D.Disk). IsManagerReady c.args.desk.now job) (sym is) (c.requires.ready i p.now lt)

pub returns : goal.returns
returns g c = record {
  each = λ k d lt.
      (let x = (c.for_each_mut.ensures k d lt).1 in
      subst (λ (z : ManagerJob g.row.D.Denot g.D.Disk × ManagerJob g.row.D.Denot g.D.Disk). ManagerWent z.0 z.1) (λ t. (x.argument_is t, x.left t)) x.call);
}
