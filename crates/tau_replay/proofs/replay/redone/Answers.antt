-- The refusal of the rounds; the tables of the order in which the records were finished.
use Rattle.std.proofs.Common.{◌≡◌, ap, Err, Result}
use Rattle.tau_replay.proofs.Following.{over_by}
use Rattle.tau_model.specs.declared.tables.Tables.{Tables}
use Rattle.tau_scan.specs.declared.fault.ReplayRefusal.{ReplayRefusal}
use Rattle.tau_scan.specs.declared.fault.ReplayRefusal.TheVariants.{Tangled}
use Rattle.tau_replay.proofs.replay.redone.Goals as goal

abbrev failed : ReplayRefusal → Result Tables ReplayRefusal
failed a = Err a

refusal_is : (a b : ReplayRefusal) → failed a ≡ failed b → a ≡ b
refusal_is a b e = cc

abbrev stopped : ReplayRefusal → Result (Unit {0}) ReplayRefusal
stopped a = Err a

pub returns-in-Err-clause-tangled : goal.returns-in-Err-clause-tangled
returns-in-Err-clause-tangled g c j at e = c.in-Err.ensures.tangled j at (ap stopped (refusal_is c.in-Err.refusal (Tangled j at) e))

pub returns-in-Ok-tables-clause-followed : goal.returns-in-Ok-tables-clause-followed
returns-in-Ok-tables-clause-followed g c turns f =
    let (more, h) = c.in-Ok.ensures.followed turns f in
    over_by c.args.log.now g.course c.run_out.new.replay turns more c.in-Ok-tables.tables c.in-Ok.ensures.done h c.in-Ok-tables.ensures
