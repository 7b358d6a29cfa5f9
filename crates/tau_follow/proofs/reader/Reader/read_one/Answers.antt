-- The reader goes on by a record, or stops.
use Rattle.std.proofs.Common.{ap}
use Rattle.std.specs.Prelude.{is_some}
use Rattle.tau_record.specs.declared.fault.RecordRefusal.TheVariants.{Bad}
use Rattle.tau_follow.proofs.Going.{stop_bad, stop_ok, refused_as}
use Rattle.tau_follow.proofs.reader.Reader.read_one.Goals as goal

pub returns-in-Err-clause-bad : goal.returns-in-Err-clause-bad
returns-in-Err-clause-bad c = λ content fault g e. (let w = c.in-Err.ensures.bad fault (refused_as c.in-Err.e (Bad fault) e) in stop_bad c.args.format c.args.n content c.args.records.now c.args.self.now c.args.from g fault w.0 w.1 w.2)

pub returns-in-Ok-None-clause-stopped : goal.returns-in-Ok-None-clause-stopped
returns-in-Ok-None-clause-stopped c = λ content g u. (g, stop_ok c.args.format c.args.n content c.args.records.now c.args.self.now c.args.from g (c.in-Ok-None.ensures.none (ap is_some c.in-Ok-None.field-0-is)))
