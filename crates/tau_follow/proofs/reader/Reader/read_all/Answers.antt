-- The reader has gone on.
use Rattle.tau_follow.proofs.Longer.{longer_then}
use Rattle.tau_follow.proofs.reader.Reader.read_all.Goals as goal

pub returns-in-Err-clause-longer : goal.returns-in-Err-clause-longer
returns-in-Err-clause-longer c = longer_then c.args.self.now c.records.self c.read_one.new.self c.args.records.now c.records.records c.read_one.new.records c.records.invariant.4 c.in-Err.ensures.longer

pub returns-in-Ok-None-clause-longer : goal.returns-in-Ok-None-clause-longer
returns-in-Ok-None-clause-longer c = longer_then c.args.self.now c.records.self c.read_one.new.self c.args.records.now c.records.records c.read_one.new.records c.records.invariant.4 c.in-Ok-None.ensures.longer
