-- The record is read of the bytes from the index on.
use Rattle.std.proofs.Common.{eqb}
use Rattle.tau_follow.proofs.Going.{told_less, told_some, told_long}
use Rattle.tau_follow.proofs.reader.Reader.next.Goals as goal

pub overflow_sub-result : goal.overflow_sub-result
overflow_sub-result c = told_less c.args.format c.args.n c.args.self.now.last (eqb c.args.self.now.at 0) c.args.self.now.vectors.items c.as_slice.result.now c.args.self.now.rest.items c.deref.result.now c.args.from c.in-Ok.entry c.in-Ok.after.now c.deref.ensures.value c.as_slice.ensures.value c.requires.within c.in-Ok.ensures

pub returns-in-Ok-clause-some : goal.returns-in-Ok-clause-some
returns-in-Ok-clause-some c = told_some c.args.format c.args.n c.args.self.now.last (eqb c.args.self.now.at 0) c.args.self.now.vectors.items c.as_slice.result.now c.args.self.now.rest.items c.deref.result.now c.args.from c.in-Ok.entry c.in-Ok.after.now c.deref.ensures.value c.as_slice.ensures.value c.requires.within c.in-Ok.ensures

pub returns-in-Ok-clause-long : goal.returns-in-Ok-clause-long
returns-in-Ok-clause-long c = told_long c.args.format c.args.n c.args.self.now.last (eqb c.args.self.now.at 0) c.args.self.now.vectors.items c.as_slice.result.now c.args.self.now.rest.items c.deref.result.now c.args.from c.in-Ok.entry c.in-Ok.after.now c.deref.ensures.value c.as_slice.ensures.value c.requires.within c.in-Ok.ensures
