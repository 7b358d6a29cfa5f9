use Rattle.std.proofs.Common.{sym, arith}
use Rattle.std.proofs.lemmas.Grind.{common_steps}
use Rattle.tau_text.proofs.Places.{found, nowhere}
use Rattle.tau_text.proofs.lines.place_after.Goals as goal

pub returns-then-bytes-i-clause-first : goal.returns-then-bytes-i-clause-first
returns-then-bytes-i-clause-first c = sym (found c.args.wanted c.loop-i.i c.args.bytes.now (omega arith) c.loop-i.invariant.none (grind (arith, common_steps)))

pub returns-clause-first : goal.returns-clause-first
returns-clause-first c = sym (nowhere c.args.wanted c.loop-i.i c.args.bytes.now (omega arith) c.loop-i.invariant.none)
