use Rattle.tau_crew.proofs.LeftOver.{beside_then}
use Rattle.tau_crew.proofs.left_over.run_left.Goals as goal

pub loop-preserved : goal.loop-preserved
loop-preserved g c = let e = c.in_ok-run_next.ensures in record { beside = beside_then c.args.head.now c.loop.head c.run_next.new.head c.loop.invariant.beside e.beside; back = e.back; ran = e.ran }

pub returns-in_err-run_next-clause-beside : goal.returns-in_err-run_next-clause-beside
returns-in_err-run_next-clause-beside g c = beside_then c.args.head.now c.loop.head c.run_next.new.head c.loop.invariant.beside c.run_next.ensures.beside

pub returns-then-not-branch-clause-beside : goal.returns-then-not-branch-clause-beside
returns-then-not-branch-clause-beside g c = beside_then c.args.head.now c.loop.head c.run_next.new.head c.loop.invariant.beside c.run_next.ensures.beside
