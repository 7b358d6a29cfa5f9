use Rattle.std.proofs.Common.{sym, subst, List}
use Rattle.tau_crew.specs.EndDone.{ClosesDone}
use Rattle.tau_crew.proofs.EndCloses.{resting, whole}
use Rattle.tau_crew.proofs.EndDone.{closes_done}
use Rattle.tau_crew.proofs.ending_close.close_run.Goals as goal

pub close-requires-clause-own : goal.close-requires-clause-own
close-requires-clause-own g c = let (bases, ws, jobs, telling, same, b) = c.requires.back in b.head.own

pub close-requires-clause-opened : goal.close-requires-clause-opened
close-requires-clause-opened g c = let (bases, ws, jobs, telling, same, b) = c.requires.back in b.head.opened

pub close-requires-clause-whole : goal.close-requires-clause-whole
close-requires-clause-whole g c = let (bases, ws, jobs, telling, same, b) = c.requires.back in whole _ _ bases ws c.args.head jobs telling b c.agrees.ensures

pub close-requires-clause-rests : goal.close-requires-clause-rests
close-requires-clause-rests g c = let (bases, ws, jobs, telling, same, b) = c.requires.back in resting _ _ bases ws c.args.head jobs telling b c.agrees.ensures

pub returns : goal.returns
returns g c = λ bases ws jobs telling same b. subst (λ (ws' : List _). ClosesDone c.args.desk.table.shared.key.value c.args.desk.table.shared.key.style bases ws ws' c.args.head jobs telling c.close.result) (sym same) (closes_done _ _ bases ws c.args.head jobs telling b c.agrees.ensures c.close.result c.close.ensures)
