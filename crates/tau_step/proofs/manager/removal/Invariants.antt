use Rattle.std.proofs.Common.{ℕ, List}
use Rattle.tau_model.specs.History.{Act}
use Rattle.tau_machine.specs.Hands.{Txn}
use Rattle.tau_machine.specs.Events as machine
use Rattle.tau_core.specs.View.{Hidden}
use Rattle.tau_core.specs.Stands.{Stands}
use Rattle.tau_step.specs.Progressed.{Comes}
use Rattle.tau_step.proofs.PartsOfPasses.{drops_below}
use Rattle.tau_step.proofs.manager.removal.Given as goal

abbrev pub invariant-loop-shard : goal.invariant-loop-shard
invariant-loop-shard l = (K : List (Act Txn)) (h : Hidden) (es : List machine.Event) (told : List (ℕ × List ℕ)) → Stands l.fn.core K h → Comes (drops_below l.shard) l.fn.core l.core told told K h es
