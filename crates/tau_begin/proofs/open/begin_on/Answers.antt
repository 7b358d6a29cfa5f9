use Rattle.std.proofs.Common.{sym, ◌∙◌, arith}
use Rattle.tau_begin.proofs.Beginning.{few_anchors}
use Rattle.tau_begin.proofs.open.begin_on.Goals as goal

pub start_on-requires-clause-anchors : goal.start_on-requires-clause-anchors
start_on-requires-clause-anchors c = few_anchors c.args.text.now c.args.sizes.now c.args.log.now (sym c.begins_fault.ensures ∙ c.in-None.is) (omega (arith, c.requires.sizes, c.requires.streams))
