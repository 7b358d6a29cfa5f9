-- The known epochs have the vectors of the first marks.
use Rattle.std.proofs.Common.{◌∙◌, ap}
use Rattle.tau_epoch.specs.Known.{vector_of}
use Rattle.tau_scan.specs.Epochs.{marks_from}
use Rattle.tau_scan.proofs.Known.{known_vector}
use Rattle.tau_scan.proofs.epochs.one_vector_each.Goals as goal

pub epoch_fault-requires-clause-known : goal.epoch_fault-requires-clause-known
epoch_fault-requires-clause-known c n = ap (vector_of n) c.in_ok-known.ensures ∙ known_vector n (marks_from c.args.streams.now)
