use Rattle.std.proofs.Common.{arith}
use Rattle.tau_base.specs.Modes.{format_of}
use Rattle.tau_base.proofs.Modes.{streams_most}
use Rattle.tau_txn.proofs.txn.Txn.new.Goals as goal

pub new-requires-clause-high : goal.new-requires-clause-high
new-requires-clause-high c = omega (arith, c.requires.high, streams_most (format_of c.args.mode))

pub invariant_of-result : goal.invariant_of-result
invariant_of-result c = record {
  low = c.requires.low;
  high = omega (arith, c.requires.high, streams_most (format_of c.args.mode));
  fits = c.requires.high;
  hand = tt;
}
