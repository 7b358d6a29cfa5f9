use Rattle.tau_base.specs.Modes.{format_of}
use Rattle.tau_step.proofs.Ordered.{low_streams}
use Rattle.tau_step.proofs.device.device_order.Goals as goal

pub new-requires-clause-n_high : goal.new-requires-clause-n_high
new-requires-clause-n_high c = low_streams (format_of c.args.mode) c.args.n c.requires.streams_high

pub flushes_of-requires-clause-new : goal.flushes_of-requires-clause-new
flushes_of-requires-clause-new c = c.in_ok-writers.ensures.new (format_of c.args.mode)
