-- The definition goes through all streams.
use Rattle.std.proofs.Common.{refl}
use Rattle.tau_scan.specs.Reading.{epoch_fault}
use Rattle.tau_scan.proofs.epochs.epoch_fault.Goals as goal

pub loop-j-init : goal.loop-j-init
unfolding epoch_fault
loop-j-init c = refl
