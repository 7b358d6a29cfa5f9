-- Each record starts at 0 or after it.
use Rattle.tau_scan.specs.Taken.{taken}
use Rattle.tau_replay.proofs.Starting.{all_kept}
use Rattle.tau_replay.proofs.laws.nothing_left_out.Goals as goal

pub returns : goal.returns
returns c log from zero_at = all_kept from zero_at (taken log)
