-- Of workers in threads.
use Rattle.std.proofs.Common.{◌≡◌, length}
use Rattle.tau_scan.specs.declared.log.Log.{Log}
use Rattle.tau_replay.specs.declared.turns.Replay.{Replay}
use Rattle.tau_replay.specs.declared.view.TheConstants.{HANDS}
use Rattle.tau_replay.specs.Sound.{AreWorking}

pub working_many : (log : Log) (r : Replay) → AreWorking log r → length r.hands.items ≡ HANDS
working_many log r s = s.many
