-- Checkpoints that are true for what streams hold.
use Rattle.std.specs.Prelude.{ℕ, ◌≡◌, List, map, length, Ok}
use Rattle.tau_base.specs.declared.format.Format.{Format}
use Rattle.tau_base.specs.Database.{Db}
use Rattle.tau_record.specs.declared.entry.Placed.{Placed}
use Rattle.tau_epoch.specs.Epochs.{largest}
use Rattle.tau_epoch_laws.specs.Continues.{Continues}
use Rattle.tau_scan.specs.declared.log.Log.{Log}
use Rattle.tau_scan.specs.Epochs.{marks_of}
use Rattle.tau_scan.specs.Reading.{log_of_contents}
use Rattle.tau_scan.specs.Sound.{IsSound}
use Rattle.tau_replay.specs.Redone.{IsRedone}
use Rattle.tau_ckpt.specs.declared.checkpoint.Checkpoint.{Checkpoint}

-- The checkpoint is true for the contents of all streams: it is what recovery gave of sound contents, and these go on from
-- them.
pub record IsTrue (f : Format) (contents : List (List ℕ)) (c : Checkpoint) : Type 0 where
  -- what the streams held then, which was sound
  pub held : List (List ℕ)
  pub log : Log
  pub base : Db
  pub sound : IsSound f held log base
  -- its vector has their lengths, its epoch is the largest one that was known, and its rows are those of recovery
  pub lengths : c.lv ≡ map length held
  pub epoch : c.epoch ≡ largest (marks_of log)
  pub rows : IsRedone log c.rows
  -- Since then each stream only went on, and each epoch that began has a greater number. And nothing came at all, or they
  -- held nothing, or the first epoch that came after has the vector of the checkpoint.
  pub whole : Log
  pub reads : log_of_contents f contents ≡ Ok whole
  pub more : List (List Placed)
  pub goes_on : Continues log more whole
