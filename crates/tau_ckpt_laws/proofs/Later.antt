-- Runs and stops leave a true checkpoint true.
use Rattle.std.proofs.Common.{[], ◌∷◌}
use Rattle.tau_epoch_laws.specs.Continues.{in_turn}
use Rattle.tau_epoch_laws.proofs.Chain.{goes_on}
use Rattle.tau_run.specs.Lives.{exec_lives, last_contents, last_log}
use Rattle.tau_run.proofs.Lives.{left_out, lives_sound}
use Rattle.tau_ckpt.specs.declared.checkpoint.Checkpoint.{Checkpoint}
use Rattle.tau_ckpt.specs.Chosen.{checkpoint_at}
use Rattle.tau_ckpt_laws.specs.Laws.{LivesKeepTrue, RestoredLater}
use Rattle.tau_ckpt_laws.proofs.Goes.{made_is_true, true_goes_on}
use Rattle.tau_ckpt_laws.proofs.Restored.{redoes_after, restored_rows}

pub lives_keep_true : LivesKeepTrue
lives_keep_true f n old log base sound c t [] lives = t
lives_keep_true f n old log base sound c t (x ∷ xs) lives =
    let later = left_out f n old log base sound x xs lives in
    record {
      held = t.held;
      log = t.log;
      base = t.base;
      sound = t.sound;
      lengths = t.lengths;
      epoch = t.epoch;
      rows = t.rows;
      whole = last_log log (x ∷ xs);
      reads = (lives_sound f n old log base sound (x ∷ xs) lives).reads;
      more = in_turn t.more later.0;
      goes_on = goes_on t.log t.more log later.0 (last_log log (x ∷ xs)) (true_goes_on f old log base sound c t) later.1;
    }

pub restored_later : RestoredLater
restored_later f n old log base sound saved redone xs lives =
    -- (whatever its number)
    let c : Checkpoint = checkpoint_at log 1 saved in
    let after = lives_sound f n old log base sound xs lives in
    let t = lives_keep_true f n old log base sound c (made_is_true f old log base sound 1 saved redone) xs lives in
    ((redoes_after f (last_contents old xs) (last_log log xs) (exec_lives xs base) after c t).ordered, restored_rows f (last_contents old xs) (last_log log xs) (exec_lives xs base) after c t)
