-- The laws are lemmas.
use Rattle.tau_ckpt_laws.proofs.Held.{writes_keep_true}
use Rattle.tau_ckpt_laws.proofs.Later.{lives_keep_true, restored_later}
use Rattle.tau_ckpt_laws.proofs.laws.stays_true.Goals as goal

pub returns-clause-kept : goal.returns-clause-kept
returns-clause-kept c = lives_keep_true

pub returns-clause-later : goal.returns-clause-later
returns-clause-later c = restored_later

pub returns-clause-written : goal.returns-clause-written
returns-clause-written c = writes_keep_true
