use Rattle.std.proofs.Common.{refl}
use Rattle.tau_step.proofs.Running.{removal_works}
use Rattle.tau_step.proofs.run.Run.removal_word.Goals as goal

pub returns : goal.returns
returns c = record { works = removal_works c.args.self.now _ refl refl refl refl refl c.requires.stood c.removal.ensures }
