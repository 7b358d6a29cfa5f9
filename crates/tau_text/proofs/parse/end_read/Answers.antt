use Rattle.tau_text.proofs.Begins.{well_formed}
use Rattle.tau_text.proofs.parse.end_read.Goals as goal

pub add-requires-clause-well_formed : goal.add-requires-clause-well_formed
add-requires-clause-well_formed c = well_formed c.args.s.now.procs c.args.b c.in_ok-depth_at.field-0 c.requires.begun c.in_ok-depth_at.ensures.given
