-- The format that is asked has room for the contents that have it.
use Rattle.std.proofs.Common.{◌≡◌, ◌≤◌, List, ℕ, Ok, length, sym, subst, IfOk}
use Rattle.tau_base.specs.declared.format.Format.{Format}
use Rattle.tau_base.specs.Modes.{most_streams}
use Rattle.tau_scan.specs.Found.{FoundAs}
use Rattle.tau_scan.specs.Contents.{AreContents, IsLogOf}
use Rattle.tau_scan.specs.declared.log.Log.{Log}
use Rattle.tau_block.specs.declared.content.Content.{Content}
use Rattle.tau_scan.specs.Reading.{contents_of, log_as}
use Rattle.tau_scan.proofs.Asked.{room_of}
use Rattle.tau_scan.proofs.reading.log_in.Goals as goal

pub log_as-requires-clause-room : goal.log_as-requires-clause-room
log_as-requires-clause-room c =
    subst (λ (f : Format). (contents : List (List ℕ)) → contents_of f c.args.images.now ≡ Ok contents → length c.args.images.now ≤ most_streams f) (sym c.asked_format-format.ensures)
    (room_of c.args.asked c.args.images.now c.requires.high c.requires.fits)

pub returns-clause-same : goal.returns-clause-same
returns-clause-same c = subst (λ (f : Format). FoundAs (λ (r : Log × List Content). r.0) c.log_as.result (log_as f c.args.images.now)) c.asked_format-format.ensures c.log_as.ensures.same

pub returns-clause-are : goal.returns-clause-are
returns-clause-are c = subst (λ (f : Format). IfOk c.log_as.result (λ r. AreContents f c.args.images.now r.1)) c.asked_format-format.ensures c.log_as.ensures.are

pub returns-clause-theirs : goal.returns-clause-theirs
returns-clause-theirs c = subst (λ (f : Format). IfOk c.log_as.result (λ r. IsLogOf f r.1 r.0)) c.asked_format-format.ensures c.log_as.ensures.theirs
