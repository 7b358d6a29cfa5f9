-- Known epochs judge as the marks do.
use Rattle.std.proofs.Common.{◌≡◌, List, [], ◌∙◌, ap}
use Rattle.tau_epoch.specs.Epochs.{Mark, judging}
use Rattle.tau_record.specs.declared.entry.Placed.{Placed}
use Rattle.tau_scan.specs.Epochs.{marks_from, with_marks}
use Rattle.tau_scan.proofs.Known.{same_judge}
use Rattle.tau_scan.proofs.judge.Judge.of.Goals as goal

pub returns : goal.returns
returns c =
    let known : c.in_ok-known.known ≡ with_marks [] (marks_from c.args.log.now.streams) = c.in_ok-known.ensures ∙ ap (λ (ss : List (List Placed)). with_marks [] (marks_from ss)) c.as_slice.ensures in
    ap (λ (ms : List Mark). judging c.args.log.now.elv ms) known ∙ same_judge c.args.log.now.elv (marks_from c.args.log.now.streams)
