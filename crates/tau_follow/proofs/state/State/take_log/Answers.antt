-- The first stream that is cut short, or none.
use Rattle.std.proofs.Common.{ap, subst, ◌∙◌, refl, List}
use Rattle.std.specs.Prelude.{slice_get}
use Rattle.tau_scan.specs.declared.fault.LogFault.{LogFault}
use Rattle.tau_follow.specs.declared.reader.Reader.{Reader}
use Rattle.tau_follow.specs.Sealing.{IsCutAt}
use Rattle.tau_follow.proofs.Feeding.{bad_is}
use Rattle.tau_follow.proofs.Sealing.{cut_log}
use Rattle.tau_follow.proofs.state.State.take_log.Goals as goal

pub returns-in-Some-clause-bad : goal.returns-in-Some-clause-bad
returns-in-Some-clause-bad c = λ f n fed s fault a e.
    cut_log f n fed c.args.self.now.streams.items c.args.self.now.readers.items fault a.read
    (subst (λ (z : LogFault). IsCutAt c.args.self.now.readers.items z) (bad_is c.in-Some.fault fault e) (subst (λ (l : List Reader). IsCutAt l c.in-Some.fault) c.as_slice.ensures.value c.in-Some.ensures.some))

pub log_of-requires-clause-whole : goal.log_of-requires-clause-whole
log_of-requires-clause-whole c = λ j r e. c.in-None.ensures.none refl j r (ap (λ (l : List Reader). slice_get l j) c.as_slice.ensures.value ∙ e)
