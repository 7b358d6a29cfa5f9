-- The records and their lengths are the log.
use Rattle.std.proofs.Common.{ap, sym, subst, ◌∙◌, List}
use Rattle.tau_scan.specs.Reading.{catalogue_in}
use Rattle.tau_follow.specs.declared.reader.Reader.{Reader}
use Rattle.tau_follow.specs.Sealing.{AreLengths}
use Rattle.tau_follow.proofs.Sealing.{sealed_at}
use Rattle.tau_follow.proofs.state.State.log_of.Goals as goal

pub returns-clause-ok : goal.returns-clause-ok
returns-clause-ok c = λ f n fed s a.
    (let d = c.in-Ok.ensures.ok in
    (sealed_at f n fed s c.args.self.now a c.requires.whole (record { elv = c.in_ok-elv.elv; declarations = c.in-Ok.declarations; streams = c.of.result })
    (subst (λ (l : List Reader). AreLengths l c.in_ok-elv.elv) c.as_slice.ensures.value c.in_ok-elv.ensures) d.0 (ap catalogue_in (sym c.as_slice-2.ensures.value) ∙ d.1) d.2 (c.of.ensures ∙ ap (λ v. v.items) c.replace-streams.ensures.value)).0)

pub returns-clause-log : goal.returns-clause-log
returns-clause-log c =
    (let w = c.requires.fed in
    let d = c.in-Ok.ensures.ok in
    (sealed_at w.0 w.1 w.2 w.3 c.args.self.now w.4 c.requires.whole (record { elv = c.in_ok-elv.elv; declarations = c.in-Ok.declarations; streams = c.of.result })
    (subst (λ (l : List Reader). AreLengths l c.in_ok-elv.elv) c.as_slice.ensures.value c.in_ok-elv.ensures) d.0 (ap catalogue_in (sym c.as_slice-2.ensures.value) ∙ d.1) d.2 (c.of.ensures ∙ ap (λ v. v.items) c.replace-streams.ensures.value)).1)
