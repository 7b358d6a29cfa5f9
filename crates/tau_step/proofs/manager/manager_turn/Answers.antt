use Rattle.std.proofs.Common.{◌<◌, ◌++◌, [], ◌∷◌, sym, ap, subst, ◌∙◌}
use Rattle.std.specs.Prelude.{slice_index}
use Rattle.tau_core.specs.declared.state.Load.{Load}
use Rattle.tau_core.specs.declared.event.Gathering.{Gathering}
use Rattle.tau_machine.specs.Events as machine
use Rattle.tau_core.specs.Steps.{GatherSteps}
use Rattle.tau_core.specs.Answered.{gathered_by}
use Rattle.tau_step.proofs.Gathering.{filled, manager_turned, manager_idle, is_current, is_broken, gather_short}
use Rattle.tau_step.proofs.NothingNew.{manager_rests}
use Rattle.tau_step.proofs.manager.manager_turn.Goals as goal

pub returns-then-failed : goal.returns-then-failed
returns-then-failed g c = λ catalogue K h es told stands size kept.
    manager_idle c.args.stream catalogue c.args.writer.now c.args.core.now told K h es stands (is_broken c.args.stream catalogue c.args.writer.now c.args.core.now h (sym c.failed.ensures ∙ c.if-failed.true) kept)

pub returns-then-is_gathered : goal.returns-then-is_gathered
returns-then-is_gathered g c = λ catalogue K h es told stands size kept.
    let l = is_current c.args.stream catalogue c.args.writer.now c.args.core.now h (sym c.failed.ensures ∙ c.if-failed.false) kept in
    manager_rests c.args.stream catalogue c.args.writer.now c.args.core.now told K h es stands c.requires.there size l (c.is_gathered.ensures.0 c.if-is_gathered.true)

pub flush_gathered-requires : goal.flush_gathered-requires
flush_gathered-requires g c =
    let (catalogue, K, h, stands, size, kept) = c.requires.held in
    let l = is_current c.args.stream catalogue c.args.writer.now c.args.core.now h (sym c.failed.ensures ∙ c.if-failed.false) kept in
    let t = subst (λ (a : Gathering). GatherSteps c.args.core.now c.gather.new.self K h c.args.stream (gathered_by a)) c.in-Upto.is (c.gather.ensures K h stands) in
    record {
      there = subst (λ (d : Load). c.args.stream < d.streams) (sym t.0.load) c.requires.there;
      filled = (
        catalogue,
        K ++ t.0.joined,
        t.0.hidden,
        t.0.stands,
        size ∙ ap (λ (d : Load). slice_index d.opening.ends c.args.stream) (sym t.0.load),
        filled c.args.stream catalogue c.args.writer.now c.args.core.now c.gather.new.self [] K h [] stands c.requires.there size l t.0 c.in-Upto.upto t.1,
      );
    }

pub returns : goal.returns
returns g c = λ catalogue K h es told stands size kept.
    let l = is_current c.args.stream catalogue c.args.writer.now c.args.core.now h (sym c.failed.ensures ∙ c.if-failed.false) kept in
    let t = subst (λ (a : Gathering). GatherSteps c.args.core.now c.gather.new.self K h c.args.stream (gathered_by a)) c.in-Upto.is (c.gather.ensures K h stands) in
    manager_turned c.args.stream catalogue c.args.writer.now c.args.core.now c.gather.new.self told K h es stands c.requires.there size l t.0 c.flush_gathered.new.core c.flush_gathered.new.writer t.2 c.flush_gathered.result
    (c.flush_gathered.ensures catalogue (K ++ t.0.joined) t.0.hidden (es ++ machine.Gather c.args.stream ∷ []) told t.0.stands (size ∙ ap (λ (d : Load). slice_index d.opening.ends c.args.stream) (sym t.0.load))
    (filled c.args.stream catalogue c.args.writer.now c.args.core.now c.gather.new.self told K h es stands c.requires.there size l t.0 c.in-Upto.upto t.1))

pub returns-in_default : goal.returns-in_default
returns-in_default g c = λ catalogue K h es told stands size kept.
    let l = is_current c.args.stream catalogue c.args.writer.now c.args.core.now h (sym c.failed.ensures ∙ c.if-failed.false) kept in
    gather_short c.args.stream catalogue c.args.writer.now c.args.core.now c.gather.new.self told K h es stands c.requires.there size l (gathered_by c.gather.result) (c.gather.ensures K h stands)
