use Rattle.std.proofs.Common.{◌<◌, sym, ap, subst, ◌∙◌, arith}
use Rattle.std.specs.Prelude.{slice_index}
use Rattle.std.proofs.lemmas.Result.{err_from_is_err_and}
use Rattle.tau_core.specs.declared.state.Load.{Load}
use Rattle.tau_step.specs.Keeping.{HandedOver}
use Rattle.tau_step.proofs.Handing.{gathered_turns, gathered_stops}
use Rattle.tau_step.proofs.NothingNew.{gathered_idle}
use Rattle.tau_step.proofs.manager.flush_gathered.Goals as goal

pub flush_prepared-requires : goal.flush_prepared-requires
flush_prepared-requires g c =
    let (catalogue, K, h, stands, size, l) = c.requires.filled in
    let over = subst (λ r. HandedOver c.args.stream catalogue c.args.upto c.hand_over.new.writer c.args.core.now c.hand_over.new.core K h r) c.in_ok-hand_over.was (c.hand_over.ensures.over catalogue K h stands size l) in
    record {
      there = subst (λ (d : Load). c.args.stream < d.streams) (sym over.0.load) c.requires.there;
      prepared = c.in_ok-hand_over.ensures.prepared;
      works = over.1.works;
      going = over.1.going;
      durable = over.1.durable;
      all = over.1.gathered;
    }

pub returns : goal.returns
returns g c = λ catalogue K h es told stands size l.
    let over = subst (λ r. HandedOver c.args.stream catalogue c.args.upto c.hand_over.new.writer c.args.core.now c.hand_over.new.core K h r) c.in_ok-hand_over.was (c.hand_over.ensures.over catalogue K h stands size l) in
    gathered_turns c.args.stream catalogue c.args.upto c.args.writer.now c.hand_over.new.writer c.flush_prepared.new.writer c.args.core.now c.hand_over.new.core c.flush_prepared.new.core told K h es over.0 c.hand_over.ensures.disk c.flush_prepared.result
    (c.flush_prepared.ensures catalogue K over.0.hidden es told over.0.stands (size ∙ ap (λ (d : Load). slice_index d.opening.ends c.args.stream) (sym over.0.load)) over.1)

pub returns-in_err-hand_over : goal.returns-in_err-hand_over
returns-in_err-hand_over g c = λ catalogue K h es told stands size l.
    let over = subst (λ r. HandedOver c.args.stream catalogue c.args.upto c.hand_over.new.writer c.args.core.now c.hand_over.new.core K h r) c.in_err-hand_over.was (c.hand_over.ensures.over catalogue K h stands size l) in
    rw (err_from_is_err_and c.from_residual.result c.from_residual.ensures.1).1 (gathered_stops c.args.stream catalogue c.args.upto c.args.writer.now c.hand_over.new.writer c.hand_over.new.writer c.args.core.now c.hand_over.new.core c.hand_over.new.core told K h es over c.hand_over.ensures.disk c.hand_over.ensures.works)

pub returns-then-upto-durable : goal.returns-then-upto-durable
returns-then-upto-durable g c = λ catalogue K h es told stands size l.
    gathered_idle c.args.stream catalogue c.args.upto c.args.writer.now c.args.core.now K h stands c.requires.there l (omega (arith, c.if-upto-durable.true, c.durable.ensures)) told es
