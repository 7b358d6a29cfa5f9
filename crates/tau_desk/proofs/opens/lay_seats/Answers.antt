use Rattle.std.proofs.Common.{◌++◌, ◌∷◌, [], ◌∙◌, List, Option, refl, sym, ap, subst, append_assoc}
use Rattle.std.specs.Prelude.{Some}
use Rattle.tau_rule.specs.declared.part.Part.{Part}
use Rattle.tau_desk.specs.Shares.{PlainWork}
use Rattle.tau_desk.specs.Laid.{EachOf, HasBox, IsItsWork}
use Rattle.tau_desk.proofs.Slots.{each_more}
use Rattle.tau_desk.proofs.opens.lay_seats.Goals as goal

pub loop-seat-preserved : goal.loop-seat-preserved
loop-seat-preserved c =
    let e = c.in_ok-work.ensures in
    let boxes = c.loop-seat.invariant.slots in
    record {
      slots = (
        boxes.0 ++ Some e.0 ∷ [],
        e.2 ∙ ap (λ (l : List (Option Part)). l ++ Some e.0 ∷ []) boxes.1 ∙ append_assoc c.args.slots.now.items boxes.0 (Some e.0 ∷ []),
        each_more HasBox c.loop-seat.yielded boxes.0 c.in-Some.seat (Some e.0) boxes.2 (e.0, refl, e.3),
      );
      works = subst (λ (ys : List (Option PlainWork)). EachOf IsItsWork (c.loop-seat.yielded ++ c.in-Some.seat ∷ []) ys) (sym c.in_ok-push.ensures.items)
          (each_more IsItsWork c.loop-seat.yielded c.loop-seat.works.items c.in-Some.seat (Some c.in_ok-work.work) c.loop-seat.invariant.works (e.1, ap (λ (o : PlainWork). Some o) e.4));
    }
