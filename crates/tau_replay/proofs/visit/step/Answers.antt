-- The part is given back as it was left.
use Rattle.std.proofs.Common.{rules, ◌≡◌, sym, ap, subst}
use Rattle.std.specs.Box.{with_value}
use Rattle.tau_scan.specs.declared.log.Log.{Log}
use Rattle.tau_replay.specs.declared.view.Part.{Part}
use Rattle.tau_replay.specs.declared.view.TheConstants.{RECORDS}
use Rattle.tau_replay.specs.Rule.{Sat}
use Rattle.tau_replay.specs.Sound.{AreWorking}
use Rattle.tau_replay.specs.Working.{RestStays}
use Rattle.tau_replay.proofs.Visits.{may_give, gave_back, rest_wide}
use Rattle.tau_replay.proofs.visit.step.Goals as goal

pub give-requires-clause-held : goal.give-requires-clause-held
give-requires-clause-held g c =
    let held = c.take-part.ensures.held in
    let new = c.go_on-order.new.part in
    let value : c.deref_mut.result.now ≡ c.take-part.result.value = search rules in
    let rest : RestStays c.args.first c.args.many c.take-part.result.value.replay.hands.items new.replay.hands.items =
    subst (λ (p : Part). RestStays c.args.first c.args.many p.replay.hands.items new.replay.hands.items) value (rest_wide c.args.first RECORDS c.args.many _ new.replay.hands.items c.requires.few.0 c.go_on-order.ensures.rest) in (
      ap (λ (m : Sat). m.1) held,
      may_give c.args.first c.args.many c.args.seat.now.me c.take-part.new.seat.me c.take-part.result _ c.requires.stands held rest
          (subst (λ (l : Log). AreWorking l new.replay) (sym c.requires.of_log) c.go_on-order.ensures.working),
    )

pub returns-clause-went : goal.returns-clause-went
returns-clause-went g c =
    gave_back c.args.first c.args.many c.args.seat.now.me c.take-part.new.seat.me c.give.new.seat.me c.take-part.result (with_value c.take-part.result c.go_on-order.new.part) c.requires.stands c.take-part.ensures.held c.give.ensures.given
