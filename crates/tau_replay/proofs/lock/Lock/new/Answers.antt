-- At the beginning the rule holds.
use Rattle.std.proofs.Common.{rules, ◌≡◌, [], ◌∷◌, Some, subst, sym, ap, ◌∙◌, List}
use Rattle.tau_scan.specs.declared.log.Log.{Log}
use Rattle.atomic_table.specs.Table.{opening}
use Rattle.tau_replay.specs.declared.view.Part.{Part}
use Rattle.tau_replay.specs.Rule.{Slot, Kept, first_view}
use Rattle.tau_replay.specs.Sound.{AreWorking}
use Rattle.tau_replay.proofs.Steps.{starts}
use Rattle.tau_replay.proofs.lock.Lock.new.Goals as goal

pub new-requires-2 : goal.new-requires-2
new-requires-2 c =
    let items : c.push_reserved.new.self.items ≡ Some c.in_ok-new.field-0 ∷ [] = search rules in
    let same : c.of-about.result.value ≡ c.args.log.now = search rules in
    let boxed : c.args.part ≡ c.in_ok-new.field-0.value = search rules in
    subst (λ (z : List Slot × Log). Kept z.1 (opening (0 ∷ []) z.0 (first_view z.1))) (λ i. (sym items i, sym same i))
    (starts c.args.log.now c.in_ok-new.field-0 (subst (λ (p : Part). AreWorking c.args.log.now p.replay) boxed c.requires.working) (ap (λ (p : Part). p.replay.hands.items) (sym boxed) ∙ c.requires.idle))
