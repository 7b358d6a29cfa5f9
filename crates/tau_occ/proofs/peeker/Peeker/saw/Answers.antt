use Rattle.std.proofs.Common.{◌≡◌, List, ◌∷◌, ◌++◌, [], sym, ap, subst, ◌∙◌}
use Rattle.std.specs.Prelude.{None}
use Rattle.tau_base.specs.declared.value.Key.{Key}
use Rattle.tau_base.specs.declared.value.Value.{Value}
use Rattle.tau_occ.specs.Peeker.{PlainPeeker, IsPeeking}
use Rattle.tau_occ.proofs.Peeks.{saw_peeking}
use Rattle.tau_occ.proofs.peeker.Peeker.saw.Goals as goal

pub returns-clause-peeks : goal.returns-clause-peeks
returns-clause-peeks c = λ procs call is.
    let p : PlainPeeker = record { machine = c.self.inside.machine; seen = c.self.inside.seen.items; asked = c.self.inside.asked } in
    let items : c.push_reserved.new.self.items ≡ c.self.inside.seen.items ++ (c.in-Some.key, c.args.value) ∷ [] =
    c.push_reserved.ensures.items ∙ ap (λ (l : List (Key × Value)). l ++ (c.in-Some.key, c.args.value) ∷ []) c.in_ok-try_reserve.ensures.items in
    subst (λ (l : List (Key × Value)). IsPeeking procs call (record { machine = c.give_lent.new.self; seen = l; asked = None })) (sym items)
    (saw_peeking procs call p c.in-Some.key c.args.value c.give_lent.new.self (subst (IsPeeking procs call) (sym c.self.view_is) is) c.in-Some.is c.self.invariant
    c.give_lent.ensures.stands c.give_lent.ensures.granted)
