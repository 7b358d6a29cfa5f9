use Rattle.std.proofs.Common.{◌≡◌, ◌∙◌, sym, ap, subst}
use Rattle.std.specs.Prelude.{IfOk}
use Rattle.tau_occ.specs.declared.style.Style.{Style}
use Rattle.tau_step.specs.Optimists.{blank_peekers}
use Rattle.tau_step.proofs.top.peekers_of.Goals as goal

pub returns-in-Locking : goal.returns-in-Locking
returns-in-Locking c = c.new.ensures.items ∙ sym (ap (λ (s : Style). blank_peekers s c.args.m) c.in-Locking.is)

pub returns-in-Optimistic : goal.returns-in-Optimistic
returns-in-Optimistic c = subst (λ (s : Style). IfOk c.fresh_peekers.result (λ peekers. peekers.items ≡ blank_peekers s c.args.m)) (sym c.in-Optimistic.is) c.fresh_peekers.ensures
