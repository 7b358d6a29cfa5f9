-- The stream is followed so far, and what waited for it is looked at.
use Rattle.std.proofs.Common.{inl, refl, sym, subst, ◌∙◌, ap, List}
use Rattle.tau_follow.specs.declared.stage.Stage.{Stage}
use Rattle.tau_follow.specs.Applying.{ArePassed, reaches}
use Rattle.tau_follow.proofs.Holding.{step_kept, kept_passed, others_stay, that_is}
use Rattle.tau_follow.proofs.applier.Applier.pass.Goals as goal

pub returns-in_default-clause-applied : goal.returns-in_default-clause-applied
returns-in_default-clause-applied c = λ s d. step_kept c.args.streams.now s c.args.self.now _ c.as_slice.result.now d c.as_slice.ensures.value c.in_default.ensures.passed refl refl (λ k. k)

pub returns-in-Ok-pass-clause-applied : goal.returns-in-Ok-pass-clause-applied
returns-in-Ok-pass-clause-applied c = λ s d.
    step_kept c.args.streams.now s c.args.self.now _ c.as_slice.result.now d c.as_slice.ensures.value c.in-Ok.ensures.passed refl refl
    (kept_passed c.args.streams.now c.args.self.now.stages.items c.args.self.now.waits c.pass.new.self c.pass.ensures.lost (c.in-Ok-pass.ensures.found c.args.streams.now c.args.self.now.stages.items))

pub returns-in-Err-clause-applied : goal.returns-in-Err-clause-applied
returns-in-Err-clause-applied c = λ s d. step_kept c.args.streams.now s c.args.self.now _ c.as_slice.result.now d c.as_slice.ensures.value c.in-Ok.ensures.passed refl refl (λ k. inl c.lose.ensures)

pub returns-in-Ok-pass-clause-known : goal.returns-in-Ok-pass-clause-known
returns-in-Ok-pass-clause-known c = λ s before ss d is was found above.
    (let lent = c.as_slice.ensures.value in
    let holds = d.holds in
    let staged = holds.staged in
    let passed : ArePassed c.as_slice.result.now c.args.self.now.firsts.items = subst (λ (l : List (List Stage)). ArePassed l c.args.self.now.firsts.items) (sym lent) staged.passed in
    let at = c.in-Ok.ensures.at in
    record {
      reached_is = c.in-Ok.ensures.reached before ss passed (lent ∙ is) was ∙ ap (reaches c.args.streams.now) lent;
      found = c.in-Ok-pass.ensures.found c.args.streams.now c.args.self.now.stages.items found;
      above = c.in-Ok-pass.ensures.above c.args.reached.now.items c.renew_reach.new.reached.items above (that_is c.args.reached.now.items c.renew_reach.new.reached.items c.args.j c.in-Ok.at at.0 at.1) (others_stay c.args.reached.now.items c.renew_reach.new.reached.items c.args.j c.in-Ok.at at.0);
    })

pub returns-in-Ok-pass-clause-known_on : goal.returns-in-Ok-pass-clause-known_on
returns-in-Ok-pass-clause-known_on c = λ s old before ps ss d read is was found above.
    (let lent = c.as_slice.ensures.value in
    let holds = d.holds in
    let staged = holds.staged in
    let passed : ArePassed c.as_slice.result.now c.args.self.now.firsts.items = subst (λ (l : List (List Stage)). ArePassed l c.args.self.now.firsts.items) (sym lent) staged.passed in
    let at = c.in-Ok.ensures.at in
    record {
      reached_is = c.in-Ok.ensures.reached_on old before ps ss passed read (lent ∙ is) was ∙ ap (reaches c.args.streams.now) lent;
      found = c.in-Ok-pass.ensures.found c.args.streams.now c.args.self.now.stages.items found;
      above = c.in-Ok-pass.ensures.above c.args.reached.now.items c.renew_reach.new.reached.items above (that_is c.args.reached.now.items c.renew_reach.new.reached.items c.args.j c.in-Ok.at at.0 at.1) (others_stay c.args.reached.now.items c.renew_reach.new.reached.items c.args.j c.in-Ok.at at.0);
    })
