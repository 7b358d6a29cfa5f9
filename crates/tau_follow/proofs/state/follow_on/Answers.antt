-- Nothing is applied yet, and then what is ready.
use Rattle.std.proofs.Common.{◌∙◌, inl, ap, sym, subst, refl, [], List}
use Rattle.tau_follow.specs.declared.spot.Spot.{Spot}
use Rattle.tau_follow.specs.Applying.{AreSpots}
use Rattle.tau_follow.specs.Holding.{HasApplied}
use Rattle.tau_follow.proofs.Fed.{none_passed, all_read}
use Rattle.tau_follow.proofs.state.follow_on.Goals as goal

pub returns-in-Ok : goal.returns-in-Ok
returns-in-Ok c = λ f fed s fronts same stages spots.
    (let begun : HasApplied c.args.streams.now s _ = record {
      news = [];
      now = s;
      applies = refl;
      holds = record {
        streams_are = same;
        format = f;
        fed = fed;
        fronts = fronts ∙ ap all_read same;
        staged = record { stages_are = stages; passed = none_passed _ _ c.in_ok-firsts.ensures; kept = inl c.new.ensures };
        spots = subst (λ (l : List Spot). AreSpots s.streams l s.order) (sym c.in_ok-order.ensures.items) spots;
      };
    } in
    (c.in-Ok.ensures.ok s begun (inl refl), c.in-Ok.ensures.told s begun (inl refl)))
