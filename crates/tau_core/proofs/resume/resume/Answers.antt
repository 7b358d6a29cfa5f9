use Rattle.std.proofs.Common.{◌≡◌, true, Option, refl, subst}
use Rattle.tau_core.specs.declared.resume.LeftOver.{LeftOver}
use Rattle.tau_core.specs.LeftOvers.{IsLowestOf}
use Rattle.tau_core.proofs.resume.resume.Goals as goal

pub returns-in-Some : goal.returns-in-Some
returns-in-Some c =
    let yes : c.all_rest.result ≡ true = c.if-not-all_rest.false in
    (c.in-Some.left, refl, c.all_rest.ensures.all yes, subst (λ (o : Option LeftOver). IsLowestOf c.args.state.now.seats.items o) c.in-Some.is c.lowest.ensures, c.take_back.ensures)
