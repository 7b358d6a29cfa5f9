-- What the one catalogue declares.
use Rattle.std.proofs.Common.{◌≡◌, refl, rules, Ok, None, Some}
use Rattle.std.proofs.lemmas.Result.{err_from_is_err_and}
use Rattle.tau_scan.specs.Reading.{catalogue_in, declared_in}
use Rattle.tau_scan.proofs.reading.declarations_of.Goals as goal

pub returns-in_err-one_catalogue : goal.returns-in_err-one_catalogue
unfolding declared_in
returns-in_err-one_catalogue c =
    let p = err_from_is_err_and c.from_residual.result c.from_residual.ensures.1 in
    rw (p.1, p.2, c.in_err-one_catalogue.ensures.err) refl

pub returns-in-None : goal.returns-in-None
unfolding declared_in
returns-in-None c =
    let e : catalogue_in c.args.streams.now ≡ Ok None = search rules in
    rw (e, c.none_declared.ensures) refl

pub returns-in_ok-declarations_in-in-Some : goal.returns-in_ok-declarations_in-in-Some
unfolding declared_in
returns-in_ok-declarations_in-in-Some c =
    let e : catalogue_in c.args.streams.now ≡ Ok (Some c.in-Some.text.now) = search rules in
    rw (e, c.in_ok-declarations_in-in-Some.ensures) refl
