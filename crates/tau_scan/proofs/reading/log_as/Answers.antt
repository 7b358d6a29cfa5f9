-- The contents, and their log.
use Rattle.std.proofs.Common.{◌≡◌, List, length, Ok, sym, subst, ◌∙◌, ap, arith}
use Rattle.std.proofs.lemmas.Result.{err_from_is_err_and}
use Rattle.tau_block.specs.declared.content.Content.{Content}
use Rattle.tau_scan.specs.Contents.{bytes_in, IsLogOf}
use Rattle.tau_scan.specs.Reading.{contents_of, log_as}
use Rattle.tau_scan.proofs.Streams.{lost_here}
use Rattle.tau_scan.proofs.reading.log_as.Goals as goal

pub returns-in_err-contents-clause-same : goal.returns-in_err-contents-clause-same
unfolding log_as
returns-in_err-contents-clause-same c =
    let p = err_from_is_err_and c.from_residual.result c.from_residual.ensures.1 in
    rw (p.1, p.2) (lost_here c.in_err-contents.field-0.0 (contents_of c.args.format c.args.images.now) _ c.in_err-contents.ensures.same)

pub returns-in_err-log-clause-same : goal.returns-in_err-log-clause-same
unfolding log_as
returns-in_err-log-clause-same c =
    let contents : contents_of c.args.format c.args.images.now ≡ Ok (bytes_in c.as_slice.result.now) = c.in_ok-contents.ensures.same ∙ ap (λ (xs : List Content). Ok (bytes_in xs)) (sym c.as_slice.ensures) in
    let p = err_from_is_err_and c.from_residual-in_err-log.result c.from_residual-in_err-log.ensures.1 in
    rw (p.1, p.2, contents) c.in_err-log.ensures.same

pub returns-clause-same : goal.returns-clause-same
unfolding log_as
returns-clause-same c =
    let contents : contents_of c.args.format c.args.images.now ≡ Ok (bytes_in c.as_slice.result.now) = c.in_ok-contents.ensures.same ∙ ap (λ (xs : List Content). Ok (bytes_in xs)) (sym c.as_slice.ensures) in
    rw contents c.in_ok-log.ensures.same

pub returns-clause-theirs : goal.returns-clause-theirs
returns-clause-theirs c = subst (λ (xs : List Content). IsLogOf c.args.format xs c.in_ok-log.log) c.as_slice.ensures c.in_ok-log.ensures.theirs

pub log_of_contents-requires-clause-room : goal.log_of_contents-requires-clause-room
log_of_contents-requires-clause-room c =
    let fits = c.requires.room (bytes_in c.in_ok-contents.contents) c.in_ok-contents.ensures.same in
    omega (arith, fits, c.in_ok-contents.ensures.are.many, ap (λ (xs : List Content). length xs) c.as_slice.ensures)
