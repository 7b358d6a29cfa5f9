-- The first text, and the others.
use Rattle.std.proofs.Common.{◌≡◌, ℕ, List, Option, map, subst, ◌∙◌}
use Rattle.std.specs.Prelude.{Some, slice_get}
use Rattle.tau_scan.specs.Reading.{catalogue_of}
use Rattle.tau_scan.proofs.Streams.{read_as, map_get, text_here}
use Rattle.tau_scan.proofs.catalogue.one_catalogue.Goals as goal

pub returns-in-Ok-clause-some : goal.returns-in-Ok-clause-some
returns-in-Ok-clause-some c =
    let recs = c.as_slice.result.now in
    let there = map_get catalogue_of c.args.streams.now c.in-Some.with recs (read_as c.args.streams.now c.in-Some.with c.index-streams-with.result recs c.in-Some.ensures.some.0 c.index-streams-with.is c.as_slice.ensures) in
    let here = subst (λ (x : Option (List ℕ)). slice_get (map catalogue_of c.args.streams.now) c.in-Some.with ≡ Some x) c.in-Some-catalogue_text.ensures.some there in
    c.in-Some.ensures.some.1 ∙ text_here (map catalogue_of c.args.streams.now) c.in-Some.with c.in-Some-catalogue_text.text.now here ∙ c.in-Ok.ensures.ok

pub returns-in-Err-clause-err : goal.returns-in-Err-clause-err
returns-in-Err-clause-err c =
    let recs = c.as_slice.result.now in
    let there = map_get catalogue_of c.args.streams.now c.in-Some.with recs (read_as c.args.streams.now c.in-Some.with c.index-streams-with.result recs c.in-Some.ensures.some.0 c.index-streams-with.is c.as_slice.ensures) in
    let here = subst (λ (x : Option (List ℕ)). slice_get (map catalogue_of c.args.streams.now) c.in-Some.with ≡ Some x) c.in-Some-catalogue_text.ensures.some there in
    c.in-Some.ensures.some.1 ∙ text_here (map catalogue_of c.args.streams.now) c.in-Some.with c.in-Some-catalogue_text.text.now here ∙ c.in-Err.ensures.err
