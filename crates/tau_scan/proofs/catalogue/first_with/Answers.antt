-- The next stream has no catalogue, or it is the first with one.
use Rattle.std.proofs.Common.{sym, refl, ◌∙◌, map, ◌≡◌, subst, ℕ, List, Option}
use Rattle.std.specs.Prelude.{Some, slice_get}
use Rattle.tau_scan.specs.Reading.{catalogue_of, catalogue_in}
use Rattle.tau_scan.proofs.Streams.{read_as, map_get, no_text_of, a_text_of, no_text_here}
use Rattle.tau_scan.proofs.catalogue.first_with.Goals as goal

pub loop-j-init : goal.loop-j-init
unfolding catalogue_in
loop-j-init c = refl

pub returns-then-has_text-clause-text : goal.returns-then-has_text-clause-text
returns-then-has_text-clause-text c =
    let here = map_get catalogue_of c.args.streams.now c.loop-j.j c.as_slice.result.now (read_as c.args.streams.now c.loop-j.j c.index-streams-j.result c.as_slice.result.now c.loop-j-test.true c.index-streams-j.is c.as_slice.ensures) in
    let found = a_text_of (catalogue_of c.as_slice.result.now) (sym c.has_text.ensures ∙ c.if-has_text.true) in
    (found.0, subst (λ (x : Option (List ℕ)). slice_get (map catalogue_of c.args.streams.now) c.loop-j.j ≡ Some x) found.1 here)

pub loop-j-preserved : goal.loop-j-preserved
loop-j-preserved c =
    let here = map_get catalogue_of c.args.streams.now c.loop-j.j c.as_slice.result.now (read_as c.args.streams.now c.loop-j.j c.index-streams-j.result c.as_slice.result.now c.loop-j-test.true c.index-streams-j.is c.as_slice.ensures) in
    let none = no_text_of (catalogue_of c.as_slice.result.now) (sym c.has_text.ensures ∙ c.if-has_text.false) in
    c.loop-j.invariant ∙ no_text_here (map catalogue_of c.args.streams.now) c.loop-j.j (subst (λ (x : Option (List ℕ)). slice_get (map catalogue_of c.args.streams.now) c.loop-j.j ≡ Some x) none here)
