-- The next stream has the same text, or it is the first with another.
use Rattle.std.proofs.Common.{sym, ◌∙◌, map}
use Rattle.tau_scan.specs.Reading.{catalogue_of}
use Rattle.tau_scan.proofs.Streams.{read_as, map_get, same_here, other_here}
use Rattle.tau_scan.proofs.catalogue.same_text.Goals as goal

pub returns-in-Some-clause-err : goal.returns-in-Some-clause-err
returns-in-Some-clause-err c =
    let here = map_get catalogue_of c.args.streams.now c.loop-j.j c.as_slice.result.now (read_as c.args.streams.now c.loop-j.j c.index-streams-j.result c.as_slice.result.now c.loop-j-test.true c.index-streams-j.is c.as_slice.ensures) in
    c.loop-j.invariant ∙ other_here c.args.with c.args.text.now (map catalogue_of c.args.streams.now) c.loop-j.j (catalogue_of c.as_slice.result.now) c.in-Some.fault here (sym c.other_text.ensures ∙ c.in-Some.is)

pub loop-j-preserved : goal.loop-j-preserved
loop-j-preserved c =
    let here = map_get catalogue_of c.args.streams.now c.loop-j.j c.as_slice.result.now (read_as c.args.streams.now c.loop-j.j c.index-streams-j.result c.as_slice.result.now c.loop-j-test.true c.index-streams-j.is c.as_slice.ensures) in
    c.loop-j.invariant ∙ same_here c.args.with c.args.text.now (map catalogue_of c.args.streams.now) c.loop-j.j (catalogue_of c.as_slice.result.now) here (sym c.other_text.ensures ∙ c.in_default.is)
