-- The streams are new, and end where the first writer says.
use Rattle.std.proofs.Common.{ℕ, ◌≡◌, ◌<◌, length, refl, sym, ap, ◌∙◌, arith}
use Rattle.std.specs.Prelude.{Some, slice_get}
use Rattle.std.proofs.lemmas.Option.{slice_get_read}
use Rattle.tau_run.specs.Start.{catalogue_of}
use Rattle.tau_crew_runs.proofs.Openings.{begun}
use Rattle.tau_crew_runs.proofs.streams.run_from.Goals as goal

pub run_threads_from-requires-clause-streams : goal.run_threads_from-requires-clause-streams
run_threads_from-requires-clause-streams g c κs = omega (arith, ap (length {A = ℕ}) c.opening-opening.ensures.ends)

pub run_threads_from-requires-clause-begun : goal.run_threads_from-requires-clause-begun
run_threads_from-requires-clause-begun g c κs lives =
    let writers = c.args.writers.now in
    let two : length writers.items ≡ 2 = sym writers.ok.0 ∙ c.requires.two in
    let within : 0 < length writers.items = omega (arith, two) in
    let first : slice_get writers.items 0 ≡ Some c.index.result.now = slice_get_read writers.items (length writers.items) 0 c.index.result.now refl within c.index.ensures in
    let size : length (catalogue_of c.args.load.now) ≡ c.durable.result = sym (c.durable.ensures ∙ (c.requires.fresh 0 c.index.result.now first).durable) in (
      (λ j. catalogue_of c.args.load.now),
      begun c.opening-opening.result c.durable.result c.args.way.anchors c.opening-opening.ensures.ends c.args.load.now writers.items c.requires.fresh two size,
    )
