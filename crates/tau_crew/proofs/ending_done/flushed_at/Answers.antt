use Rattle.std.proofs.Common.{◌≡◌, ◌∙◌, false, length, refl, subst, sym, arith}
use Rattle.std.specs.Prelude.{Some}
use Rattle.std.proofs.lemmas.Option.{slice_get_read}
use Rattle.tau_stream.specs.Writer.{has_failed}
use Rattle.tau_crew.specs.declared.manager.ManagerJob.{ManagerJob}
use Rattle.tau_crew.specs.EndLeft.{HasGatheredAll}
use Rattle.tau_crew.proofs.EndPasses.{back_at, stream_at}
use Rattle.tau_crew.proofs.ending_done.flushed_at.Goals as goal

pub is_flushed-requires-clause-stream : goal.is_flushed-requires-clause-stream
is_flushed-requires-clause-stream g c = let (bases, ws, m) = c.requires.managers in stream_at c.args.desk.now.table.shared.key.value c.args.desk.now.table.shared.table_id bases ws c.args.jobs.now.items m c.args.stream c.index.result.now (slice_get_read c.args.jobs.now.items (length c.args.jobs.now.items) c.args.stream c.index.result.now refl c.requires.there c.index.ensures)

pub is_flushed-requires-clause-there : goal.is_flushed-requires-clause-there
is_flushed-requires-clause-there g c =
    let (bases, ws, m) = c.requires.managers in
    let at = (back_at c.args.desk.now.table.shared.key.value c.args.desk.now.table.shared.table_id bases ws c.args.jobs.now.items m c.args.stream c.index.result.now (slice_get_read c.args.jobs.now.items (length c.args.jobs.now.items) c.args.stream c.index.result.now refl c.requires.there c.index.ensures)).stream in
    let lt = c.requires.there in
    let count = m.count in
    let streams = c.args.desk.now.streams_are.0 in
    omega (arith, at, lt, count, streams)

pub returns-clause-all : goal.returns-clause-all
returns-clause-all g c = λ yes job is.
    let got = slice_get_read c.args.jobs.now.items (length c.args.jobs.now.items) c.args.stream c.index.result.now refl c.requires.there c.index.ensures in
    let same : c.index.result.now ≡ job = (let e : Some c.index.result.now ≡ Some job = sym got ∙ is in cc e) in
    subst (λ (x : ManagerJob g.row.D.Denot g.D.Disk). has_failed x.writer ≡ false → HasGatheredAll c.args.desk.now.table.shared.key.value c.args.head.now x.seat) same (c.is_flushed.ensures.all yes)
