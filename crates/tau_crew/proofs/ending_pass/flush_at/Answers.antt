use Rattle.std.proofs.Common.{length, refl}
use Rattle.std.proofs.lemmas.Option.{slice_get_read}
use Rattle.tau_crew.proofs.EndPasses.{back_at, manage_at, managers_set, stream_at, there_at}
use Rattle.tau_crew.proofs.ending_pass.flush_at.Goals as goal

pub run-requires-clause-own : goal.run-requires-clause-own
run-requires-clause-own g c = let (bases, ws, m) = c.requires.managers in (back_at c.args.desk.now.table.shared.key.value c.args.desk.now.table.shared.table_id bases ws c.args.jobs.now.items m c.args.stream c.index_mut.result.now (slice_get_read c.args.jobs.now.items (length c.args.jobs.now.items) c.args.stream c.index_mut.result.now refl c.requires.there c.index_mut.ensures.value)).own

pub run-requires-clause-opened : goal.run-requires-clause-opened
run-requires-clause-opened g c = let (bases, ws, m) = c.requires.managers in (back_at c.args.desk.now.table.shared.key.value c.args.desk.now.table.shared.table_id bases ws c.args.jobs.now.items m c.args.stream c.index_mut.result.now (slice_get_read c.args.jobs.now.items (length c.args.jobs.now.items) c.args.stream c.index_mut.result.now refl c.requires.there c.index_mut.ensures.value)).opened

pub run-requires-clause-stream : goal.run-requires-clause-stream
run-requires-clause-stream g c = let (bases, ws, m) = c.requires.managers in stream_at c.args.desk.now.table.shared.key.value c.args.desk.now.table.shared.table_id bases ws c.args.jobs.now.items m c.args.stream c.index_mut.result.now (slice_get_read c.args.jobs.now.items (length c.args.jobs.now.items) c.args.stream c.index_mut.result.now refl c.requires.there c.index_mut.ensures.value)

pub run-requires-clause-there : goal.run-requires-clause-there
run-requires-clause-there g c = let (bases, ws, m) = c.requires.managers in there_at c.args.desk.now.table.shared.key.value c.args.desk.now.table.shared.table_id bases ws c.args.jobs.now.items m c.args.stream c.index_mut.result.now (slice_get_read c.args.jobs.now.items (length c.args.jobs.now.items) c.args.stream c.index_mut.result.now refl c.requires.there c.index_mut.ensures.value) c.args.desk.now.load c.args.desk.now.same_load c.requires.run

pub run-requires-clause-manages : goal.run-requires-clause-manages
run-requires-clause-manages g c = let (bases, ws, m) = c.requires.managers in manage_at c.args.desk.now.table.shared.key.value c.args.desk.now.table.shared.table_id bases ws c.args.jobs.now.items m c.args.stream c.index_mut.result.now (slice_get_read c.args.jobs.now.items (length c.args.jobs.now.items) c.args.stream c.index_mut.result.now refl c.requires.there c.index_mut.ensures.value)

pub returns : goal.returns
returns g c = record { managers = λ bases ws m. managers_set c.args.desk.now.table.shared.key.value c.args.desk.now.table.shared.table_id bases ws c.args.jobs.now.items m c.args.stream c.index_mut.result.now (slice_get_read c.args.jobs.now.items (length c.args.jobs.now.items) c.args.stream c.index_mut.result.now refl c.requires.there c.index_mut.ensures.value) c.run.new.self c.run.ensures.keeps c.run.ensures.own }
