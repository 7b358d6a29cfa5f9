use Rattle.std.proofs.Common.{ℕ, ◌≡◌, ◌∙◌, List, ◌++◌, map, length, sym, ap, subst, arith}
use Rattle.std.specs.Prelude.{Some, Ok}
use Rattle.tau_base.specs.declared.format.Format.TheVariants.{One}
use Rattle.tau_disk.specs.declared.memory.MemDisk.{MemDisk}
use Rattle.tau_disk.specs.Memory.{seen_by}
use Rattle.tau_text.specs.declared.load.Workload.{Workload}
use Rattle.tau_text.specs.Kept.{AreCalls}
use Rattle.tau_scan.specs.declared.log.Log.{Log}
use Rattle.tau_scan.specs.Reading.{log_of}
use Rattle.tau_scan.specs.Taken.{Kept}
use Rattle.tau_replay.specs.Redone.{IsOrderOf}
use Rattle.tau_report.specs.Report.{ack_lines}
use Rattle.tau_run.specs.CoreRun.{IsSoundLoad}
use Rattle.tau_gen.specs.Generated.{generated}
use Rattle.tau_gen.proofs.BenchDeclared.{are_calls}
use Rattle.tau_engine.specs.Bench.{AreFound, lines_in}
use Rattle.tau_commands.proofs.Oks.{if_ok}
use Rattle.tau_engine.proofs.BenchFound.{acks_are, rows_are, found_are, can_recover}
use Rattle.tau_engine.proofs.BenchLines.{in_acks}
use Rattle.tau_engine.proofs.BenchSound.{sound_generated, text_is}
use Rattle.tau_engine.proofs.Drilled.{image_left}
use Rattle.tau_engine.proofs.bench.measure_on.Goals as goal

pub play-requires-clause-sound : goal.play-requires-clause-sound
play-requires-clause-sound g c κs within = subst (λ (l : Workload). IsSoundLoad l) (sym c.requires.load) (sound_generated c.args.job.start c.args.job.calls)

pub play-requires-clause-calls : goal.play-requires-clause-calls
play-requires-clause-calls g c κs within = subst (λ (l : Workload). AreCalls l.declarations.procs l.calls) (sym c.requires.load) (are_calls c.args.job.start c.args.job.calls c.requires.calls)

pub recovered-requires-clause-ordered : goal.recovered-requires-clause-ordered
recovered-requires-clause-ordered g c κs within =
    let old_count : length c.args.disks.now.items ≡ c.args.job.streams = (let e = c.requires.count in omega (arith, e)) in
    let new_count : length c.play.new.disks.items ≡ c.args.job.streams = (let e = c.in_ok-rows.ensures.count in omega (arith, e)) in
    subst (λ (ds : List MemDisk). (log : Log) × (log_of (Some One) (map seen_by ds) ≡ Ok log) × (order : List Kept) × IsOrderOf log order) (sym c.as_mut_slice.ensures.value)
    (can_recover tt image_left c.args.job.streams c.args.job.workers c.args.job.start c.args.job.calls c.requires.calls c.args.load.now c.requires.load c.args.disks.now.items c.play.new.disks.items old_count new_count _ c.in_ok-rows.rows c.in_ok-rows.ensures.told)

pub returns : goal.returns
returns g c =
    let old_count : length c.args.disks.now.items ≡ c.args.job.streams = (let e = c.requires.count in omega (arith, e)) in
    let new_count : length c.play.new.disks.items ≡ c.args.job.streams = (let e = c.in_ok-rows.ensures.count in omega (arith, e)) in
    let rows = rows_are tt image_left c.args.job.streams c.args.job.workers c.args.job.start c.args.job.calls c.requires.calls c.args.load.now c.requires.load c.args.disks.now.items c.play.new.disks.items old_count new_count _ c.in_ok-rows.rows c.in_ok-rows.ensures.told in
    let acks = acks_are tt image_left c.args.job.streams c.args.job.workers c.args.job.start c.args.job.calls c.requires.calls c.args.load.now c.requires.load c.args.disks.now.items c.play.new.disks.items old_count new_count _ c.in_ok-rows.rows c.in_ok-rows.ensures.told in
    let again = found_are tt image_left c.args.job.streams c.args.job.workers c.args.job.start c.args.job.calls c.requires.calls c.args.load.now c.requires.load c.args.disks.now.items c.play.new.disks.items old_count new_count _ c.in_ok-rows.rows c.in_ok-rows.ensures.told
    c.in_ok-again.again (subst (λ (ds : List MemDisk). AreFound ds c.in_ok-again.again) c.as_mut_slice.ensures.value c.in_ok-again.ensures) in
    let told = c.in_ok-rows.ensures.told.rehearsed.acked tt ∙ ap (λ (h : List ℕ). h ++ ack_lines c.in_ok-rows.ensures.told.rehearsed.facts.run.acks) c.requires.empty in
    let acked : c.lines_in-acked.result ≡ c.args.job.calls = c.lines_in-acked.ensures ∙ ap lines_in (c.bytes.ensures ∙ told) ∙ in_acks c.in_ok-rows.ensures.told.rehearsed.facts.run.acks ∙ acks in
    if_ok c.measured_text.result
    (λ text e. e ∙ text_is c.args.load.now.declarations.tables (generated c.args.job.start c.args.job.calls).declarations.tables c.args.job.calls c.lines_in-acked.result c.in_ok-rows.rows c.in_ok-again.again _ (ap (λ (l : Workload). l.declarations.tables) c.requires.load) acked rows again)
    c.measured_text.ensures
