-- The lines of one record more, and of all of them.
use Rattle.std.proofs.Common.{ℕ, List, ◌++◌, refl}
use Rattle.tau_record.specs.Record.{epoch_after}
use Rattle.tau_scan.specs.Epochs.{vector_by}
use Rattle.tau_inspect.specs.Inspection.{stream_lines}
use Rattle.tau_inspect.proofs.Inspected.{record_told, records_told}
use Rattle.tau_inspect.proofs.inspect.put_stream.Goals as goal

pub loop-placed-init : goal.loop-placed-init
loop-placed-init c = (0, c.vector-lv.ensures, refl)

pub loop-placed-preserved : goal.loop-placed-preserved
loop-placed-preserved c =
    let so_far = c.loop-placed.invariant in
    let whole : List ℕ = c.args.out.now.items ++ stream_lines (vector_by c.args.judge.now) c.args.stream 0 c.args.records.now in
    let p = c.placed-item.result in (
      epoch_after so_far.0 p.entry,
      c.pass.ensures so_far.0 so_far.1,
      record_told (vector_by c.args.judge.now) c.args.stream so_far.0 c.args.records.now c.loop-placed.placed-index p c.loop-placed.lv whole c.loop-placed.out.items c.put_record.new.out.items
          c.loop-placed-test.true c.placed-item.is so_far.1 so_far.2 c.in_ok-put_record.ensures,
    )

pub returns : goal.returns
returns c =
    let so_far = c.loop-placed.invariant in
    records_told (vector_by c.args.judge.now) c.args.stream so_far.0 c.args.records.now c.loop-placed.placed-index (c.args.out.now.items ++ stream_lines (vector_by c.args.judge.now) c.args.stream 0 c.args.records.now) c.loop-placed.out.items c.loop-placed-test.false so_far.2
