-- The lines of one stream more.
use Rattle.std.proofs.Common.{ℕ, ◌<◌, ◌++◌, List, length, ap, ◌∙◌, arith}
use Rattle.tau_record.specs.declared.entry.Placed.{Placed}
use Rattle.tau_scan.specs.Epochs.{vector_by}
use Rattle.tau_inspect.specs.Inspection.{stream_lines}
use Rattle.tau_report.proofs.Taken.{added}
use Rattle.tau_inspect.proofs.Inspected.{stream_more}
use Rattle.tau_inspect.proofs.inspect.put_streams.Goals as goal

pub loop-records-preserved : goal.loop-records-preserved
loop-records-preserved c =
    let judge : ℕ → List ℕ = vector_by c.args.judge.now in
    let i : ℕ = c.loop-records.records-index in
    let lt : i < length c.args.streams.now = omega (arith, c.loop-records-test.true) in
    let put = c.in_ok-put_stream.ensures
    ∙ ap (λ (j : ℕ). c.loop-records.out.items ++ stream_lines judge j 0 c.as_slice.result.now) c.loop-records.invariant.counted
    ∙ ap (λ (ps : List Placed). c.loop-records.out.items ++ stream_lines judge i 0 ps) (c.as_slice.ensures ∙ c.records-item.is) in
    record {
      counted = omega (arith, c.loop-records.invariant.counted);
      text = added _ _ _ _ _ _ c.loop-records.invariant.text (stream_more judge c.args.streams.now i c.records-item.result lt) put;
    }
