-- The marks of one stream more.
use Rattle.std.proofs.Common.{ℕ, ◌+◌, ◌<◌, List, drop, length, ap, sym, ◌∙◌, arith}
use Rattle.tau_epoch.specs.Epochs.{Mark}
use Rattle.tau_scan.specs.Epochs.{marks_from, with_marks}
use Rattle.tau_scan.proofs.Streams.{read_as}
use Rattle.tau_scan.proofs.Marks.{known_stream}
use Rattle.tau_scan.proofs.judge.known_in.Goals as goal

pub loop-records-preserved : goal.loop-records-preserved
loop-records-preserved c =
    let i : ℕ = c.loop-records.records-index in
    let lt : i < length c.args.streams.now = omega (arith, c.loop-records-test.true) in
    let here = read_as c.args.streams.now i c.records-item.result c.as_slice.result.now lt c.records-item.is c.as_slice.ensures in
    ap (λ (ms : List Mark). with_marks ms (marks_from (drop (i + 1) c.args.streams.now))) c.in_ok-know_stream.ensures
    ∙ sym (known_stream c.loop-records.known c.args.streams.now i c.as_slice.result.now here) ∙ c.loop-records.invariant
