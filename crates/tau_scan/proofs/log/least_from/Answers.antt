-- The marks of one stream more.
use Rattle.std.proofs.Common.{ℕ, ◌≡◌, ◌<◌, ◌+◌, ◌-◌, drop, length, sym, ap, ◌∙◌, arith}
use Rattle.std.specs.Prelude.{None}
use Rattle.tau_scan.specs.Epochs.{marks_in, marks_from, least_number}
use Rattle.tau_scan.proofs.Streams.{read_as}
use Rattle.tau_scan.proofs.Marks.{least_there}
use Rattle.tau_scan.proofs.log.least_from.Goals as goal

pub loop-j-preserved : goal.loop-j-preserved
loop-j-preserved c =
    let k : ℕ = c.loop-j.j - 1 in
    let lt : k < length c.args.streams.now = omega (arith, c.loop-j-test.true, c.loop-j.auto.j) in
    let next : k + 1 ≡ c.loop-j.j = omega (arith, c.loop-j-test.true) in
    let here = read_as c.args.streams.now k c.index-streams-j.result c.as_slice.result.now lt c.index-streams-j.is c.as_slice.ensures in
    c.least_in-found.ensures
    ∙ ap (least_number c.args.above (marks_in c.as_slice.result.now)) (c.loop-j.invariant ∙ ap (λ (n : ℕ). least_number c.args.above (marks_from (drop n c.args.streams.now)) None) (sym next))
    ∙ sym (least_there c.args.above c.args.streams.now k c.as_slice.result.now None here)
