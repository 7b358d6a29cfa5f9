-- The marks of one stream more.
use Rattle.std.proofs.Common.{ℕ, ◌≡◌, ◌<◌, ◌+◌, ◌-◌, List, drop, length, sym, ap, ◌∙◌, arith}
use Rattle.tau_epoch.specs.Epochs.{Mark}
use Rattle.tau_scan.specs.Begins.{largest_with}
use Rattle.tau_scan.specs.Epochs.{marks_in, marks_from}
use Rattle.tau_scan.proofs.Streams.{read_as}
use Rattle.tau_scan.proofs.Marks.{streams_here}
use Rattle.tau_scan.proofs.Beginning.{largest_split, largest_is}
use Rattle.tau_scan.proofs.begins.largest_epoch.Goals as goal

pub loop-j-preserved : goal.loop-j-preserved
loop-j-preserved c =
    let k : ℕ = c.loop-j.j - 1 in
    let lt : k < length c.args.streams.now = omega (arith, c.loop-j-test.true, c.loop-j.auto.j) in
    let next : k + 1 ≡ c.loop-j.j = omega (arith, c.loop-j-test.true) in
    let here = read_as c.args.streams.now k c.index-streams-j.result c.as_slice.result.now lt c.index-streams-j.is c.as_slice.ensures in
    c.largest_in-found.ensures
    ∙ ap (λ (n : ℕ). largest_with (marks_in c.as_slice.result.now) n) (c.loop-j.invariant ∙ ap (λ (n : ℕ). largest_with (marks_from (drop n c.args.streams.now)) 0) (sym next))
    ∙ sym (largest_split (marks_in c.as_slice.result.now) (marks_from (drop (k + 1) c.args.streams.now)) 0)
    ∙ ap (λ (ms : List Mark). largest_with ms 0) (sym (streams_here c.args.streams.now k c.as_slice.result.now here))

pub returns : goal.returns
returns c =
    let none : c.loop-j.j ≡ 0 = omega (arith, c.loop-j-test.false) in
    c.loop-j.invariant ∙ ap (λ (n : ℕ). largest_with (marks_from (drop n c.args.streams.now)) 0) none ∙ largest_is (marks_from c.args.streams.now)
