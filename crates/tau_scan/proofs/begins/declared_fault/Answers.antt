use Rattle.std.proofs.Common.{ℕ, suc, List, drop, ap, sym, ◌∙◌}
use Rattle.std.specs.Prelude.{Option}
use Rattle.tau_record.specs.declared.entry.Placed.{Placed}
use Rattle.tau_scan.specs.Begins.{declared_fault, if_declared}
use Rattle.tau_scan.proofs.Streams.{read_as}
use Rattle.tau_base.proofs.Lists.{drop_at}
use Rattle.tau_scan.proofs.begins.declared_fault.Goals as goal

pub returns-in-Some : goal.returns-in-Some
returns-in-Some c =
    let here = read_as c.args.streams.now c.loop-j.j c.index-streams-j.result c.as_slice.result.now c.loop-j-test.true c.index-streams-j.is c.as_slice.ensures in
    let rest = declared_fault c.args.text.now (suc c.loop-j.j) (drop (suc c.loop-j.j) c.args.streams.now) in
    c.other_declared.ensures rest
    ∙ ap (λ (found : Option (List ℕ)). if_declared c.args.text.now c.loop-j.j found rest) (sym c.in-Some.ensures.some)
    ∙ ap (λ (streams : List (List Placed)). declared_fault c.args.text.now c.loop-j.j streams) (sym (drop_at c.args.streams.now c.loop-j.j c.as_slice.result.now here))
    ∙ sym c.loop-j.invariant
