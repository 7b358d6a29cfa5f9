use Rattle.std.proofs.Common.{◌≡◌, ◌+◌, ◌∙◌, [], List, ℕ, take, ap, subst}
use Rattle.std.specs.Prelude.{Some, None}
use Rattle.std.proofs.lemmas.List.{take_rest}
use Rattle.tau_commands.specs.Cut.{begun_by, cut_at_report, cut_past_line}
use Rattle.tau_commands.proofs.Cutting.{passed_on, passed_here, passed_none, found_at}
use Rattle.tau_commands.proofs.cut.cut_at_report.Goals as goal

pub returns-in-Some-after_report : goal.returns-in-Some-after_report
returns-in-Some-after_report c =
    let t = c.args.text.now in
    let next = c.loop-end.at + (c.in-Some-find.end + 1) in
    let on = passed_on t c.loop-end.at c.in-Some-find.end c.loop-end.invariant (found_at t c.as_slice.result.now c.loop-end.at (Some c.in-Some-find.end) c.as_slice.ensures c.in-Some-find.ensures) in
    passed_here t c.in-Some-after_report.after.now next on.1 (subst (λ (l : List ℕ). cut_at_report l ≡ Some ([], c.in-Some-after_report.after.now)) (take_rest t next) c.in-Some-after_report.ensures)

pub loop-end-preserved : goal.loop-end-preserved
loop-end-preserved c =
    let t = c.args.text.now in
    let next = c.loop-end.at + (c.in-Some-find.end + 1) in
    let on = passed_on t c.loop-end.at c.in-Some-find.end c.loop-end.invariant (found_at t c.as_slice.result.now c.loop-end.at (Some c.in-Some-find.end) c.as_slice.ensures c.in-Some-find.ensures) in
    record {
      within = on.0;
      same = on.1 ∙ ap (begun_by (take next t)) (subst (λ (l : List ℕ). cut_at_report l ≡ cut_past_line l) (take_rest t next) c.in_default-after_report.ensures);
    }

pub returns : goal.returns
returns c =
    let t = c.args.text.now in
    passed_none t c.loop-end.at c.loop-end.invariant (found_at t c.as_slice.result.now c.loop-end.at None c.as_slice.ensures c.in_default-find.ensures)
