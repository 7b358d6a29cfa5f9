-- One more key is marked.
use Rattle.std.proofs.Common.{true, refl, ap, cond, get_or, ◌∙◌}
use Rattle.tau_base.specs.Database.{same_key}
use Rattle.tau_inspect.specs.declared.taint.Mark.{Mark}
use Rattle.tau_inspect.specs.Marks.{marks_of}
use Rattle.tau_inspect.proofs.Marked.{written_more}
use Rattle.tau_inspect.proofs.taint.Taint.mark_written.Goals as goal

pub loop-i-preserved : goal.loop-i-preserved
loop-i-preserved c =
    let r = c.index-rows-i.result in
    written_more c.args.rows.now c.loop-i.i r c.loop-i-test.true (marks_of c.args.self.now) (marks_of c.loop-i.self) (marks_of c.put.new.self) (get_or c.args.rows.now c.loop-i.i r).0
    refl c.loop-i.invariant
    (λ q. c.in_ok-put.ensures q ∙ ap (λ (m : Mark). cond (same_key q (get_or c.args.rows.now c.loop-i.i r).0) (record { read = m.read; written = true }) (marks_of c.loop-i.self q)) c.at-mark.ensures)
