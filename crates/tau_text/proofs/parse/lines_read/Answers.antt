use Rattle.std.proofs.Common.{◌≡◌, ◌≤◌, ◌<◌, ◌-◌, length, sym, ◌∙◌, arith}
use Rattle.std.proofs.lemmas.Grind.{common_steps}
use Rattle.tau_base.specs.declared.limits.TheConstants.{MAX_WORKLOAD}
use Rattle.tau_text.specs.Lines.{body, lines}
use Rattle.tau_text.specs.Text.{lines_read, nothing}
use Rattle.tau_text.proofs.NamesKept.{names_kept, nothing_named}
use Rattle.tau_text.proofs.Texts.{reads_on, reads_bad, reads_long, reads_end}
use Rattle.tau_text.proofs.parse.lines_read.Goals as goal

pub returns-in-Err-clause-given : goal.returns-in-Err-clause-given
returns-in-Err-clause-given c =
    rw c.refusal.ensures (reads_bad c.in-Err.e c.loop-rest.s c.loop-rest.n (length c.args.text.now - length c.loop-rest.rest.now) c.loop-rest.rest.now (lines_read nothing 1 0 (lines c.args.text.now)) c.in-Err.ensures.bad c.loop-rest.invariant.so_far)

pub returns-then-text-after-gt-MAX_WORKLOAD-clause-given : goal.returns-then-text-after-gt-MAX_WORKLOAD-clause-given
returns-then-text-after-gt-MAX_WORKLOAD-clause-given c =
    let large : MAX_WORKLOAD < length c.args.text.now - length c.in-Ok.after.now = omega arith in
    rw c.refusal-then-text-after-gt-MAX_WORKLOAD.ensures
    (sym c.loop-rest.invariant.so_far ∙ reads_long c.loop-rest.s c.line_taken.new.s c.loop-rest.n c.args.text.now c.loop-rest.rest.now c.in-Ok.after.now c.in-Ok.ensures.read c.loop-rest.invariant.rest large)

pub loop-rest-preserved : goal.loop-rest-preserved
loop-rest-preserved c =
    let q = c.in-Ok.ensures.read in
    let small : length c.args.text.now - length c.in-Ok.after.now ≤ MAX_WORKLOAD = omega arith in
    record {
      within = c.in-Ok.ensures.within;
      names = names_kept c.loop-rest.s c.line_taken.new.s c.loop-rest.n (body q.line) q.read c.loop-rest.invariant.names;
      rest = omega (arith, q.long, c.loop-rest.invariant.rest);
      past = small;
      utf8 = λ k. q.utf8 (c.loop-rest.invariant.utf8 k);
      count = omega (arith, q.long, q.some, c.loop-rest.invariant.count);
      so_far = sym (reads_on c.loop-rest.s c.line_taken.new.s c.loop-rest.n c.args.text.now c.loop-rest.rest.now c.in-Ok.after.now q c.loop-rest.invariant.rest small) ∙ c.loop-rest.invariant.so_far;
    }

pub returns-clause-given : goal.returns-clause-given
returns-clause-given c =
    let z : length c.loop-rest.rest.now ≡ 0 = grind (arith, common_steps) in
    sym c.loop-rest.invariant.so_far ∙ reads_end c.loop-rest.s c.loop-rest.n (length c.args.text.now - length c.loop-rest.rest.now) c.loop-rest.rest.now z
