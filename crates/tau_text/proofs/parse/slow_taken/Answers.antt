use Rattle.tau_text.proofs.Texts.{slow_line, slow_bad}
use Rattle.tau_text.proofs.parse.slow_taken.Goals as goal

pub returns-in-Ok-clause-read : goal.returns-in-Ok-clause-read
returns-in-Ok-clause-read c =
    let f = c.first_line in
    slow_line c.args.s.now c.line_read.new.s c.args.n c.args.text.now f.result.0.now f.result.1.now f.ensures.cut f.ensures.body f.ensures.utf8 f.ensures.shorter c.in-Ok.ensures.given

pub returns-in-Err-clause-bad : goal.returns-in-Err-clause-bad
returns-in-Err-clause-bad c =
    let f = c.first_line in
    slow_bad c.in-Err.e c.args.s.now c.args.n c.args.text.now f.result.0.now f.result.1.now f.ensures.cut f.ensures.body c.in-Err.ensures.given
