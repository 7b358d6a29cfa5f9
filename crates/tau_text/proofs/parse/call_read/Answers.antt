use Rattle.std.proofs.Common.{◌≡◌, ◌<◌, ◌++◌, ◌∷◌, [], length, IsTrue, arith}
use Rattle.std.proofs.lemmas.Grind.{common_steps}
use Rattle.tau_base.specs.declared.limits.TheConstants.{MAX_CALLS}
use Rattle.tau_base.specs.declared.value.Call.{Call}
use Rattle.tau_proc.specs.Takes.{takes}
use Rattle.tau_text.specs.Forms.{call_of}
use Rattle.tau_text.proofs.Begins.{one_more_call}
use Rattle.tau_text.proofs.parse.call_read.Goals as goal

pub returns-clause-within : goal.returns-clause-within
returns-clause-within c =
    let s = c.args.s.now in
    let w = c.requires.within in
    let call : Call = call_of c.in_ok-proc.proc c.call_line.new.args.items in
    let lt : length s.calls < MAX_CALLS = omega arith in
    let taken : IsTrue (takes s.procs call) = rw c.list.ensures.same at c.in_ok-proc.ensures.taken in
    let e : c.push.new.self ≡ s.calls ++ call ∷ [] = grind (arith, common_steps) in
    record {
      tables = w.tables;
      size = w.size;
      begun = rw c.requires.outside tt;
      calls = rw e (one_more_call s.procs s.calls call w.calls taken lt);
      turns = w.turns;
    }
