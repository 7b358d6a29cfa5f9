use Rattle.std.proofs.Common.{◌≡◌, true, ◌++◌, ◌∷◌, [], IsTrue, arith}
use Rattle.std.proofs.lemmas.Grind.{common_steps}
use Rattle.tau_base.specs.declared.value.Call.{Call}
use Rattle.tau_proc.specs.Takes.{takes}
use Rattle.tau_text.specs.Quick.{IsCallLine}
use Rattle.tau_text.proofs.Begins.{one_more_call}
use Rattle.tau_text.proofs.OnePass.{call_line}
use Rattle.tau_text.proofs.parse.line_taken.Goals as goal

pub quick_call-requires-clause-tables : goal.quick_call-requires-clause-tables
quick_call-requires-clause-tables c = rw c.as_slice.ensures c.requires.names.tables

pub quick_call-requires-clause-procs : goal.quick_call-requires-clause-procs
quick_call-requires-clause-procs c = rw c.list.ensures.same c.requires.names.procs

pub returns-in-Ok-clause-read : goal.returns-in-Ok-clause-read
returns-in-Ok-clause-read c =
    let s = c.args.s.now in
    let call : Call = c.quick_call.new.call in
    let on : c.takes_calls.result ≡ true = grind (arith, common_steps) in
    let e : c.push.new.self ≡ s.calls ++ call ∷ [] = grind (arith, common_steps) in
    let line : IsCallLine s.tables s.procs c.args.text.now call c.in-Some.rest.now = rw (c.as_slice.ensures, c.list.ensures.same) at c.in-Some.ensures.read in
    rw e (call_line s c.args.n c.args.text.now c.in-Some.rest.now call line (c.takes_calls.ensures.outside on) (c.takes_calls.ensures.before on) (c.takes_calls.ensures.room on))

pub returns-in-Ok-clause-within : goal.returns-in-Ok-clause-within
returns-in-Ok-clause-within c =
    let s = c.args.s.now in
    let w = c.requires.within in
    let call : Call = c.quick_call.new.call in
    let on : c.takes_calls.result ≡ true = grind (arith, common_steps) in
    let e : c.push.new.self ≡ s.calls ++ call ∷ [] = grind (arith, common_steps) in
    let taken : IsTrue (takes s.procs call) = rw c.list.ensures.same at c.in-Some.ensures.taken in
    record {
      tables = w.tables;
      size = w.size;
      begun = rw (c.takes_calls.ensures.outside on) tt;
      calls = rw e (one_more_call s.procs s.calls call w.calls taken (c.takes_calls.ensures.room on));
      turns = w.turns;
    }
