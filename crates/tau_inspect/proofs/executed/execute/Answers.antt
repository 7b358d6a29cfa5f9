-- One more call is executed.
use Rattle.std.proofs.Common.{◌++◌, ◌∷◌, [], take, map, sym, ap, ◌∙◌}
use Rattle.std.specs.Prelude.{IsTrue}
use Rattle.tau_base.specs.Database.{Db, written}
use Rattle.tau_proc.specs.Meaning.{meaning}
use Rattle.tau_model.specs.Store.{database}
use Rattle.tau_proc.specs.Takes.{takes}
use Rattle.tau_inspect.specs.Executed.{rows_after}
use Rattle.tau_inspect.specs.KeptDone.{done_in}
use Rattle.tau_inspect.proofs.Histories.{rows_more, acts_more, call_there}
use Rattle.tau_inspect.proofs.Recorded.{of_all}
use Rattle.tau_inspect.proofs.executed.execute.Goals as goal

pub go_on-requires-clause-taken : goal.go_on-requires-clause-taken
go_on-requires-clause-taken c = of_all (λ x. IsTrue (takes c.args.procs.now x)) c.args.calls.now _ c.put_into.new.place c.requires.taken c.put_into.ensures

pub loop-i-preserved : goal.loop-i-preserved
loop-i-preserved c =
    let procs = c.args.procs.now in let calls = c.args.calls.now in let order = c.args.order.now in let i = c.loop-i.i in
    let call = c.put_into.new.place in
    let is = call_there calls _ call c.put_into.ensures in
    let before : Db = database c.loop-i.all.store in
    record {
      within = c.in_ok-go_on.ensures.within;
      done = c.in_ok-go_on.ensures.done ∙ ap (λ (db : Db). map (done_in c.loop-i.all.rows.items) c.loop-i.all.extents.items ++ meaning procs call db ∷ []) c.loop-i.invariant.rows
          ∙ ap (λ l. l ++ meaning procs call (rows_after procs calls (take i order)) ∷ []) c.loop-i.invariant.done
          ∙ sym (acts_more procs calls order i call c.loop-i-test.true is);
      rows = c.in_ok-go_on.ensures.rows ∙ ap (λ (db : Db). written (meaning procs call db).writes db) c.loop-i.invariant.rows
          ∙ sym (rows_more procs calls order i call c.loop-i-test.true is);
    }
