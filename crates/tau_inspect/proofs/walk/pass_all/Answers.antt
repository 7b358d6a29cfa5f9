-- One call more is executed and passed, and in the end all are.
use Rattle.std.proofs.Common.{ℕ, ◌<◌, ◌≡◌, [], List, length, take, drop, get_or, refl, sym, ap, subst, ◌∙◌, arith}
use Rattle.std.specs.Prelude.{Some, slice_get}
use Rattle.std.proofs.lemmas.List.{take_all}
use Rattle.std.proofs.lemmas.List.Elements.{All-get_or}
use Rattle.std.proofs.lemmas.Option.{slice_get-get_or}
use Rattle.tau_base.specs.Database.{Db, empty_db}
use Rattle.tau_model.specs.History.{Act, Numbered, updates}
use Rattle.tau_model.specs.Store.{database}
use Rattle.tau_scan.specs.Taken.{Kept}
use Rattle.tau_inspect.specs.Audit.{Case, acts, records}
use Rattle.tau_inspect.specs.Cases.{in_case}
use Rattle.tau_inspect.specs.Executed.{call_of, numbered, rows_after, IsNumberOf}
use Rattle.tau_inspect.specs.ReportFor.{IsCall}
use Rattle.tau_inspect.specs.Walks.{effect_on, next_of, IsFor, IsOneOn, Step, Walks}
use Rattle.tau_inspect.proofs.Acts.{run_length}
use Rattle.tau_inspect.proofs.Histories.{rows_more}
use Rattle.tau_inspect.proofs.Passed.{act_on}
use Rattle.tau_inspect.proofs.Steps.{drop_end, step_at, walked}
use Rattle.tau_inspect.proofs.walk.pass_all.Goals as goal

pub pass_one-requires-clause-number : goal.pass_one-requires-clause-number
pass_one-requires-clause-number c =
    let order : List ℕ = c.args.case.now.report.now.order in let i : ℕ = c.loop-i.i in
    let call = All-get_or (IsCall (length c.args.case.now.load.now.calls)) order i 0 (omega (arith, c.loop-i-test.true, c.len-i-end.ensures)) c.requires.is.report.order in
    subst (λ (l : List ℕ). IsNumberOf c.args.case.now.load.now.calls (get_or l i 0)) (sym c.deref.ensures) call

pub pass_one-requires-clause-acked_once : goal.pass_one-requires-clause-acked_once
pass_one-requires-clause-acked_once c = c.requires.is.report.acked_once

pub loop-i-preserved : goal.loop-i-preserved
loop-i-preserved c =
    let k : Case = (in_case c.args.case.now) in let i : ℕ = c.loop-i.i in let order : List ℕ = k.report.order in
    let procs = k.load.declarations.procs in let calls = k.load.calls in let w = c.loop-i.walk in let new = c.pass_one.new.walk in
    let lt : i < length order = omega (arith, c.loop-i-test.true, c.len-i-end.ensures) in
    let n : ℕ = get_or order i 0 in
    let at = slice_get-get_or order i 0 lt in
    let db : Db = rows_after procs calls (take i order) in
    let one : IsOneOn k c.args.all.now c.args.acks.now n w new db (database c.pass_one.new.run.store) =
    subst (λ (rows : Db). IsOneOn k c.args.all.now c.args.acks.now n w new rows (database c.pass_one.new.run.store)) c.loop-i.invariant.rows
    (subst (λ (l : List ℕ). IsOneOn k c.args.all.now c.args.acks.now (get_or l i 0) w new (database c.loop-i.run.store) (database c.pass_one.new.run.store)) c.deref.ensures (c.in_ok-pass_one.ensures c.if-not-branch.false)) in
    let x : Act Numbered = record { call = numbered calls n; effect = effect_on k n db } in
    let there : slice_get (acts k) i ≡ Some x = act_on procs calls order empty_db i n at in
    let step : Step (records k) k.report.acks k.log.elv (IsFor k n x.effect.writes) (updates x.effect) n w new =
    subst (λ (as' : List (ℕ × List ℕ)). Step (records k) as' k.log.elv (IsFor k n x.effect.writes) (updates x.effect) n w new) c.requires.acks
    (subst (λ (rs : List Kept). Step rs c.args.acks.now k.log.elv (IsFor k n x.effect.writes) (updates x.effect) n w new) c.requires.all one.step) in
    record {
      at = step_at c.args.all.now c.args.acks.now k.log.elv (IsFor k n x.effect.writes) n w new (updates x.effect) one.step c.loop-i.invariant.at;
      goes = walked k w new c.args.walk.now (acts k) i x there step one.replied c.loop-i.invariant.goes;
      rows = one.rows ∙ sym (rows_more procs calls order i (call_of calls n) lt refl);
    }

pub returns : goal.returns
returns c =
    let k : Case = (in_case c.args.case.now) in let w = c.loop-i.walk in
    let past : drop c.loop-i.i (acts k) ≡ [] = drop_end (acts k) c.loop-i.i (omega (arith, c.len-i-end.ensures, c.loop-i-test.false, run_length k.load.declarations.procs k.load.calls k.report.order empty_db)) in
    λ passed. (
      c.loop-i.invariant.at,
      c.loop-i.invariant.goes w (subst (λ (xs : List (Act Numbered)). Walks k w xs w) (sym past) (
        refl,
        (λ j lt.
            ap (λ (rs : List Kept). next_of rs w j) (sym c.requires.all) ∙ c.is_at_end.ensures passed j (omega (arith, lt, c.loop-i.invariant.at.nexts))),
      )),
      c.loop-i.invariant.rows ∙ ap (rows_after k.load.declarations.procs k.load.calls) (take_all c.loop-i.i k.report.order (omega (arith, c.len-i-end.ensures, c.loop-i-test.false))),
    )
