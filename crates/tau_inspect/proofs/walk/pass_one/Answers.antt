-- One call is executed and passed.
use Rattle.std.proofs.Common.{◌≡◌, ◌-◌, List, sym, ap, subst, ◌∙◌}
use Rattle.std.specs.Prelude.{IsTrue, Some, slice_index_or}
use Rattle.tau_base.specs.Database.{Db, written}
use Rattle.tau_base.specs.declared.value.Call.{Call}
use Rattle.tau_base.specs.declared.value.Key.{Key}
use Rattle.tau_base.specs.declared.value.Value.{Value}
use Rattle.tau_proc.specs.Effect.{Effect}
use Rattle.tau_proc.specs.Meaning.{meaning}
use Rattle.tau_proc.specs.Takes.{takes}
use Rattle.tau_report.specs.declared.report.Fate.{Fate}
use Rattle.tau_report.specs.declared.report.Fate.TheVariants.{Unrun}
use Rattle.tau_model.specs.History.{updating}
use Rattle.tau_model.specs.Store.{database}
use Rattle.tau_inspect.specs.Audit.{Case, fate_of, reply_of}
use Rattle.tau_inspect.specs.Cases.{in_case}
use Rattle.tau_inspect.specs.Walks.{effect_on, IsFor, Step}
use Rattle.tau_inspect.proofs.Histories.{call_there}
use Rattle.tau_inspect.proofs.Recorded.{of_all}
use Rattle.tau_inspect.proofs.walk.pass_one.Goals as goal

pub goes_as_told-requires : goal.goes_as_told-requires
goes_as_told-requires c = of_all (λ x. IsTrue (takes c.args.case.now.load.now.declarations.procs x)) c.args.case.now.load.now.calls _ c.put_into.new.place c.requires.taken c.put_into.ensures

pub returns : goal.returns
returns c =
    let k : Case = (in_case c.args.case.now) in let n = c.args.number in
    let db : Db = database c.args.run.now.store in
    let is = call_there c.args.case.now.load.now.calls n c.put_into.new.place c.put_into.ensures in
    let e : Effect = meaning c.args.case.now.load.now.declarations.procs c.put_into.new.place db in
    let same : e ≡ effect_on k n db = ap (λ (made : Call). meaning c.args.case.now.load.now.declarations.procs made db) (sym is) in
    let writes : c.writes.result.now ≡ (effect_on k n db).writes = c.writes.ensures.same ∙ c.goes_as_told.ensures.writes ∙ ap (λ (x : Effect). x.writes) same in
    let again : c.writes-2.result.now ≡ (effect_on k n db).writes = c.writes-2.ensures.same ∙ c.goes_as_told.ensures.writes ∙ ap (λ (x : Effect). x.writes) same in
    let told : reply_of (fate_of k n) ≡ Some e.reply = ap (λ (l : List Fate). reply_of (slice_index_or l (n - 1) Unrun)) (sym c.as_slice.ensures) ∙ c.goes_as_told.ensures.replied c.if-not-goes_as_told.false in
    λ t. record {
      replied = told ∙ ap (λ (x : Effect). Some x.reply) same;
      step = subst (λ (ws : List (Key × Value)). Step c.args.all.now c.args.acks.now k.log.elv (IsFor k n ws) (updating ws) n c.args.walk.now c.pass_call.new.walk) writes (c.pass_call.ensures c.if-not-pass_call.false);
      rows = c.in_ok-write_near.ensures.ok ∙ ap (λ (ws : List (Key × Value)). written ws db) again;
    }
