use Rattle.std.proofs.Common.{◌≡◌, ◌-◌, ◌<◌, length, Some, ap, subst, sym, ◌∙◌}
use Rattle.std.specs.Prelude.{IsTrue, slice_get}
use Rattle.tau_base.specs.declared.value.Call.{Call}
use Rattle.tau_proc.specs.Takes.{takes}
use Rattle.tau_core.specs.declared.state.Load.{Load}
use Rattle.tau_occ.specs.Peeker.{IsPeeking}
use Rattle.tau_txn.specs.Txn.{number_in}
use Rattle.tau_desk.specs.Shares.{PlainWork}
use Rattle.tau_desk.proofs.PeekedCall.{call_found, call_in_hand}
use Rattle.tau_desk.proofs.peeks.begin_peeking.Goals as goal

pub call_at-call-requires : goal.call_at-call-requires
call_at-call-requires c =
    let l : Load = c.args.desk.now.table.shared.key.value.load in
    let it : Some c.number_of-number.result ≡ number_in c.args.work.now.txn = c.number_of-number.ensures ∙ ap number_in c.deref.ensures ∙ ap (λ (o : PlainWork). number_in o.txn) c.work.view_is in
    let found = call_found l c.args.work.now.txn (call_in_hand l c.requires.fits.0 c.args.work.now c.requires.fits.1 c.requires.hand) c.number_of-number.result it in
    subst (λ (k : Load). c.number_of-number.result - 1 < length k.calls) (sym c.args.desk.now.same_load) found.0

pub begin-requires : goal.begin-requires
begin-requires c =
    let l : Load = c.args.desk.now.table.shared.key.value.load in
    let it : Some c.number_of-number.result ≡ number_in c.args.work.now.txn = c.number_of-number.ensures ∙ ap number_in c.deref.ensures ∙ ap (λ (o : PlainWork). number_in o.txn) c.work.view_is in
    let found = call_found l c.args.work.now.txn (call_in_hand l c.requires.fits.0 c.args.work.now c.requires.fits.1 c.requires.hand) c.number_of-number.result it in
    let got = ap (λ (k : Load). slice_get k.calls (c.number_of-number.result - 1)) (sym c.args.desk.now.same_load) ∙ c.call_at-call.ensures in
    subst (λ (k : Load). IsTrue (takes k.procs c.call_at-call.result)) (sym c.args.desk.now.same_load) (found.1 c.call_at-call.result got).takes_it

pub returns-clause-peeks : goal.returns-clause-peeks
returns-clause-peeks c = λ h is.
    let l : Load = c.args.desk.now.table.shared.key.value.load in
    let it : Some c.number_of-number.result ≡ number_in c.args.work.now.txn = c.number_of-number.ensures ∙ ap number_in c.deref.ensures ∙ ap (λ (o : PlainWork). number_in o.txn) c.work.view_is in
    let found = call_found l c.args.work.now.txn (call_in_hand l c.requires.fits.0 c.args.work.now c.requires.fits.1 c.requires.hand) c.number_of-number.result it in
    let got = ap (λ (k : Load). slice_get k.calls (c.number_of-number.result - 1)) (sym c.args.desk.now.same_load) ∙ c.call_at-call.ensures in
    subst (λ (x : Call). IsPeeking l.procs x c.begin.new.self) (sym ((found.1 c.call_at-call.result got).hand h is))
    (subst (λ (k : Load). IsPeeking k.procs c.call_at-call.result c.begin.new.self) c.args.desk.now.same_load c.begin.ensures.peeks)
