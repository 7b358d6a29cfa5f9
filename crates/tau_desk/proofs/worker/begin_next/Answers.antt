use Rattle.std.proofs.Common.{◌≡◌, ◌-◌, ℕ, length, sym, ap, subst, ◌∙◌}
use Rattle.std.specs.Prelude.{Some, None, IsTrue, slice_get}
use Rattle.tau_base.specs.declared.value.Call.{Call}
use Rattle.tau_proc.specs.Takes.{takes}
use Rattle.tau_machine.specs.Worker.{fresh}
use Rattle.tau_txn.specs.Txn.{PlainTxn, hand_in}
use Rattle.tau_core.specs.declared.state.Load.{Load}
use Rattle.tau_core.specs.Begins.{next_behind, number_by}
use Rattle.tau_desk.specs.Shares.{PlainWork}
use Rattle.tau_desk.proofs.CallBegins.{next_is_that}
use Rattle.tau_desk.proofs.worker.begin_next.Goals as goal

pub start-requires-clause-takes : goal.start-requires-clause-takes
start-requires-clause-takes c =
    let l : Load = c.args.desk.now.table.shared.key.value.load in
    let same : c.args.desk.now.load ≡ l = c.args.desk.now.same_load in
    let number : ℕ = c.in-Some.number in
    let next : number_by (length l.calls) c.args.work.now.next c.args.work.now.again ≡ Some number = ap (λ (k : Load). number_by (length k.calls) c.args.work.now.next c.args.work.now.again) (sym same) ∙ ap (λ (k : ℕ). number_by k c.args.work.now.next c.args.work.now.again) (sym c.len.ensures) ∙ sym c.number_in.ensures ∙ c.in-Some.is in
    let n = next_is_that l c.requires.fits.0 c.args.work.now number c.requires.fits.1 next in
    let call : n.call ≡ c.at-call.result.now =
    (let f : Some n.call ≡ Some c.at-call.result.now = sym n.got ∙ ap (λ (k : Load). slice_get k.calls (number - 1)) (sym same) ∙ c.at-call.ensures in cc) in
    subst (λ (k : Load). IsTrue (takes k.procs c.at-call.result.now)) (sym same)
    (subst (λ (x : Call). IsTrue (takes l.procs x)) call (c.requires.run.stands.sound.takes number n.call n.is))

pub returns-clause-begins : goal.returns-clause-begins
returns-clause-begins c =
    let l : Load = c.args.desk.now.table.shared.key.value.load in
    let same : c.args.desk.now.load ≡ l = c.args.desk.now.same_load in
    let number : ℕ = c.in-Some.number in
    let next : number_by (length l.calls) c.args.work.now.next c.args.work.now.again ≡ Some number = ap (λ (k : Load). number_by (length k.calls) c.args.work.now.next c.args.work.now.again) (sym same) ∙ ap (λ (k : ℕ). number_by k c.args.work.now.next c.args.work.now.again) (sym c.len.ensures) ∙ sym c.number_in.ensures ∙ c.in-Some.is in
    let n = next_is_that l c.requires.fits.0 c.args.work.now number c.requires.fits.1 next in
    let call : n.call ≡ c.at-call.result.now =
    (let f : Some n.call ≡ Some c.at-call.result.now = sym n.got ∙ ap (λ (k : Load). slice_get k.calls (number - 1)) (sym same) ∙ c.at-call.ensures in cc) in
    let made = c.in_ok-reserve.ensures.made in
    let roomy : PlainWork = c.reserve.new.work in
    let next_is : roomy.next ≡ c.args.work.now.next = ap (λ (y : PlainWork). y.next) made.others in
    let again_is : roomy.again ≡ c.args.work.now.again = ap (λ (y : PlainWork). y.again) made.others in
    let txn_is = ap (λ (y : PlainWork). y.txn) made.others in
    record {
      roomy = roomy;
      made = made;
      number = number;
      call = c.at-call.result.now;
      next = next;
      is = n.is ∙ ap Some call;
      begun = ap (λ (k : Load). hand_in k.procs c.start.new.work.txn) (sym same) ∙ c.start.ensures.begun ∙ ap (λ (t : PlainTxn). Some (fresh t.width (record { number = number; call = c.at-call.result.now }) 0)) txn_is;
      stays = c.start.ensures.stays;
      same = c.start.ensures.same ∙ ap {A = PlainTxn} (λ (t : PlainTxn). record t { hand = c.start.new.work.txn.hand }) txn_is;
      others = c.start.ensures.others ∙ (λ i. record roomy { txn = c.start.new.work.txn; next = next_behind (same i).workers (next_is i) (again_is i); again = None; mark = Some (record { next = next_is i; again = again_is i }) });
    }
