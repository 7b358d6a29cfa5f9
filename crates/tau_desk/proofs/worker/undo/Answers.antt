use Rattle.std.proofs.Common.{◌≡◌, Option, None, ap, subst, sym, ◌∙◌}
use Rattle.std.specs.Prelude.{Some}
use Rattle.tau_txn.specs.Txn.{held_in}
use Rattle.tau_desk.specs.declared.mark.Mark.{Mark}
use Rattle.tau_desk.specs.Shares.{PlainWork, ShowsWorker}
use Rattle.tau_desk.specs.Works.{undone}
use Rattle.tau_desk.proofs.WorkerUndoes.{marked}
use Rattle.tau_desk.proofs.worker.undo.Goals as goal

pub returns : goal.returns
returns c =
    let o : PlainWork = c.args.work.now in
    let k : Mark = c.in-Some.mark in
    let q = c.requires.shows in
    let k_is : o.mark ≡ Some k = ap (λ (x : PlainWork). x.mark) (sym c.work.view_is) ∙ c.in-Some.is in
    let txn_is : c.deref_mut.result.now ≡ o.txn = c.deref_mut.ensures.value ∙ ap (λ (x : PlainWork). x.txn) c.work.view_is in
    let none = marked q.0.load q.1 q.3.worker o k q.3.fits (subst (λ (m : Option Mark). ShowsWorker q.0.load q.3.worker o m) k_is q.3.shows) in
    let gone : c.give_up.new.self.hand ≡ None = c.give_up.ensures.gone (ap held_in txn_is ∙ none.0) in
    let txn : c.give_up.new.self ≡ record o.txn { hand = None } = c.give_up.ensures.same ∙ (λ i. record (txn_is i) { hand = gone i }) in
    (λ i. record (c.work.view_is i) { next = k.next; again = k.again; txn = txn i; mark = None }) ∙ ap (undone o) (sym k_is)
