use Rattle.std.proofs.Common.{◌≡◌, List, sym, ap, ◌∙◌, refl}
use Rattle.std.specs.Prelude.{Some}
use Rattle.tau_proc.specs.declared.proc.Proc.{Proc}
use Rattle.tau_model.specs.History.{Act}
use Rattle.tau_machine.specs.Hands.{Hand, Placed, Txn, committed_of}
use Rattle.tau_machine.specs.Worker.{hand_joined}
use Rattle.tau_txn.specs.Next.{act_at}
use Rattle.tau_desk.proofs.Committing.{raised_by}
use Rattle.tau_desk.proofs.keeps.place.Goals as goal

pub returns-clause-call : goal.returns-clause-call
returns-clause-call c =
    let procs : List Proc = c.args.desk.now.table.shared.key.value.load.procs in
    let runs = c.placed.ensures.runs procs c.requires.runs in
    let q = c.requires.call in
    let h : Hand = raised_by q.hand q.base in
    let a : Act Txn = act_at procs c.args.txn.now c.place-start.result h in (
      committed_of a,
      record {
        is = λ x e.
            let same : h ≡ x = (let f : Some h ≡ Some x = sym q.shown ∙ e in cc) in
            (c.placed.ensures.placed procs x c.requires.runs e, ap (λ (y : Hand). committed_of (act_at procs c.args.txn.now c.place-start.result y)) same);
        bytes = c.placed.ensures.bytes;
        worker = record { runs = runs; same = c.placed.ensures.same; stays = c.placed.ensures.stays };
      },
      c.commit_into.ensures.joined procs (hand_joined h (Placed a) h.dep) a runs (c.placed.ensures.placed procs h c.requires.runs q.shown) refl,
    )
