use Rattle.std.proofs.Common.{◌≡◌, false, sym, ap, ◌∙◌}
use Rattle.tau_txn.specs.declared.standing.Standing.TheVariants.{Running, Freeing}
use Rattle.tau_txn.specs.Hand.{PlainHand}
use Rattle.tau_txn.specs.Steps.{without_first}
use Rattle.tau_txn.proofs.Asked.{reads_only}
use Rattle.tau_txn.proofs.Keeping.{freed_keeps}
use Rattle.tau_txn.proofs.hand.Hand.went.Goals as goal

pub read_only-requires-clause-writes : goal.read_only-requires-clause-writes
read_only-requires-clause-writes c =
    let running : c.args.self.now.standing ≡ Running = sym (ap (λ (h : PlainHand). h.standing) c.self.view_is) ∙ c.in-Running.is in
    let stays : c.args.self.now.leaves ≡ false = sym (ap (λ (h : PlainHand). h.leaves) c.self.view_is) ∙ c.if-self.false in
    (reads_only c.args.self.now running stays c.requires.rest).0.none

pub returns-else-self-clause-keeps : goal.returns-else-self-clause-keeps
returns-else-self-clause-keeps c = λ width keeps.
    let joined = c.read_only.ensures.joined in
    let freed = c.free_lowest.ensures.freed in
    freed_keeps width c.args.self.now c.free_lowest.new.self c.free_lowest.result
    (ap (λ (h : PlainHand). h.held) freed ∙ ap (λ (h : PlainHand). without_first h.held) joined)
    (ap (λ (h : PlainHand). h.dep) freed ∙ ap (λ (h : PlainHand). h.dep) joined)
    (ap (λ (h : PlainHand). h.standing) freed ∙ ap (λ (h : PlainHand). h.standing) joined)
    keeps.shaped
    (record { procs = c.args.procs.now; is = c.free_lowest.ensures.runs c.args.procs.now (c.read_only.ensures.runs c.args.procs.now c.requires.run) })

pub returns-in-Freeing-clause-keeps : goal.returns-in-Freeing-clause-keeps
returns-in-Freeing-clause-keeps c = λ width keeps.
    let freed = c.free_lowest-in-Freeing.ensures.freed in
    let freeing : c.args.self.now.standing ≡ Freeing = sym (ap (λ (h : PlainHand). h.standing) c.self.view_is) ∙ c.in-Freeing.is in
    freed_keeps width c.args.self.now c.free_lowest-in-Freeing.new.self c.free_lowest-in-Freeing.result
    (ap (λ (h : PlainHand). h.held) freed) (ap (λ (h : PlainHand). h.dep) freed) (ap (λ (h : PlainHand). h.standing) freed ∙ freeing)
    keeps.shaped
    (record { procs = c.args.procs.now; is = c.free_lowest-in-Freeing.ensures.runs c.args.procs.now c.requires.run })
