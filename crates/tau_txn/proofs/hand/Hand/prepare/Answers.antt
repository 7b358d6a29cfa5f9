use Rattle.std.proofs.Common.{subst}
use Rattle.tau_base.specs.Vectors.{AtMost}
use Rattle.tau_txn.specs.Hand.{PlainHand}
use Rattle.tau_txn.proofs.Prepared.{prepared_covering}
use Rattle.tau_txn.proofs.hand.Hand.prepare.Goals as goal

pub prepare_covering-requires-clause-covers : goal.prepare_covering-requires-clause-covers
prepare_covering-requires-clause-covers c = subst (λ (h : PlainHand). AtMost c.args.anchor.now h.dep) c.self.view_is (c.covers.ensures.covers.0 c.if-covers.true)

pub returns-then-covers-clause-raised : goal.returns-then-covers-clause-raised
returns-then-covers-clause-raised c =
    prepared_covering c.args.self.now c.prepare_covering.new.self c.args.anchor_number c.args.anchor.now c.prepare_covering.result c.requires.width
    (subst (λ (h : PlainHand). AtMost c.args.anchor.now h.dep) c.self.view_is (c.covers.ensures.covers.0 c.if-covers.true)) c.prepare_covering.ensures.raised
