-- The first stream of which bytes are left.
use Rattle.std.proofs.Common.{ℕ, ap, arith}
use Rattle.tau_follow.specs.declared.reader.Reader.{Reader}
use Rattle.tau_follow.specs.Sealing.{short}
use Rattle.tau_follow.proofs.Feeding.{got_at}
use Rattle.tau_follow.proofs.Sealing.{none_left}
use Rattle.tau_follow.proofs.seal.cut_short.Goals as goal
use Rattle.tau_base.proofs.Lists.{got_within, got_or}

pub returns-then-has_rest-clause-some : goal.returns-then-has_rest-clause-some
returns-then-has_rest-clause-some c =
    (let there = got_at c.args.readers.now c.loop-j.j c.index-readers-j.result c.loop-j-test.true c.index-readers-j.is in
    record {
      j = c.loop-j.j;
      reader = c.index-readers-j.result;
      there = there;
      left = c.has_rest.ensures.left c.if-has_rest.true;
      before = c.loop-j.invariant;
      is = ap (λ (k : ℕ). short c.loop-j.j k) (ap (λ (r : Reader). r.at) (got_or c.args.readers.now c.loop-j.j c.index-readers-j.result _ there));
    })

pub loop-j-preserved : goal.loop-j-preserved
loop-j-preserved c = λ i r lt e.
    none_left c.args.readers.now c.loop-j.j c.index-readers-j.result c.loop-j.invariant (got_at c.args.readers.now c.loop-j.j c.index-readers-j.result c.loop-j-test.true c.index-readers-j.is) (c.has_rest.ensures.none c.if-has_rest.false) i r lt e

pub returns-clause-none : goal.returns-clause-none
returns-clause-none c = λ none j r e. c.loop-j.invariant j r (let lt = got_within c.args.readers.now j r e in let end = c.loop-j-test.false in omega (arith, lt, end)) e
