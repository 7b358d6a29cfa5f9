use Rattle.std.proofs.Common.{◌≡◌, ℕ, List, length, take, sym, subst, arith}
use Rattle.std.proofs.lemmas.Grind.{common_steps}
use Rattle.tau_base.specs.Vectors.{AtMost}
use Rattle.tau_ack.specs.Pending.{NoneCovered}
use Rattle.tau_ack.proofs.Passes.{none_below, none_at_end}
use Rattle.tau_ack.proofs.begin.Goals as goal

pub returns-then-covers-clause-pass : goal.returns-then-covers-clause-pass
returns-then-covers-clause-pass c = record {
  order = c.requires.order;
  inside = c.requires.inside;
  left =
      let low : AtMost c.args.plv.now c.args.pass.now.plv = c.covers.ensures.covers.0 c.if-covers.true in
      subst (λ (v : List ℕ). NoneCovered v (take c.args.pass.now.passed c.args.calls.now.calls)) (sym c.turn_to.ensures)
      (none_below c.args.plv.now c.args.pass.now.plv (take c.args.pass.now.passed c.args.calls.now.calls) low c.requires.left);
}

pub returns-then-pass-len-clause-none : goal.returns-then-pass-len-clause-none
returns-then-pass-len-clause-none c =
    let low : AtMost c.args.plv.now c.args.pass.now.plv = c.covers.ensures.covers.0 c.if-covers.true in
    let end : c.args.pass.now.passed ≡ length c.args.calls.now.calls = grind (arith, common_steps) in
    λ _. none_at_end c.args.plv.now c.args.pass.now.plv c.args.calls.now.calls c.args.pass.now.passed c.args.pass.now.next c.requires end low
