use Rattle.std.proofs.Common.{ℕ, List, ◌+◌, ap, arith, length, length-append, refl, sym, subst}
use Rattle.tau_block.specs.Image.{IsWalked}
use Rattle.tau_block.proofs.Walks.{walked_on}
use Rattle.tau_block.proofs.content.blocks_of.Goals as goal

pub loop-gate_at-preserved : goal.loop-gate_at-preserved
loop-gate_at-preserved c =
    let at = c.loop-gate_at.gate_at in
    let body = c.in_ok-body.body.now in (
      subst (λ (l : List ℕ). IsWalked c.args.image.now (at + (5 + length body)) l) (sym c.in_ok-extend_from_slice.ensures.items)
          (walked_on c.args.image.now at c.loop-gate_at.bytes.items c.loop-gate_at.invariant.0 c.loop-gate_at-test.true body (at + 1) refl c.in_ok-body.ensures.ok (at + (5 + length body)) refl),
      omega (arith, c.loop-gate_at.invariant.1, ap length c.in_ok-extend_from_slice.ensures.items, length-append c.loop-gate_at.bytes.items body),
    )
