-- One record more is not ready.
use Rattle.std.proofs.Common.{◌≡◌, ◌∙◌, true, inl, inr, ap, arith}
use Rattle.std.proofs.lemmas.Bool.{cases_lt}
use Rattle.tau_pool.specs.Passing.{is_ready}
use Rattle.tau_pool.proofs.Passes.{ready_is}
use Rattle.tau_pool.proofs.pass.first_ready.Goals as goal
use Rattle.tau_base.proofs.Lists.{got_within}

pub loop-place-preserved : goal.loop-place-preserved
loop-place-preserved c i x lt there waits covered = elim (cases_lt i c.loop-place.place) [
  | inl a ↦ c.loop-place.invariant i x a there waits covered
  | inr b ↦
      let e : c.loop-place.place ≡ i = omega (arith, lt, b) in
      let on : c.is_ready.result ≡ true = c.is_ready.ensures ∙ ap (is_ready c.args.items.now c.args.rlv.now) e ∙ ready_is c.args.items.now c.args.rlv.now i x there waits covered in
      let off = c.if-is_ready.false in
      absurd cc
]

pub returns-clause-none : goal.returns-clause-none
returns-clause-none c e i x there waits covered =
    let in' = got_within c.args.items.now i x there in
    c.loop-place.invariant i x (omega (arith, in', c.len-place-end.ensures)) there waits covered
