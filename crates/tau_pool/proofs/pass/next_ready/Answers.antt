-- The cursor of one more stream moves on.
use Rattle.std.proofs.Common.{◌≡◌, refl, ◌∙◌, arith, slice_index, None, []}
use Rattle.std.proofs.lemmas.List.{get_or_read, length-set}
use Rattle.tau_pool.specs.Kept.{waits_in}
use Rattle.tau_pool.proofs.Passes.{pass_is, met_on, blocked_on, none_ready}
use Rattle.tau_pool.proofs.pass.next_ready.Goals as goal

pub returns-in-Some-clause-met : goal.returns-in-Some-clause-met
returns-in-Some-clause-met c =
    let at : c.index.result.now ≡ slice_index c.loop-k.passed.items c.loop-k.k = get_or_read c.loop-k.passed.items c.loop-k.k c.index.result.now (omega (arith, c.loop-k-test.true, c.requires.many, c.loop-k.invariant.count)) c.index.ensures 0 in
    let there : c.as_slice.result.now ≡ waits_in c.args.waits.now c.loop-k.k = c.as_slice.ensures ∙ get_or_read c.args.waits.now c.loop-k.k c.index-waits-k.result c.loop-k-test.true c.index-waits-k.is [] in
    met_on c.args.rlv.now c.args.items.now c.args.waits.now c.loop-k.passed.items c.loop-k.k c.pass_on-pass.result c.loop-k.invariant.met (omega (arith, c.loop-k-test.true, c.requires.many)) (omega (arith, c.loop-k-test.true, c.requires.many, c.loop-k.invariant.count))
    (pass_is c.args.items.now c.args.rlv.now c.args.waits.now c.loop-k.passed.items c.loop-k.k c.get.result c.index.result.now c.as_slice.result.now c.pass_on-pass.result c.pass_on-pass.ensures c.get.ensures.same at there)

pub returns-in-Some-clause-found : goal.returns-in-Some-clause-found
returns-in-Some-clause-found c =
    let at : c.index.result.now ≡ slice_index c.loop-k.passed.items c.loop-k.k = get_or_read c.loop-k.passed.items c.loop-k.k c.index.result.now (omega (arith, c.loop-k-test.true, c.requires.many, c.loop-k.invariant.count)) c.index.ensures 0 in
    let there : c.as_slice.result.now ≡ waits_in c.args.waits.now c.loop-k.k = c.as_slice.ensures ∙ get_or_read c.args.waits.now c.loop-k.k c.index-waits-k.result c.loop-k-test.true c.index-waits-k.is [] in
    (pass_is c.args.items.now c.args.rlv.now c.args.waits.now c.loop-k.passed.items c.loop-k.k c.get.result c.index.result.now c.as_slice.result.now c.pass_on-pass.result c.pass_on-pass.ensures c.get.ensures.same at there).found c.in-Some.place c.in-Some.is

pub loop-k-preserved : goal.loop-k-preserved
loop-k-preserved c =
    let at : c.index.result.now ≡ slice_index c.loop-k.passed.items c.loop-k.k = get_or_read c.loop-k.passed.items c.loop-k.k c.index.result.now (omega (arith, c.loop-k-test.true, c.requires.many, c.loop-k.invariant.count)) c.index.ensures 0 in
    let there : c.as_slice.result.now ≡ waits_in c.args.waits.now c.loop-k.k = c.as_slice.ensures ∙ get_or_read c.args.waits.now c.loop-k.k c.index-waits-k.result c.loop-k-test.true c.index-waits-k.is [] in
    let none : c.pass_on-pass.result.found ≡ None = c.in_default.is in
    let p = pass_is c.args.items.now c.args.rlv.now c.args.waits.now c.loop-k.passed.items c.loop-k.k c.get.result c.index.result.now c.as_slice.result.now c.pass_on-pass.result c.pass_on-pass.ensures c.get.ensures.same at there in
    record {
      met = met_on c.args.rlv.now c.args.items.now c.args.waits.now c.loop-k.passed.items c.loop-k.k c.pass_on-pass.result c.loop-k.invariant.met (omega (arith, c.loop-k-test.true, c.requires.many)) (omega (arith, c.loop-k-test.true, c.requires.many, c.loop-k.invariant.count)) p;
      count = length-set c.loop-k.passed.items c.loop-k.k c.pass_on-pass.result.passed ∙ c.loop-k.invariant.count;
      blocked = blocked_on c.args.rlv.now c.args.items.now c.args.waits.now c.loop-k.passed.items c.loop-k.k c.pass_on-pass.result c.loop-k.k refl (omega (arith, c.loop-k-test.true, c.requires.many, c.loop-k.invariant.count)) c.loop-k-test.true c.requires.rising none p c.loop-k.invariant.blocked;
    }

pub returns-clause-none : goal.returns-clause-none
returns-clause-none c e = none_ready c.args.rlv.now c.args.items.now c.args.waits.now c.loop-k.passed.items c.loop-k.k (omega (arith, c.loop-k-test.false, c.requires.many)) c.loop-k.invariant.met c.loop-k.invariant.blocked
