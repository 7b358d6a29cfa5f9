-- What is kept of each stream.
use Rattle.std.proofs.Common.{◌≡◌, ◌<◌, ◌∙◌, length, ap, arith, slice_index}
use Rattle.std.proofs.lemmas.List.{get_or_read}
use Rattle.tau_pool.specs.First.{first_from}
use Rattle.tau_pool.specs.Pooled.{Pooled}
use Rattle.tau_pool.proofs.pools.Pools.first_of.Goals as goal

pub index-requires : goal.index-requires
index-requires c =
    let k = c.self.invariant in
    let v = c.self.inside.nexts in
    omega (arith, k.cursors, v.ok, c.width.ensures.same)

pub returns-then-stream-width-clause-none : goal.returns-then-stream-width-clause-none
returns-then-stream-width-clause-none c e =
    let same = ap (λ (p : Pooled). length p.ends) c.self.view_is in
    omega (arith, same, c.width.ensures.same)

pub returns-clause-some : goal.returns-clause-some
returns-clause-some c =
    let k = c.self.invariant in
    let lt : c.args.stream < length c.self.inside.ends = omega (arith, c.width.ensures.same) in
    let at : c.index.result.now ≡ slice_index c.self.inside.nexts.items c.args.stream = get_or_read c.self.inside.nexts.items c.args.stream c.index.result.now (omega (arith, lt, k.cursors)) c.index.ensures 0 in
    at ∙ k.reached.firsts c.args.stream lt ∙ ap (λ (p : Pooled). first_from c.args.stream 0 p.items) c.self.view_is
