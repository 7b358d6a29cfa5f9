-- What waits is listed, and nothing is passed over.
use Rattle.std.proofs.Common.{ℕ, ◌∙◌, ap, replicate}
use Rattle.tau_pool.proofs.Opening.{queued}
use Rattle.tau_pool.proofs.pools.Pools.list.Goals as goal

pub invariant_of-self : goal.invariant_of-self
invariant_of-self c =
    let k = c.self.invariant in
    record {
      narrow = k.narrow;
      wide = k.wide;
      cursors = k.cursors;
      ordered = k.ordered;
      within = k.within;
      reached = k.reached;
      queued = λ e. queued c.self.inside.ends c.self.inside.rlv c.self.inside.items c.in-Ok.waits.items c.in-Ok-zeros.passed.items k.wide c.in-Ok.ensures.many (c.in-Ok-zeros.ensures ∙ ap (λ (n : ℕ). replicate n 0) c.width.ensures.same) k.within c.in-Ok.ensures.each;
      unstarted = k.unstarted;
      started = k.started;
    }
