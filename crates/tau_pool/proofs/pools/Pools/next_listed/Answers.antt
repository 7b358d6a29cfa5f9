-- The cursors alone move, or nothing does.
use Rattle.std.proofs.Common.{List, length, ap, sym, subst, ◌∙◌}
use Rattle.tau_pool.specs.declared.waits.Wait.{Wait}
use Rattle.tau_pool.specs.Kept.{IsMet, AreRising}
use Rattle.tau_pool.specs.Pooled.{Pooled, IsRecovered}
use Rattle.tau_pool.proofs.Firsts.{recovered}
use Rattle.tau_pool.proofs.pools.Pools.next_listed.Goals as goal

pub returns-then-not-self-clause-recovered : goal.returns-then-not-self-clause-recovered
returns-then-not-self-clause-recovered c =
    let k = c.self.invariant in
    subst (λ (p : Pooled). IsRecovered p.ends p.rlv p.items) c.self.view_is
    (recovered c.self.inside.ends c.self.inside.rlv c.self.inside.items c.self.inside.nexts.items k.wide k.ordered k.within k.reached)

pub next_ready-requires-clause-many : goal.next_ready-requires-clause-many
next_ready-requires-clause-many c =
    let q = c.self.invariant.queued c.if-not-self.false in
    ap (λ (ws : List (List Wait)). length ws) c.deref.ensures.value ∙ q.many ∙ sym c.self.invariant.wide

pub next_ready-requires-clause-count : goal.next_ready-requires-clause-count
next_ready-requires-clause-count c = (c.self.invariant.queued c.if-not-self.false).counts ∙ sym c.self.invariant.wide

pub next_ready-requires-clause-rising : goal.next_ready-requires-clause-rising
next_ready-requires-clause-rising c = subst (λ (ws : List (List Wait)). AreRising ws) (sym c.deref.ensures.value) (c.self.invariant.queued c.if-not-self.false).listed.rising

pub next_ready-requires-clause-met : goal.next_ready-requires-clause-met
next_ready-requires-clause-met c =
    subst (λ (ws : List (List Wait)). IsMet c.self.inside.rlv c.self.inside.items ws c.self.inside.passed.items) (sym c.deref.ensures.value) (c.self.invariant.queued c.if-not-self.false).met

pub invariant_of-self : goal.invariant_of-self
invariant_of-self c =
    let k = c.self.invariant in
    let q = k.queued c.if-not-self.false in
    record {
      narrow = k.narrow;
      wide = k.wide;
      cursors = k.cursors;
      ordered = k.ordered;
      within = k.within;
      reached = k.reached;
      queued = λ e. record {
        many = q.many;
        counts = c.next_ready.ensures.count ∙ k.wide;
        listed = q.listed;
        met = subst (λ (ws : List (List Wait)). IsMet c.self.inside.rlv c.self.inside.items ws c.next_ready.new.passed.items) c.deref.ensures.value c.next_ready.ensures.met;
      };
      unstarted = k.unstarted;
      started = k.started;
    }

pub returns-clause-recovered : goal.returns-clause-recovered
returns-clause-recovered c =
    let k = c.self.invariant in
    recovered c.self.inside.ends c.self.inside.rlv c.self.inside.items c.self.inside.nexts.items k.wide k.ordered k.within k.reached
