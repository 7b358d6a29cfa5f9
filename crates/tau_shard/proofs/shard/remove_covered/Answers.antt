use Rattle.std.proofs.Common.{rules, sym}
use Rattle.indexmap.proofs.CallerLemmas.{filter-RetainsPairs}
use Rattle.tau_shard.proofs.shard.remove_covered.Goals as goal

pub returns-then-not-sweep-clause-left : goal.returns-then-not-sweep-clause-left
returns-then-not-sweep-clause-left c = sym (c.sweep.ensures.none c.if-not-sweep.true)

pub returns-clause-left : goal.returns-clause-left
returns-clause-left c = filter-RetainsPairs _ _ _ (λ k v b w g call. search rules) _ _ c.retain.ensures.filtered
