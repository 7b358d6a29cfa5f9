use Rattle.std.proofs.Common.{ℕ, ◌≡◌, sym, ap, subst, ◌∙◌}
use Rattle.std.specs.Prelude.{Some, IsSome}
use Rattle.std.specs.Option.{unwrap_or}
use Rattle.std.specs.Map.{lookup}
use Rattle.indexmap.specs.IndexMap.{get}
use Rattle.tau_base.specs.declared.value.Key.{Key}
use Rattle.tau_base.specs.declared.value.Value.TheVariants.{Absent}
use Rattle.tau_shard.specs.Shard.{put_entry}
use Rattle.tau_shard.specs.Plain.{PlainShard}
use Rattle.tau_shard.specs.Read.{is_key, entry_of, shard_of}
use Rattle.tau_shard.proofs.Puts.{put_shard, placed_put}
use Rattle.tau_shard.proofs.shard.Shard.put.Goals as goal

pub invariant_of-self-2 : goal.invariant_of-self-2
invariant_of-self-2 c =
    let there : Key → Type 0 = λ x. IsSome (lookup (is_key x) c.self.inside.rows.entries) in
    let placed : (w : ℕ) → _ = subst (λ (p : PlainShard). (w : ℕ) → (entry_of c.args.entry).holders w ≡ Some _ → IsSome (lookup (is_key c.args.key) p.rows)) (sym c.self.view_is) c.requires.placed in
    placed_put (λ q. get is_key c.self.inside.entries q) (λ q. get is_key c.insert.new.self q) c.self.inside.floor there c.args.key c.args.entry
    (λ q. c.in_ok-insert.ensures.updates.0 q) placed c.self.invariant

pub returns-clause-ok : goal.returns-clause-ok
returns-clause-ok c =
    put_shard (λ x. unwrap_or (get is_key c.self.inside.rows x) Absent) (λ q. get is_key c.self.inside.entries q) (λ q. get is_key c.insert.new.self q) c.self.inside.floor
    c.args.key c.args.entry (λ q. c.in_ok-insert.ensures.updates.0 q)
    ∙ ap (λ (p : PlainShard). put_entry (shard_of p) c.args.key (entry_of c.args.entry)) c.self.view_is
