use Rattle.std.proofs.Common.{ℕ, List, ◌≡◌, ◌≤◌, length, sym, subst}
use Rattle.tau_shard.specs.Shard.{Dropped}
use Rattle.tau_shard.specs.Plain.{PlainShard}
use Rattle.tau_shard.specs.Read.{shard_of}
use Rattle.tau_shard.specs.Blocks.{Placed}
use Rattle.tau_shard.proofs.Drops.{after, dropped, placed_left, swept_wide}
use Rattle.tau_shard.proofs.shard.Shard.drop_covered.Goals as goal

pub invariant_of-self : goal.invariant_of-self
invariant_of-self c =
    let made : after c.args.plv.now c.self.inside.floor c.self.inside.rows.entries c.self.inside.entries.entries c.len-before.ensures.unique
    ≡ record { rows = c.self.inside.rows.entries; entries = c.remove_covered.new.entries.entries; floor = c.remove_covered.new.floor } =
    (λ i. record { rows = c.self.inside.rows.entries; entries = sym c.remove_covered.ensures.left i; floor = sym c.remove_covered.ensures.raised i }) in
    subst Placed made (placed_left c.args.plv.now c.self.inside.floor c.self.inside.rows.entries c.self.inside.entries.entries c.len-before.ensures.unique c.self.invariant)

pub returns-clause-dropped : goal.returns-clause-dropped
returns-clause-dropped c =
    let made : after c.args.plv.now c.self.inside.floor c.self.inside.rows.entries c.self.inside.entries.entries c.len-before.ensures.unique
    ≡ record { rows = c.self.inside.rows.entries; entries = c.remove_covered.new.entries.entries; floor = c.remove_covered.new.floor } =
    (λ i. record { rows = c.self.inside.rows.entries; entries = sym c.remove_covered.ensures.left i; floor = sym c.remove_covered.ensures.raised i }) in
    subst (λ (p : PlainShard). Dropped c.args.plv.now (shard_of c.args.self.now) (shard_of p)) made
    (subst (λ (p : PlainShard). Dropped c.args.plv.now (shard_of p)
    (shard_of (after c.args.plv.now c.self.inside.floor c.self.inside.rows.entries c.self.inside.entries.entries c.len-before.ensures.unique))) c.self.view_is
    (dropped c.args.plv.now c.self.inside.floor c.self.inside.rows.entries c.self.inside.entries.entries c.len-before.ensures.unique))

pub returns-clause-wide : goal.returns-clause-wide
returns-clause-wide c =
    let kept : length c.self.inside.floor ≤ length c.remove_covered.new.floor =
    subst (λ (f : List ℕ). length c.self.inside.floor ≤ length f) (sym c.remove_covered.ensures.raised) (swept_wide c.args.plv.now c.self.inside.floor c.self.inside.entries.entries) in
    subst (λ (p : PlainShard). length p.floor ≤ length c.remove_covered.new.floor) c.self.view_is kept
