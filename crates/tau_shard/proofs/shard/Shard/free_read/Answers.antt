use Rattle.std.proofs.Common.{sym, ap, ◌∙◌}
use Rattle.std.specs.Prelude.{IsSome, None}
use Rattle.std.specs.Map.{lookup}
use Rattle.std.specs.Option.{unwrap_or}
use Rattle.indexmap.specs.IndexMap.{get, with_value_at}
use Rattle.tau_base.specs.declared.value.Key.{Key}
use Rattle.tau_base.specs.declared.value.Value.TheVariants.{Absent}
use Rattle.tau_base.specs.Vectors.{join}
use Rattle.tau_shard.specs.Shard.{Entry, held_as, shard_freed}
use Rattle.tau_shard.specs.declared.entry.LockEntry.{LockEntry}
use Rattle.tau_shard.specs.Plain.{PlainShard}
use Rattle.tau_shard.specs.Read.{is_key, entry_of, shard_of}
use Rattle.tau_shard.proofs.Puts.{shard_in_place, placed_in_place, released_writes}
use Rattle.tau_shard.proofs.Stands.{stands_with, put_there}
use Rattle.tau_shard.proofs.shard.Shard.free_read.Goals as goal

pub invariant_of-self : goal.invariant_of-self
invariant_of-self c =
    let there : Key → Type 0 = λ x. IsSome (lookup (is_key x) c.self.inside.rows.entries) in
    let m = c.self.inside.entries in
    let at = c.there-at.result in
    let e : LockEntry = c.pair_mut-entry.result.1.now in
    let f : LockEntry = c.release_read.new.entry in
    let stands = stands_with m.entries c.args.key c.pair_mut-entry.result.0.now at c.there-at.ensures.0 e c.there-at.ensures.1 c.pair_mut-entry.ensures.value in
    placed_in_place (λ q. get is_key m q) (λ q. get is_key (with_value_at m at f) q) c.self.inside.floor there c.args.key e f (sym stands.found)
    (put_there m c.args.key at e f stands c.pair_mut-entry.ensures.unique)
    (released_writes e (entry_of f) c.args.worker (ap (λ (e : Entry). e.holders) c.release_read.ensures)) c.self.invariant

pub returns : goal.returns
returns c =
    let m = c.self.inside.entries in
    let at = c.there-at.result in
    let e : LockEntry = c.pair_mut-entry.result.1.now in
    let f : LockEntry = c.release_read.new.entry in
    let stands = stands_with m.entries c.args.key c.pair_mut-entry.result.0.now at c.there-at.ensures.0 e c.there-at.ensures.1 c.pair_mut-entry.ensures.value in
    shard_in_place (λ x. unwrap_or (get is_key c.self.inside.rows x) Absent) (λ q. get is_key m q) (λ q. get is_key (with_value_at m at f) q) c.self.inside.floor c.args.key
    e f (λ (e : Entry). record (held_as e c.args.worker None) { read_lv = join e.read_lv c.args.lv.now }) (sym stands.found) c.release_read.ensures (put_there m c.args.key at e f stands c.pair_mut-entry.ensures.unique)
    ∙ ap (λ (p : PlainShard). shard_freed (shard_of p) c.args.worker c.args.key c.args.lv.now None) c.self.view_is
