use Rattle.std.proofs.Common.{[], ◌∷◌, ap, ◌∙◌}
use Rattle.indexmap.specs.IndexMap.{get, with_value_at}
use Rattle.tau_base.specs.declared.value.Value.{Value}
use Rattle.tau_base.specs.Database.{Db, written}
use Rattle.tau_shard.specs.Plain.{PlainShard}
use Rattle.tau_shard.specs.Read.{is_key, entry_option, shard_of}
use Rattle.tau_shard.proofs.Puts.{with_rows, set_rows, there_kept}
use Rattle.tau_shard.proofs.Stands.{stands_with, put_there}
use Rattle.tau_shard.proofs.shard.Shard.write_row.Goals as goal

pub invariant_of-self : goal.invariant_of-self
invariant_of-self c =
    let m = c.self.inside.rows in
    let at = c.there-at.result in
    let v : Value = c.pair_mut-place.result.1.now in
    let w : Value = c.put_value.new.place in
    let stands = stands_with m.entries c.args.key c.pair_mut-place.result.0.now at c.there-at.ensures.0 v c.there-at.ensures.1 c.pair_mut-place.ensures.value in
    λ x u h. there_kept (λ q. get is_key m q) (λ q. get is_key (with_value_at m at w) q) c.args.key w (put_there m c.args.key at v w stands c.pair_mut-place.ensures.unique) x (c.self.invariant x u h)

pub returns : goal.returns
returns c =
    let m = c.self.inside.rows in
    let at = c.there-at.result in
    let v : Value = c.pair_mut-place.result.1.now in
    let w : Value = c.put_value.new.place in
    let stands = stands_with m.entries c.args.key c.pair_mut-place.result.0.now at c.there-at.ensures.0 v c.there-at.ensures.1 c.pair_mut-place.ensures.value in
    let plain : PlainShard = record { rows = m.entries; entries = c.self.inside.entries.entries; floor = c.self.inside.floor } in
    ap (λ (r : Db). with_rows r (λ x. entry_option (get is_key c.self.inside.entries x)) c.self.inside.floor)
    (set_rows (λ q. get is_key m q) (λ q. get is_key (with_value_at m at w) q) c.args.key w (put_there m c.args.key at v w stands c.pair_mut-place.ensures.unique))
    ∙ ap (λ (v : Value). record (shard_of plain) { rows = written ((c.args.key, v) ∷ []) (shard_of plain).rows }) c.put_value.ensures
    ∙ ap (λ (p : PlainShard). record (shard_of p) { rows = written ((c.args.key, c.args.value.now) ∷ []) (shard_of p).rows }) c.self.view_is
