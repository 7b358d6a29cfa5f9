-- The key is held in write mode until it is freed, and the three steps put the row.
use Rattle.std.proofs.Common.{◌≡◌, ap, ◌∙◌, rules}
use Rattle.std.specs.Prelude.{Some, is_some}
use Rattle.tau_base.specs.declared.value.Mode.TheVariants.{Write}
use Rattle.tau_shard.specs.Shard.{Shard, entry_in, shard_locked}
use Rattle.tau_shard.specs.Read.{shard_of}
use Rattle.tau_shard.proofs.Bridge.{locked_held}
use Rattle.tau_core.proofs.RowPuts.{row_put}
use Rattle.tau_core.proofs.parts.put_row.Goals as goal

pub free-requires-clause-held : goal.free-requires-clause-held
free-requires-clause-held c =
    let locked : shard_of c.lock_key.new.self ≡ shard_locked (shard_of c.args.part.now) 0 c.args.key Write = search rules in
    let held : (entry_in (shard_of c.lock_key.new.self) c.args.key).holders 0 ≡ Some Write = ap (λ (s : Shard). (entry_in s c.args.key).holders 0) locked ∙ locked_held (shard_of c.args.part.now) 0 c.args.key Write in
    ap is_some held

pub free-requires-clause-writes : goal.free-requires-clause-writes
free-requires-clause-writes c =
    let locked : shard_of c.lock_key.new.self ≡ shard_locked (shard_of c.args.part.now) 0 c.args.key Write = search rules in
    λ e. ap (λ (s : Shard). (entry_in s c.args.key).holders 0) locked ∙ locked_held (shard_of c.args.part.now) 0 c.args.key Write

pub returns : goal.returns
returns c =
    let locked : shard_of c.lock_key.new.self ≡ shard_locked (shard_of c.args.part.now) 0 c.args.key Write = search rules in
    row_put c.args.floor.now c.args.key c.args.value c.args.part.now c.lock_key.new.self c.free.new.self c.drop_covered.new.self c.requires locked c.free.ensures c.drop_covered.ensures.dropped
