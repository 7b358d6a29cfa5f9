use Rattle.std.proofs.Common.{ℕ, ◌≡◌, ◌+◌, List, [], ◌∷◌, ◌++◌, length, sym, ap, subst, ◌∙◌, rules}
use Rattle.std.specs.Prelude.{Some, slice_get}
use Rattle.tau_shard.specs.Plain.{PlainShard}
use Rattle.tau_core.specs.Opens.{IsShardAtRest}
use Rattle.tau_core.proofs.Pushes.{length_snoc, each_snoc}
use Rattle.tau_core.proofs.RowPuts.{shard_rests}
use Rattle.tau_core.proofs.parts.empty_shards.Goals as goal

pub loop-shard-preserved : goal.loop-shard-preserved
loop-shard-preserved c =
    let xs : List PlainShard = c.loop-shard.all.items in
    let x : PlainShard = c.with_floor.result in
    let more : c.push.new.self.items ≡ xs ++ x ∷ [] = search rules in
    record {
      count = ap length more ∙ length_snoc xs x ∙ ap (λ (n : ℕ). n + 1) c.loop-shard.invariant.count;
      each = subst (λ (l : List PlainShard). (i : ℕ) (s : PlainShard) → slice_get l i ≡ Some s → IsShardAtRest c.args.floor [] i s) (sym more)
          (each_snoc (IsShardAtRest c.args.floor []) xs x c.loop-shard.invariant.each (shard_rests c.args.floor (length xs) x c.with_floor.ensures));
    }
