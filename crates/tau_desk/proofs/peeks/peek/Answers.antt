use Rattle.std.proofs.Common.{◌≡◌, ℕ, ap, subst, ◌∙◌}
use Rattle.tau_base.specs.Shards.{shard_number}
use Rattle.tau_shard.specs.Plain.{PlainShard}
use Rattle.tau_shard.specs.Read.{shard_of}
use Rattle.tau_rule.specs.Steps.{Agrees}
use Rattle.tau_desk.proofs.peeks.peek.Goals as goal

pub returns-clause-peeked : goal.returns-clause-peeked
returns-clause-peeked g c =
    let held = c.take_shard-shard.ensures.held in
    let number : c.from-number.result ≡ shard_number c.args.key = c.from-number.ensures ∙ c.shard_of.ensures.same in
    record {
      taken = record {
        part = held.0;
        shard = shard_of c.take_shard-shard.result.value;
        is = held.2;
        agrees = subst (λ (k : ℕ). Agrees c.args.desk.now.table.shared.key.value c.args.seat.now.me.0 k held.0) number held.3;
      };
      value_is = c.value-value.ensures ∙ ap (λ (s : PlainShard). (shard_of s).rows c.args.key) c.deref.ensures;
    }
