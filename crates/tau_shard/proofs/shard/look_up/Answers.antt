use Rattle.tau_shard.proofs.Stands.{stands_found}
use Rattle.tau_shard.proofs.shard.look_up.Goals as goal

pub returns-in-Some-clause-found : goal.returns-in-Some-clause-found
returns-in-Some-clause-found g c =
    stands_found c.args.map.now.entries c.in-Some.field-0-1.now c.args.key c.in-Some.at c.in-Some.field-0-2.now c.in-Some.ensures.key c.in-Some.ensures.value c.in-Some.ensures.entry
