-- The value that is noted is the one that the machine is given.
use Rattle.std.proofs.Common.{rules, ◌≡◌, ◌++◌, ◌∷◌, [], sym, subst, List}
use Rattle.tau_base.specs.declared.value.Key.{Key}
use Rattle.tau_base.specs.declared.value.Value.{Value}
use Rattle.tau_replay.specs.Result.{IsTrying}
use Rattle.tau_replay.proofs.Tries.{trying_read}
use Rattle.tau_replay.proofs.outcome.Scratch.give.Goals as goal

pub returns-in-Ok-clause-trying : goal.returns-in-Ok-clause-trying
returns-in-Ok-clause-trying c procs call trying _ =
    let pushed : c.push.new.self.items ≡ c.args.self.now.reads.items ++ (c.args.key, c.args.value.now) ∷ [] = search rules in
    subst (λ (rs : List (Key × Value)). IsTrying procs call rs c.give_lent.new.self) (sym pushed)
    (trying_read procs call c.args.self.now.reads.items c.args.self.now.machine c.args.key c.args.value.now c.give_lent.new.self trying c.requires.wants c.give_lent.ensures.stands c.give_lent.ensures.granted)
