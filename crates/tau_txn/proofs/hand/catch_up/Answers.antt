use Rattle.std.proofs.Common.{◌≡◌, List, ◌∷◌, sym, ap, ◌∙◌}
use Rattle.std.specs.Prelude.{Some}
use Rattle.std.specs.Map.{lookup}
use Rattle.std.specs.Option.{option_copied}
use Rattle.tau_base.specs.Database.{same_key}
use Rattle.tau_proc.specs.declared.reply.Want.TheVariants.{Read}
use Rattle.tau_proc.specs.Progress.{ahead, next_want}
use Rattle.tau_base.specs.declared.value.Value.{Value}
use Rattle.tau_txn.proofs.Follow.{follows_again, read_wants}
use Rattle.tau_txn.proofs.hand.catch_up.Goals as goal

pub loop-key-preserved : goal.loop-key-preserved
loop-key-preserved c =
    let wants : next_want c.loop-key.machine ≡ Read c.in-Read.key = sym c.want.ensures ∙ c.in-Read.is in
    let found : lookup (same_key c.in-Read.key) c.args.seen.now ≡ Some c.in-Some.value.now = sym c.lent_at.ensures ∙ ap option_copied c.in-Some.is in
    let gives : (vs : List Value) → ahead c.give.new.self vs ≡ ahead c.loop-key.machine (c.in-Some.value.now ∷ vs) = c.give.ensures.stands in
    let granted : c.give.new.self.granted ≡ c.loop-key.machine.granted = c.give.ensures.granted in
    record {
      follows = λ procs call f. follows_again procs call c.args.seen.now c.loop-key.machine c.in-Read.key c.in-Some.value.now c.give.new.self (read_wants c.loop-key.machine c.in-Read.key wants)
          gives granted (c.loop-key.invariant.follows procs call f) found;
      granted = granted ∙ c.loop-key.invariant.granted;
    }
