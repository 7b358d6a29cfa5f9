use Rattle.std.proofs.Common.{◌≡◌, List, ◌∷◌, sym, ap, ◌∙◌}
use Rattle.std.specs.Prelude.{Some}
use Rattle.std.specs.Map.{lookup}
use Rattle.std.specs.Option.{option_copied}
use Rattle.tau_base.specs.Database.{same_key}
use Rattle.tau_base.specs.declared.value.Value.{Value}
use Rattle.tau_proc.specs.declared.reply.Want.TheVariants.{Read}
use Rattle.tau_proc.specs.Progress.{Progress, ahead, next_want}
use Rattle.tau_txn.proofs.Follow.{follows_again, read_wants}
use Rattle.tau_occ.proofs.peeker.run_on.Goals as goal

pub loop-key-preserved : goal.loop-key-preserved
loop-key-preserved c = λ procs call f.
    let same = c.next.ensures.same in
    let wants : next_want c.loop-key.machine ≡ Read c.in-Read.key = sym c.next.ensures.want ∙ c.in-Read.is in
    let found : lookup (same_key c.in-Read.key) c.args.seen.now ≡ Some c.in-Some.value.now = sym c.lent_at.ensures ∙ ap option_copied c.in-Some.is in
    let gives : (vs : List Value) → ahead c.give_lent.new.self vs ≡ ahead c.loop-key.machine (c.in-Some.value.now ∷ vs) =
    (λ vs. c.give_lent.ensures.stands vs ∙ ap (λ (m : Progress). ahead m (c.in-Some.value.now ∷ vs)) same) in
    let granted : c.give_lent.new.self.granted ≡ c.loop-key.machine.granted = c.give_lent.ensures.granted ∙ ap (λ (m : Progress). m.granted) same in
    follows_again procs call c.args.seen.now c.loop-key.machine c.in-Read.key c.in-Some.value.now c.give_lent.new.self (read_wants c.loop-key.machine c.in-Read.key wants)
    gives granted (c.loop-key.invariant procs call f) found
