use Rattle.std.proofs.Common.{◌≡◌, subst, true}
use Rattle.tau_base.specs.Database.{same_key}
use Rattle.tau_base.specs.declared.value.Key.{Key}
use Rattle.tau_base.proofs.Keys.{same_key_is, same_key_itself}
use Rattle.tau_base.proofs.laws.same_key_is_equality.Goals as goal

pub returns : goal.returns
returns c = λ a b. (same_key_is a b, λ e. subst (λ (k : Key). same_key a k ≡ true) e (same_key_itself a))
