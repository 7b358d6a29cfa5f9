-- It is sealed, or there is no log.
use Rattle.std.proofs.Common.{◌≡◌, ◌∙◌, refl, ap, Err}
use Rattle.tau_scan.specs.declared.fault.LogFault.{LogFault}
use Rattle.tau_scan.specs.declared.fault.LogRefusal.{LogRefusal}
use Rattle.tau_scan.specs.declared.fault.LogRefusal.TheVariants as refusals
use Rattle.tau_follow.proofs.Listed.{refused_is}
use Rattle.tau_follow.proofs.follower.Follower.seal.Goals as goal

pub returns-in-Ok-clause-ok : goal.returns-in-Ok-clause-ok
returns-in-Ok-clause-ok c = λ f n fed s h. (c.in-Ok.sealed.log, record { log_is = refl; recovered = c.in-Ok.ensures.ok f n fed s h.state })

pub returns-in-Err-Bad-clause-bad : goal.returns-in-Err-Bad-clause-bad
returns-in-Err-Bad-clause-bad c = λ f n fed s fault h e.
    (let same : c.in-Err-Bad.fault ≡ fault = refused_is c.in-Err-Bad.fault fault e in
    c.in-Err-Bad.ensures.bad f n fed s fault h.state (ap (λ (z : LogRefusal). Err z) (c.in-Err-Bad.field-0-is ∙ ap (λ (z : LogFault). refusals.Bad z) same)))
