-- The slot is full, with a recovery of the log.
use Rattle.std.proofs.Common.{refl, sym, ap, ◌∙◌, ◌≡◌, Some, subst}
use mathlib.Core.Option.{some-injective}
use Rattle.std.specs.Option.{IsSome}
use Rattle.tau_replay.specs.declared.turns.Replay.{Replay}
use Rattle.tau_replay.specs.Rule.{Boxed}
use Rattle.tau_replay.specs.Sound.{AreWorking}
use Rattle.tau_replay.proofs.Steps.{closes_part}
use Rattle.tau_replay.proofs.lock.Lock.close.Goals as goal

pub unwrap-part-requires : goal.unwrap-part-requires
unwrap-part-requires c =
    let known = closes_part _ _ _ _ _ c.requires.whole.1 c.requires.whole.0.1 c.close_with-closed.ensures.values.2 in
    let same : Some known.0 ≡ c.take.result = some-injective _ _ (sym known.1 ∙ c.take.ensures.value) in
    subst IsSome same refl

pub returns : goal.returns
returns c = record {
  working =
      let known = closes_part _ _ _ _ _ c.requires.whole.1 c.requires.whole.0.1 c.close_with-closed.ensures.values.2 in
      let same : Some known.0 ≡ Some c.unwrap-part.result = some-injective _ _ (sym known.1 ∙ c.take.ensures.value) ∙ c.unwrap-part.ensures in
      let is : c.unwrap-part.result ≡ known.0 = cc in
      subst (λ (r : Replay). AreWorking c.args.seat.me.0.log r) (ap (λ (b : Boxed). b.value.replay) (sym is) ∙ ap (λ p. p.replay) (sym c.into_inner.ensures)) known.2;
}
