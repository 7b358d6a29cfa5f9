-- One stream is looked at, or all are.
use Rattle.std.proofs.Common.{sym, inl, inr, ◌∙◌}
use Rattle.tau_follow.proofs.applier.Applier.reach.Goals as goal

pub returns-then-is_known-clause-known : goal.returns-then-is_known-clause-known
returns-then-is_known-clause-known c = λ s d told.
    (let w = c.is_known.ensures c.if-is_known.true in
    elim told [
      | inl un ↦ absurd (let z = sym un ∙ w.0 in cc z)
      | inr more ↦ elim more [
        | inl lost ↦ absurd (let z = sym lost ∙ w.1 in cc z)
        | inr was ↦ c.reach_one.ensures.known s d was w.1
      ]
    ])

pub returns-then-is_known-clause-err : goal.returns-then-is_known-clause-err
returns-then-is_known-clause-err c = c.reach_one.ensures.err

pub returns-clause-known : goal.returns-clause-known
returns-clause-known c = λ s d told. c.reach_all.ensures.known s d
