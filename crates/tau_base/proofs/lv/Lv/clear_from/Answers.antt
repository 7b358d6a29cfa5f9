use Rattle.std.proofs.Common.{◌≤◌, length, inl, inr, arith}
use Rattle.std.proofs.lemmas.Bool.Decides.{leb_tells}
use Rattle.tau_base.proofs.Vectors.{beyond}
use Rattle.tau_base.proofs.lv.Lv.clear_from.Goals as goal

pub returns-clause-high : goal.returns-clause-high
returns-clause-high c = λ k le.
    let all : length c.loop-j.self ≤ c.loop-j.j = omega arith in
    elim (leb_tells c.loop-j.j k) [
      | inl h ↦ beyond c.loop-j.self k (omega (arith, all, h.1))
      | inr h ↦ c.loop-j.invariant.2 k le h.1
    ]
