use Rattle.std.proofs.Common.{ℕ, ◌+◌, ◌∙◌, Bool, cond, length, take, sym, ap, arith}
use Rattle.tau_crew.specs.EndLeft.{calls_of}
use Rattle.tau_crew.proofs.EndCount.{count_more}
use Rattle.tau_crew.proofs.ending_done.count_of.Goals as goal
use Rattle.tau_crew.proofs.ending_done.count_of.Goals.{then-is_of, else-is_of}

pub loop-i-preserved : goal.loop-i-preserved
loop-i-preserved c =
    let (lv, is) = c.number_at.ensures in
    let so_far : ℕ = length (calls_of c.args.workers c.args.worker (take c.loop-i.i c.args.acks.now)) in
    let more = count_more c.args.workers c.args.worker c.args.acks.now c.loop-i.i c.number_at.result lv is in
    let count = c.loop-i.invariant.count in
    let low = c.loop-i.invariant.low in
    elim c.if-is_of.branch [
      | then-is_of w ↦
          let one = more ∙ ap (λ (b : Bool). so_far + cond b 1 0) (sym c.is_of.ensures ∙ w.if-is_of.true) in
          let new = w.count-is in
          record { count = omega (arith, one, new, count); low = omega (arith, new, low) }
      | else-is_of w ↦
          let none = more ∙ ap (λ (b : Bool). so_far + cond b 1 0) (sym c.is_of.ensures ∙ w.if-is_of.false) in
          let new = w.count-is in
          record { count = omega (arith, none, new, count); low = omega (arith, new, low) }
    ]
