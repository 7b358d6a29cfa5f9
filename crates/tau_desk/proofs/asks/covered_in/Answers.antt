use Rattle.std.proofs.Common.{ℕ, ◌+◌, ◌≡◌, ◌∙◌, Bool, cond, List, take, sym, ap, arith}
use Rattle.std.specs.Prelude.{Some, slice_get}
use Rattle.std.proofs.lemmas.List.Filters.{length-filter_more}
use Rattle.std.proofs.lemmas.Option.{get_or_from_slice_get, slice_get_within}
use Rattle.tau_base.specs.Vectors.{covers}
use Rattle.tau_model.specs.declared.committed.Committed.{Committed}
use Rattle.tau_desk.specs.Asks.{covered_calls}
use Rattle.tau_desk.proofs.asks.covered_in.Goals as goal
use Rattle.tau_desk.proofs.asks.covered_in.Goals.{then-is_covered, else-is_covered}

-- one more was looked at
covered_more : (positions : List ℕ) (calls : List Committed) (i : ℕ) (call : Committed) → slice_get calls i ≡ Some call →
    covered_calls positions (take (i + 1) calls) ≡ covered_calls positions (take i calls) + cond (covers positions call.lv) 1 0
covered_more positions calls i call is =
    length-filter_more (λ (x : Committed). covers positions x.lv) calls i call (slice_get_within calls i call is)
    ∙ ap (λ (x : Committed). covered_calls positions (take i calls) + cond (covers positions x.lv) 1 0) (get_or_from_slice_get calls i call call is)

pub loop-i-preserved : goal.loop-i-preserved
loop-i-preserved c =
    let positions : List ℕ = c.args.positions.now in
    let calls : List Committed = c.args.calls.now.items in
    let so_far : ℕ = covered_calls positions (take c.loop-i.i calls) in
    let more = covered_more positions calls c.loop-i.i c.at.result c.at.ensures.at in
    let count = c.loop-i.invariant.count in
    let low = c.loop-i.invariant.low in
    elim c.if-is_covered.branch [
      | then-is_covered w ↦
          let one = more ∙ ap (λ (b : Bool). so_far + cond b 1 0) (sym c.is_covered.ensures ∙ w.if-is_covered.true) in
          let new = w.count-is in
          record { count = omega (arith, one, new, count); low = omega (arith, new, low) }
      | else-is_covered w ↦
          let none = more ∙ ap (λ (b : Bool). so_far + cond b 1 0) (sym c.is_covered.ensures ∙ w.if-is_covered.false) in
          let new = w.count-is in
          record { count = omega (arith, none, new, count); low = omega (arith, new, low) }
    ]
