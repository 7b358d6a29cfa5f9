use Rattle.std.proofs.Common.{sym, ◌∙◌, arith, ◌<◌, ◌≡◌, length, slice_index}
use Rattle.tau_base.proofs.Vectors.{above_covers, at_most_covers, at_most_within}
use Rattle.tau_model.specs.KeptCommitted.{spot_of}
use Rattle.tau_model.proofs.KeptCalls.{lv_length}
use Rattle.tau_model.proofs.committed_list.LentCall.is_covered.Goals as goal

pub returns-then-position : goal.returns-then-position
returns-then-position c =
    let mine = c.position.ensures in
    let theirs = c.position-in-loop-j.ensures.same in
    let more = c.if-position.true in
    let above : slice_index c.args.positions.now c.loop-j.j < slice_index c.args.self.now.lv c.loop-j.j = omega (arith, mine, theirs, more) in
    sym (above_covers c.args.positions.now c.args.self.now.lv c.loop-j.j above)

pub returns : goal.returns
returns c =
    let wide : length c.args.self.now.lv ≡ length c.self.inside.dep.now = (λ i. length (sym c.self.view_is i).lv) ∙ lv_length c.self.inside.dep.now (spot_of c.self.inside.head.now) in
    let last = c.loop-j-test.false in
    sym (at_most_covers c.args.positions.now c.args.self.now.lv (at_most_within c.args.self.now.lv c.args.positions.now (λ k lt. c.loop-j.invariant k (omega (arith, wide, last, lt)))))
