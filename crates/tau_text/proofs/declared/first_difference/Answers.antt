use Rattle.std.proofs.Common.{◌≡◌, ◌<◌, true, false, length, bytes_eq, sym, ◌∙◌, arith}
use Rattle.std.proofs.lemmas.Grind.{common_steps}
use Rattle.tau_text.proofs.Differences.{same_line, other_line, left_only, right_only, both_done}
use Rattle.tau_text.proofs.declared.first_difference.Goals as goal

pub returns-then-is_empty : goal.returns-then-is_empty
returns-then-is_empty c =
    let l = c.loop-left.left.now in
    let r = c.loop-left.right.now in
    let lt : 0 < length l = grind (arith, common_steps) in
    let z : length r ≡ 0 = grind (arith, common_steps) in
    sym (left_only c.loop-left.n l r lt z) ∙ c.loop-left.invariant.so_far

pub returns-then-ne : goal.returns-then-ne
returns-then-ne c =
    let a = c.whole_line.result in
    let b = c.whole_line-in-loop-left.result in
    let e : bytes_eq a.0.now b.0.now ≡ false = grind (arith, common_steps) in
    sym (other_line c.loop-left.n c.loop-left.left.now c.loop-left.right.now a.0.now b.0.now a.1.now b.1.now c.whole_line.ensures.cut c.whole_line-in-loop-left.ensures.cut e) ∙ c.loop-left.invariant.so_far

pub loop-left-preserved : goal.loop-left-preserved
loop-left-preserved c =
    let a = c.whole_line.result in
    let b = c.whole_line-in-loop-left.result in
    let e : bytes_eq a.0.now b.0.now ≡ true = grind (arith, common_steps) in
    record {
      count = omega (arith, c.whole_line.ensures.shorter, c.loop-left.invariant.count);
      so_far = sym (same_line c.loop-left.n c.loop-left.left.now c.loop-left.right.now a.0.now b.0.now a.1.now b.1.now c.whole_line.ensures.cut c.whole_line-in-loop-left.ensures.cut e) ∙ c.loop-left.invariant.so_far;
    }

pub returns-then-is_empty-2 : goal.returns-then-is_empty-2
returns-then-is_empty-2 c =
    let l = c.loop-left.left.now in
    let r = c.loop-left.right.now in
    let y : length l ≡ 0 = grind (arith, common_steps) in
    let z : length r ≡ 0 = grind (arith, common_steps) in
    sym (both_done c.loop-left.n l r y z) ∙ c.loop-left.invariant.so_far

pub returns-else-is_empty-2 : goal.returns-else-is_empty-2
returns-else-is_empty-2 c =
    let l = c.loop-left.left.now in
    let r = c.loop-left.right.now in
    let y : length l ≡ 0 = grind (arith, common_steps) in
    let lt : 0 < length r = grind (arith, common_steps) in
    sym (right_only c.loop-left.n l r y lt) ∙ c.loop-left.invariant.so_far
