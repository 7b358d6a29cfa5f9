-- The byte stands at one of four places, or not among them.
use Rattle.std.proofs.Common.{◌≡◌, ◌==◌, ◌+◌, ℕ, false, true, take, get_or, arith}
use Rattle.std.proofs.lemmas.Grind.{common_steps}
use Rattle.tau_inspect.specs.Parts.{lacks}
use Rattle.tau_inspect.proofs.Cutting.{cut_here, lacks_more}
use Rattle.tau_inspect.proofs.parts.cut_at.Goals as goal

pub returns-then-text-i : goal.returns-then-text-i
returns-then-text-i c =
    let t = c.args.text.now in let b : ℕ = c.args.byte in let i : ℕ = c.loop-i.i in
    cut_here b i t (omega arith) c.loop-i.invariant.none (grind (arith, common_steps))

pub returns-then-text-i-2 : goal.returns-then-text-i-2
returns-then-text-i-2 c =
    let t = c.args.text.now in let b : ℕ = c.args.byte in let i : ℕ = c.loop-i.i in
    let other0 : (get_or t i 0 == b) ≡ false = grind (arith, common_steps) in
    let none1 : lacks b (take (i + 1) t) ≡ true = lacks_more b i (i + 1) t (omega arith) (omega arith) c.loop-i.invariant.none other0 in
    cut_here b (i + 1) t (omega arith) none1 (grind (arith, common_steps))

pub returns-then-text-i-3 : goal.returns-then-text-i-3
returns-then-text-i-3 c =
    let t = c.args.text.now in let b : ℕ = c.args.byte in let i : ℕ = c.loop-i.i in
    let other0 : (get_or t i 0 == b) ≡ false = grind (arith, common_steps) in
    let none1 : lacks b (take (i + 1) t) ≡ true = lacks_more b i (i + 1) t (omega arith) (omega arith) c.loop-i.invariant.none other0 in
    let other1 : (get_or t (i + 1) 0 == b) ≡ false = grind (arith, common_steps) in
    let none2 : lacks b (take (i + 2) t) ≡ true = lacks_more b (i + 1) (i + 2) t (omega arith) (omega arith) none1 other1 in
    cut_here b (i + 2) t (omega arith) none2 (grind (arith, common_steps))

pub returns-then-text-i-4 : goal.returns-then-text-i-4
returns-then-text-i-4 c =
    let t = c.args.text.now in let b : ℕ = c.args.byte in let i : ℕ = c.loop-i.i in
    let other0 : (get_or t i 0 == b) ≡ false = grind (arith, common_steps) in
    let none1 : lacks b (take (i + 1) t) ≡ true = lacks_more b i (i + 1) t (omega arith) (omega arith) c.loop-i.invariant.none other0 in
    let other1 : (get_or t (i + 1) 0 == b) ≡ false = grind (arith, common_steps) in
    let none2 : lacks b (take (i + 2) t) ≡ true = lacks_more b (i + 1) (i + 2) t (omega arith) (omega arith) none1 other1 in
    let other2 : (get_or t (i + 2) 0 == b) ≡ false = grind (arith, common_steps) in
    let none3 : lacks b (take (i + 3) t) ≡ true = lacks_more b (i + 2) (i + 3) t (omega arith) (omega arith) none2 other2 in
    cut_here b (i + 3) t (omega arith) none3 (grind (arith, common_steps))

pub loop-i-preserved : goal.loop-i-preserved
loop-i-preserved c =
    let t = c.args.text.now in let b : ℕ = c.args.byte in let i : ℕ = c.loop-i.i in
    let other0 : (get_or t i 0 == b) ≡ false = grind (arith, common_steps) in
    let none1 : lacks b (take (i + 1) t) ≡ true = lacks_more b i (i + 1) t (omega arith) (omega arith) c.loop-i.invariant.none other0 in
    let other1 : (get_or t (i + 1) 0 == b) ≡ false = grind (arith, common_steps) in
    let none2 : lacks b (take (i + 2) t) ≡ true = lacks_more b (i + 1) (i + 2) t (omega arith) (omega arith) none1 other1 in
    let other2 : (get_or t (i + 2) 0 == b) ≡ false = grind (arith, common_steps) in
    let none3 : lacks b (take (i + 3) t) ≡ true = lacks_more b (i + 2) (i + 3) t (omega arith) (omega arith) none2 other2 in
    let other3 : (get_or t (i + 3) 0 == b) ≡ false = grind (arith, common_steps) in
    let none4 : lacks b (take (i + 4) t) ≡ true = lacks_more b (i + 3) (i + 4) t (omega arith) (omega arith) none3 other3 in
    record { within = omega arith; none = none4 }
