use Rattle.std.proofs.Common.{ℕ, List, ◌+◌, ◌++◌, sym, subst, arith, length}
use Rattle.std.specs.Prelude.{slice_set}
use Rattle.tau_block.specs.Image.{IsLog, tail_of}
use Rattle.tau_block.proofs.Blocks.{log_longer, log_opened}
use Rattle.tau_block.proofs.write.append_tail.Goals as goal

pub returns-in-Ok-clause-closed : goal.returns-in-Ok-clause-closed
returns-in-Ok-clause-closed c = λ f n j gate_at content ends is.
    subst (λ (l : List ℕ). IsLog f n j l gate_at content) (sym c.in-Ok.ensures.ok) (log_longer f n j c.args.out.now.items gate_at content is (tail_of c.args.body.now))

pub returns-in-Ok-clause-opened : goal.returns-in-Ok-clause-opened
returns-in-Ok-clause-opened c = λ f n j gate_at content ends is.
    subst (λ (l : List ℕ). IsLog f n j (slice_set l gate_at 1) (gate_at + length (tail_of c.args.body.now)) (content ++ c.args.body.now)) (sym c.in-Ok.ensures.ok)
    (log_opened f n j c.args.out.now.items gate_at content is c.args.body.now c.requires.some (omega (arith, c.requires.most)) ends)
