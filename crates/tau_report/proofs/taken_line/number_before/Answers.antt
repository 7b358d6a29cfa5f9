-- The digits end at `end`, and the space stands before them.
use Rattle.std.proofs.Common.{◌≡◌, ◌+◌, ◌-◌, ◌≤◌, length, decimal, arith}
use Rattle.std.proofs.lemmas.Fmt.{length-decimal-le}
use Rattle.std.proofs.lemmas.List.{drop-set}
use Rattle.tau_report.proofs.taken_line.number_before.Goals as goal

pub write_digits-at-requires : goal.write_digits-at-requires
write_digits-at-requires c =
    let few : length (decimal c.args.number) ≤ 20 = length-decimal-le 20 c.args.number (omega arith) (omega arith) c.ranges.number.fits in
    (omega (arith, few, c.requires.low), c.requires.high)

pub overflow_sub-at : goal.overflow_sub-at
overflow_sub-at c =
    let few : length (decimal c.args.number) ≤ 20 = length-decimal-le 20 c.args.number (omega arith) (omega arith) c.ranges.number.fits in
    omega (arith, few, c.requires.low, c.write_digits-at.ensures.start)

pub returns-clause-near : goal.returns-clause-near
returns-clause-near c =
    let few : length (decimal c.args.number) ≤ 20 = length-decimal-le 20 c.args.number (omega arith) (omega arith) c.ranges.number.fits in
    omega (arith, few, c.requires.low, c.write_digits-at.ensures.start)

pub returns-clause-written : goal.returns-clause-written
returns-clause-written c =
    let few : length (decimal c.args.number) ≤ 20 = length-decimal-le 20 c.args.number (omega arith) (omega arith) c.ranges.number.fits in
    let at = c.write_digits-at.result in
    let e : at - 1 + 1 ≡ at = omega (arith, few, c.requires.low, c.write_digits-at.ensures.start) in
    rw (drop-set c.write_digits-at.new.buf (at - 1) 32 (omega (arith, few, c.requires.low, c.write_digits-at.ensures.start)), e, c.write_digits-at.ensures.written)
