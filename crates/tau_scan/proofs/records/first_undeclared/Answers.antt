-- The next record names only what is declared, or it is the first that does not.
use Rattle.std.proofs.Common.{rules, arith, sym, refl, ◌∙◌}
use Rattle.std.specs.Prelude.{true, false, ◌≡◌}
use Rattle.tau_scan.specs.Reading.{is_declared}
use Rattle.tau_scan.proofs.Streams.{read_as, undeclared_here, declared_here, all_declared}
use Rattle.tau_scan.proofs.records.first_undeclared.Goals as goal

pub returns-then-not-branch : goal.returns-then-not-branch
returns-then-not-branch c =
    let fails : is_declared c.args.declarations.now c.placed-item.result.entry ≡ false = search rules in
    sym (c.loop-placed.invariant ∙ undeclared_here c.args.declarations.now c.args.records.now c.loop-placed.placed-index c.placed-item.result
    (read_as c.args.records.now c.loop-placed.placed-index c.placed-item.result c.placed-item.result c.loop-placed-test.true c.placed-item.is refl) fails)

pub loop-placed-preserved : goal.loop-placed-preserved
loop-placed-preserved c =
    let passes : is_declared c.args.declarations.now c.placed-item.result.entry ≡ true = search rules in
    c.loop-placed.invariant ∙ declared_here c.args.declarations.now c.args.records.now c.loop-placed.placed-index c.placed-item.result
    (read_as c.args.records.now c.loop-placed.placed-index c.placed-item.result c.placed-item.result c.loop-placed-test.true c.placed-item.is refl) passes

pub returns : goal.returns
returns c = sym (c.loop-placed.invariant ∙ all_declared c.args.declarations.now c.args.records.now c.loop-placed.placed-index (omega (arith, c.loop-placed-test.false)))
