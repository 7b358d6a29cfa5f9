-- One row more is the same.
use Rattle.std.proofs.Common.{rules}
use Rattle.tau_base.specs.declared.value.Key.{Key}
use Rattle.tau_base.specs.declared.value.Value.TheVariants.{Int}
use Rattle.std.specs.Prelude.{ℤ}
use Rattle.tau_inspect.proofs.Alike.{images_more}
use Rattle.tau_inspect.proofs.same.same_numbers.Goals as goal

pub loop-i-preserved : goal.loop-i-preserved
loop-i-preserved c =
    images_more (λ (r : Key × ℤ). (r.0, Int r.1)) c.args.rows.now c.args.other.now c.loop-i.i _ c.index-other-i.result c.loop-i-test.true (search rules) c.index-other-i.is
    (c.same_number.ensures.0 (search rules)) c.loop-i.invariant
