-- The row is there, or comes.
use Rattle.std.proofs.Common.{List, subst}
use Rattle.tau_base.specs.declared.value.Key.{Key}
use Rattle.std.specs.Prelude.{slice_get}
use Rattle.tau_follow.specs.Renewing.{keys_in, IsGap}
use Rattle.tau_follow.proofs.renew.write_row.Goals as goal

pub returns-in-Err-clause-tables : goal.returns-in-Err-clause-tables
returns-in-Err-clause-tables c = λ db t.
    c.come.ensures.tables db t (rw c.as_slice.ensures.value at (c.in-Err.ensures.gap (rw (c.as_slice.ensures.value) t.ascending)))

pub returns-in-Ok-clause-tables : goal.returns-in-Ok-clause-tables
returns-in-Ok-clause-tables c = λ db t. c.change.ensures.tables db t (let e = c.in-Ok.ensures.there in rw c.as_slice.ensures.value at e)
