-- The last row's key is not below.
use Rattle.std.proofs.lemmas.Bool.{both_ways}
use Rattle.tau_inspect.proofs.ReadSections.{last_split}
use Rattle.tau_inspect.proofs.sections.is_above.Goals as goal

pub returns-in-len1-up-clause-below : goal.returns-in-len1-up-clause-below
returns-in-len1-up-clause-below c = λ p.
    let w = last_split c.args.rows.now c.last-item.result c.in-len1-up.len_at_least c.last-item.is in
    (w.0, c.last-item.result, w.1, λ e. both_ways c.is_less.result p (c.is_less.ensures.1 e))
