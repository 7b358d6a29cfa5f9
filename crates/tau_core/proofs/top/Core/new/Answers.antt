use Rattle.std.proofs.Common.{List, ℕ, length, ap, arith}
use Rattle.std.proofs.lemmas.List.{length-replicate}
use Rattle.tau_text.specs.Canonical.{declarations_text}
use Rattle.tau_core.specs.Opens.{catalogue_size}
use Rattle.tau_base.specs.Modes.{format_of}
use Rattle.tau_base.proofs.Modes.{streams_most}
use Rattle.tau_core.proofs.top.Core.new.Goals as goal

pub fresh-requires-clause-high : goal.fresh-requires-clause-high
fresh-requires-clause-high c = omega (arith, c.from.ensures, c.requires.n_high, streams_most (format_of c.args.mode))

pub open-requires-clause-streams : goal.open-requires-clause-streams
open-requires-clause-streams c =
    let ends = c.in_ok-opening.ensures.ends in
    omega (arith, ap (λ (l : List ℕ). length l) ends, length-replicate {A = ℕ} c.from.result (catalogue_size (declarations_text c.args.load.now.declarations)), c.from.ensures, c.requires.n_high)
