use Rattle.std.proofs.Common.{sym, ap, ◌∙◌, ℕ}
use Rattle.tau_base.specs.declared.value.Mode.{Mode}
use Rattle.tau_shard.specs.Read.{entry_of}
use Rattle.tau_shard.specs.Blocks.{against}
use Rattle.tau_shard.proofs.Masks.{against_read, against_write}
use Rattle.tau_shard.proofs.entry.conflicting.Goals as goal

pub returns-in-Read : goal.returns-in-Read
returns-in-Read c = against_read c.args.entry.now ∙ ap (λ (m : Mode). λ (u : ℕ). against m ((entry_of c.args.entry.now).holders u)) (sym c.in-Read.is)

pub returns-in-Write : goal.returns-in-Write
returns-in-Write c = c.either.ensures ∙ against_write c.args.entry.now ∙ ap (λ (m : Mode). λ (u : ℕ). against m ((entry_of c.args.entry.now).holders u)) (sym c.in-Write.is)
