use Rattle.std.proofs.Common.{[], ◌∷◌, sym, ap, ◌∙◌, refl}
use Rattle.std.specs.Option.{option_copied}
use Rattle.tau_base.specs.Database.{written}
use Rattle.tau_shard.specs.Shard.{Shard, shard_freed}
use Rattle.tau_shard.specs.Read.{shard_of}
use Rattle.tau_shard.proofs.shard.Shard.free_by.Goals as goal

pub free_written-requires : goal.free_written-requires
free_written-requires c = record { low = c.requires.low; held = c.requires.writes (rw c.in-Some.is refl) }

pub returns-in-None : goal.returns-in-None
returns-in-None c = c.free_read.ensures ∙ ap (λ o. shard_freed (shard_of c.args.self.now) c.args.worker c.args.key c.args.lv.now (option_copied o)) (sym c.in-None.is)

pub returns-in-Some : goal.returns-in-Some
returns-in-Some c =
    c.write_row.ensures
    ∙ ap (λ (s : Shard). record s { rows = written ((c.args.key, c.in-Some.value.now) ∷ []) s.rows }) c.free_written.ensures.entry
    ∙ ap (λ o. shard_freed (shard_of c.args.self.now) c.args.worker c.args.key c.args.lv.now (option_copied o)) (sym c.in-Some.is)
