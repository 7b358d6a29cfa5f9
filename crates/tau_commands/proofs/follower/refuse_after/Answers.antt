use Rattle.std.proofs.Common.{◌≡◌, ◌++◌, List, ℕ, inl, refl, subst, rules}
use Rattle.tau_disk.specs.Disk.{Rose}
use Rattle.tau_run.specs.RunFacts.{WroteFront}
use Rattle.tau_commands.specs.Fault.{fault_text}
use Rattle.tau_commands.specs.Outside.{Wrote}
use Rattle.tau_commands.proofs.Answering.{told_front}
use Rattle.tau_commands.proofs.follower.refuse_after.Goals as goal

pub returns-in-Ok-extend_from_slice : goal.returns-in-Ok-extend_from_slice
returns-in-Ok-extend_from_slice g c =
    let same : c.deref.result.now ≡ c.args.lines.items ++ fault_text c.args.status = search rules in
    inl (
      refl,
      subst (λ (l : List ℕ). WroteFront (Wrote g.K.Sink.tells (g.K.Sink.held c.args.sink.now) (g.K.Sink.held c.write_all.new.sink)) (Rose (g.K.Sink.faults c.args.sink.now) (g.K.Sink.faults c.write_all.new.sink)) l) same
          (told_front c.write_all.result (Wrote g.K.Sink.tells (g.K.Sink.held c.args.sink.now) (g.K.Sink.held c.write_all.new.sink)) (g.K.Sink.faults c.args.sink.now) (g.K.Sink.faults c.write_all.new.sink) c.deref.result.now
          c.write_all.ensures.ok c.write_all.ensures.err c.write_all.ensures.cause),
    )
