use Rattle.std.proofs.Common.{rules, ◌≡◌, ℕ, length, subst, sym, ap, ◌∙◌}
use Rattle.tau_core.specs.declared.state.Load.{Load}
use Rattle.tau_desk.specs.Seats.{PlainHead}
use Rattle.tau_crew.specs.Together.{ClerkWent}
use Rattle.tau_crew.specs.WorkersBack.{AllAreBack}
use Rattle.tau_crew.proofs.WorkPhase.{one_head, phase_back}
use Rattle.tau_crew.proofs.work_phase.run_phase.Goals as goal

pub returns-clause-back : goal.returns-clause-back
returns-clause-back g c = λ bases ws held begun dealt start tells heard works.
    let first = c.args.desk.now.table.shared.key.value in
    let wide : length first.load.opening.ends ≡ first.load.streams = ap (length {A = ℕ}) (sym c.requires.run.opening.ends) ∙ c.requires.run.stands.sound.ends in
    let b = c.work_beside-short.ensures.back in
    let same : b.0 ≡ c.taken.result = one_head b.0 c.taken.result (sym b.1 ∙ c.taken.ensures) in
    let back : AllAreBack first.load c.args.head c.taken.result c.work_beside-short.result = subst (λ (h : PlainHead). AllAreBack first.load c.args.head h c.work_beside-short.result) same b.2 in
    let told = subst (λ (l : Load). ClerkWent l g.K.Sink.tells (g.K.Sink.held c.args.sink.now) (g.K.Sink.held c.work_beside-short.new.sink) (g.K.Sink.faults c.args.sink.now) (g.K.Sink.faults c.work_beside-short.new.sink) c.args.clerk.now c.work_beside-short.new.clerk) c.args.desk.now.same_load c.work_beside-short.ensures.clerk in
    phase_back first c.args.desk.now.table.shared.table_id bases ws wide begun g.K.Sink.tells held (g.K.Sink.held c.args.sink.now) (g.K.Sink.held c.work_beside-short.new.sink) (g.K.Sink.faults c.args.sink.now) (g.K.Sink.faults c.work_beside-short.new.sink)
    c.args.head c.taken.result c.args.managers.now c.work_beside-short.new.managers c.args.clerk.now c.work_beside-short.new.clerk c.work_beside-short.result c.requires.ready.own c.requires.ready.opened back start dealt c.work_beside-short.ensures.managers (search rules)
    c.requires.clerk.own c.requires.clerk.opened tells told heard works
