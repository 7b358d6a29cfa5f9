use Rattle.std.proofs.Common.{ℕ, refl, sym, arith, ap, ◌≡◌, ◌∙◌}
use Rattle.std.specs.Prelude.{Ok, Err, slice_set}
use Rattle.std.proofs.lemmas.Result.{err_from_is_err_and}
use Rattle.tau_step.specs.declared.manager.Managing.TheVariants as did
use Rattle.tau_step.proofs.ManagerRuns.{got_of, is_held, manage_manages, manage_same, manage_fewer}
use Rattle.tau_step.proofs.run.Run.manage.Goals as goal

pub index_mut-requires : goal.index_mut-requires
index_mut-requires g c = omega (arith, c.from-at.ensures, c.requires.there, c.requires.on.streams, c.requires.on.along.kept.count)

pub manager_turn-requires-clause-there : goal.manager_turn-requires-clause-there
manager_turn-requires-clause-there g c = omega (arith, c.requires.there, c.requires.on.streams)

pub manager_turn-requires-clause-held : goal.manager_turn-requires-clause-held
manager_turn-requires-clause-held g c =
    is_held g.met.D.Disk.seen_now c.args.writers.now.items _ c.args.stream c.index_mut.result.now c.index_mut.result.now (got_of c.args.writers.now.items c.from-at.result c.args.stream c.index_mut.result.now c.from-at.ensures (omega (arith, c.from-at.ensures, c.requires.there, c.requires.on.streams, c.requires.on.along.kept.count)) c.index_mut.ensures.value) refl c.args.self.now c.args.self.now c.requires.on c.requires.there

pub returns-in-Failed-clause-manages : goal.returns-in-Failed-clause-manages
returns-in-Failed-clause-manages g c =
    manage_manages g.met.D.Disk.seen_now c.args.writers.now.items _ c.args.stream c.index_mut.result.now c.manager_turn.new.writer (got_of c.args.writers.now.items c.from-at.result c.args.stream c.index_mut.result.now c.from-at.ensures (omega (arith, c.from-at.ensures, c.requires.there, c.requires.on.streams, c.requires.on.along.kept.count)) c.index_mut.ensures.value) (ap (λ (i : ℕ). slice_set c.args.writers.now.items i c.manager_turn.new.writer) c.from-at.ensures)
    c.args.self.now _ c.requires.on c.requires.there refl refl refl (Ok did.Failed) refl (rw c.in-Failed.is at c.in_ok-manager_turn.ensures) (c.lowest-self.ensures.none, c.lowest-self.ensures.some)

pub returns-in-Failed-clause-same : goal.returns-in-Failed-clause-same
returns-in-Failed-clause-same g c =
    manage_same g.met.D.Disk.seen_now c.args.writers.now.items _ c.args.stream c.index_mut.result.now c.manager_turn.new.writer (got_of c.args.writers.now.items c.from-at.result c.args.stream c.index_mut.result.now c.from-at.ensures (omega (arith, c.from-at.ensures, c.requires.there, c.requires.on.streams, c.requires.on.along.kept.count)) c.index_mut.ensures.value) refl
    c.args.self.now (record (c.args.self.now) { core = c.manager_turn.new.core }) c.requires.on c.requires.there did.Failed (rw c.in-Failed.is at c.in_ok-manager_turn.ensures)

pub returns-in-Flushed-clause-manages : goal.returns-in-Flushed-clause-manages
returns-in-Flushed-clause-manages g c =
    manage_manages g.met.D.Disk.seen_now c.args.writers.now.items _ c.args.stream c.index_mut.result.now c.manager_turn.new.writer (got_of c.args.writers.now.items c.from-at.result c.args.stream c.index_mut.result.now c.from-at.ensures (omega (arith, c.from-at.ensures, c.requires.there, c.requires.on.streams, c.requires.on.along.kept.count)) c.index_mut.ensures.value) (ap (λ (i : ℕ). slice_set c.args.writers.now.items i c.manager_turn.new.writer) c.from-at.ensures)
    c.args.self.now _ c.requires.on c.requires.there refl refl refl (Ok did.Flushed) c.note.ensures (rw c.in-Flushed.is at c.in_ok-manager_turn.ensures) refl

pub returns-in-Flushed-clause-same : goal.returns-in-Flushed-clause-same
returns-in-Flushed-clause-same g c =
    manage_same g.met.D.Disk.seen_now c.args.writers.now.items _ c.args.stream c.index_mut.result.now c.manager_turn.new.writer (got_of c.args.writers.now.items c.from-at.result c.args.stream c.index_mut.result.now c.from-at.ensures (omega (arith, c.from-at.ensures, c.requires.there, c.requires.on.streams, c.requires.on.along.kept.count)) c.index_mut.ensures.value) refl
    c.args.self.now (record (c.args.self.now) { core = c.manager_turn.new.core }) c.requires.on c.requires.there did.Flushed (rw c.in-Flushed.is at c.in_ok-manager_turn.ensures)

pub returns-in-Idle-clause-manages : goal.returns-in-Idle-clause-manages
returns-in-Idle-clause-manages g c =
    manage_manages g.met.D.Disk.seen_now c.args.writers.now.items _ c.args.stream c.index_mut.result.now c.manager_turn.new.writer (got_of c.args.writers.now.items c.from-at.result c.args.stream c.index_mut.result.now c.from-at.ensures (omega (arith, c.from-at.ensures, c.requires.there, c.requires.on.streams, c.requires.on.along.kept.count)) c.index_mut.ensures.value) (ap (λ (i : ℕ). slice_set c.args.writers.now.items i c.manager_turn.new.writer) c.from-at.ensures)
    c.args.self.now _ c.requires.on c.requires.there refl refl refl (Ok did.Idle) refl (rw c.in-Idle.is at c.in_ok-manager_turn.ensures) refl

pub returns-in-Idle-clause-same : goal.returns-in-Idle-clause-same
returns-in-Idle-clause-same g c =
    manage_same g.met.D.Disk.seen_now c.args.writers.now.items _ c.args.stream c.index_mut.result.now c.manager_turn.new.writer (got_of c.args.writers.now.items c.from-at.result c.args.stream c.index_mut.result.now c.from-at.ensures (omega (arith, c.from-at.ensures, c.requires.there, c.requires.on.streams, c.requires.on.along.kept.count)) c.index_mut.ensures.value) refl
    c.args.self.now (record (c.args.self.now) { core = c.manager_turn.new.core }) c.requires.on c.requires.there did.Idle (rw c.in-Idle.is at c.in_ok-manager_turn.ensures)

pub returns-in-Failed-clause-fewer : goal.returns-in-Failed-clause-fewer
returns-in-Failed-clause-fewer g c = λ e. absurd (let bad : Ok did.Failed ≡ Ok did.Flushed = e in cc)

pub returns-in-Flushed-clause-fewer : goal.returns-in-Flushed-clause-fewer
returns-in-Flushed-clause-fewer g c = λ e.
    manage_fewer g.met.D.Disk.seen_now c.args.writers.now.items _ c.args.stream c.index_mut.result.now c.manager_turn.new.writer (got_of c.args.writers.now.items c.from-at.result c.args.stream c.index_mut.result.now c.from-at.ensures (omega (arith, c.from-at.ensures, c.requires.there, c.requires.on.streams, c.requires.on.along.kept.count)) c.index_mut.ensures.value) refl
    c.args.self.now (record (c.args.self.now) { core = c.manager_turn.new.core }) c.requires.on c.requires.there did.Flushed (rw c.in-Flushed.is at c.in_ok-manager_turn.ensures) refl

pub returns-in-Idle-clause-fewer : goal.returns-in-Idle-clause-fewer
returns-in-Idle-clause-fewer g c = λ e. absurd (let bad : Ok did.Idle ≡ Ok did.Flushed = e in cc)

pub returns-in_err-manager_turn-clause-manages : goal.returns-in_err-manager_turn-clause-manages
returns-in_err-manager_turn-clause-manages g c =
    rw (err_from_is_err_and c.from_residual.result c.from_residual.ensures.1).1 (manage_manages g.met.D.Disk.seen_now c.args.writers.now.items _ c.args.stream c.index_mut.result.now c.manager_turn.new.writer (got_of c.args.writers.now.items c.from-at.result c.args.stream c.index_mut.result.now c.from-at.ensures (omega (arith, c.from-at.ensures, c.requires.there, c.requires.on.streams, c.requires.on.along.kept.count)) c.index_mut.ensures.value) (ap (λ (i : ℕ). slice_set c.args.writers.now.items i c.manager_turn.new.writer) c.from-at.ensures)
    c.args.self.now _ c.requires.on c.requires.there refl refl refl (Err _) refl c.in_err-manager_turn.ensures refl)

pub returns-in_err-manager_turn-clause-fewer : goal.returns-in_err-manager_turn-clause-fewer
returns-in_err-manager_turn-clause-fewer g c = λ e.
    let p = err_from_is_err_and c.from_residual.result c.from_residual.ensures.1 in
    absurd (let bad : Err p.0 ≡ Ok did.Flushed = sym p.1 ∙ e in cc)
