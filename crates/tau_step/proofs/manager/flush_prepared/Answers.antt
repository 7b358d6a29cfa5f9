use Rattle.std.proofs.Common.{sym, subst, ◌∙◌}
use Rattle.tau_stream.specs.declared.flush.Flush.TheVariants as flush
use Rattle.tau_step.specs.declared.manager.Managing.TheVariants as did
use Rattle.tau_core.specs.Answered.{reached_by}
use Rattle.tau_run.proofs.Flushes.{made_goes, made_stops}
use Rattle.tau_stream.specs.Writer.{has_failed}
use Rattle.tau_step.specs.Keeping.{FlushTurns}
use Rattle.tau_step.proofs.Counted.{flushed_part, flushed_whole}
use Rattle.tau_step.proofs.Flushing.{flush_done, flush_failed, flush_idle}
use Rattle.tau_step.proofs.manager.flush_prepared.Goals as goal

pub returns-in-Ok : goal.returns-in-Ok
returns-in-Ok g c = λ catalogue K h es told stands size l.
    flush_done c.args.stream catalogue c.args.upto c.args.writer.now c.flush.new.self c.args.core.now c.persist.new.self told K h es stands c.requires.there size l
    (λ e. let bad = sym c.in-Ok.is ∙ c.flush.ensures.flushes.idle.1 e in cc)
    c.in-Ok.ensures.flushed.durable c.in-Ok.ensures.flushed.left c.in-Ok.ensures.flushed.works c.in-Ok.ensures.flushed.done c.flush.ensures.flushes.moments
    (λ tells. made_goes g.D.Disk c.args.writer.now.disk c.flush.new.self.disk c.in-Ok.field-0 c.flush.result c.in-Ok.is (c.flush.ensures.flushes.plan tells (λ e. let bad = sym c.in-Ok.is ∙ c.flush.ensures.flushes.idle.1 e in cc)))
    (λ tells. flushed_whole g.D.Disk c.in-Ok.field-0 c.flush.result (has_failed c.flush.new.self) c.args.writer.now.disk c.flush.new.self.disk c.in-Ok.is c.in-Ok.ensures.flushed.works (c.flush.ensures.flushes.plan tells (λ e. let bad = sym c.in-Ok.is ∙ c.flush.ensures.flushes.idle.1 e in cc)) (c.flush.ensures.flushes.last tells))
    c.flush.ensures.flushes.faults
    (reached_by c.persist.result) (c.persist.ensures K h stands)

pub returns-in-Err-Failed : goal.returns-in-Err-Failed
returns-in-Err-Failed g c = λ catalogue K h es told stands size l.
    let err = rw c.in-Err-Failed.field-0-is at c.in-Err-Failed.is in
    let failed = c.flush.ensures.flushes.failed err in
    flush_failed c.args.stream catalogue c.args.upto c.args.writer.now c.flush.new.self c.args.core.now c.stop.new.self told K h es stands c.requires.there size l g.met.D.Disk.counts_now g.met.D.Disk.only_now
    (λ e. let bad = sym err ∙ c.flush.ensures.flushes.idle.1 e in cc)
    c.in-Err-Failed.ensures.stays.durable c.in-Err-Failed.ensures.stays.left (c.flush.ensures.flushes.stops err) failed.1 failed.0 c.flush.ensures.flushes.moments c.in-Err-Failed.ensures.stays.reached
    (λ tells. made_stops g.D.Disk c.args.writer.now.disk c.flush.new.self.disk flush.Failed c.flush.result err (c.flush.ensures.flushes.plan tells (λ e. let bad = sym err ∙ c.flush.ensures.flushes.idle.1 e in cc)))
    (λ tells. flushed_part g.D.Disk flush.Failed c.flush.result (has_failed c.flush.new.self) c.args.writer.now.disk c.flush.new.self.disk err failed.1 (c.flush.ensures.flushes.plan tells (λ e. let bad = sym err ∙ c.flush.ensures.flushes.idle.1 e in cc)) (c.flush.ensures.flushes.last tells))
    c.flush.ensures.flushes.faults
    c.durable-at.result (c.durable-at.ensures ∙ c.in-Err-Failed.ensures.stays.durable ∙ l.durable) (reached_by c.stop.result) (c.stop.ensures K h stands)

pub returns-in-Err-Idle : goal.returns-in-Err-Idle
returns-in-Err-Idle g c = λ catalogue K h es told stands size l.
    subst (λ w. FlushTurns c.args.stream catalogue c.args.writer.now w c.args.core.now c.args.core.now told K h es did.Idle) (sym (c.flush.ensures.flushes.idle_same (rw c.in-Err-Idle.field-0-is at c.in-Err-Idle.is)))
    (flush_idle c.args.stream catalogue c.args.upto c.args.writer.now c.args.core.now told K h es stands l (c.flush.ensures.flushes.idle.0 (rw c.in-Err-Idle.field-0-is at c.in-Err-Idle.is)))

pub returns-in-Err-NoMemory : goal.returns-in-Err-NoMemory
returns-in-Err-NoMemory g c = absurd (c.flush.ensures.flushes.memory (rw c.in-Err-NoMemory.field-0-is at c.in-Err-NoMemory.is))
