use Rattle.std.proofs.Common.{◌∙◌, sym, arith}
use Rattle.tau_stream.specs.declared.flush.Flush.TheVariants as flush
use Rattle.tau_run.proofs.Flushes.{made_goes, made_stops}
use Rattle.tau_crew.proofs.Driving.{driven_broke, driven_flushed, left_long}
use Rattle.tau_crew.proofs.flush.flush.Goals as goal

pub persist-requires-clause-high : goal.persist-requires-clause-high
persist-requires-clause-high g c =
    let (format, n, j, base, w0, d) = c.requires.driven in
    let e = left_long format n j base w0 c.args.seat.now c.args.writer.now d c.requires.works in
    omega (arith, e, c.requires.all)

pub returns-in-Ok-clause-keeps : goal.returns-in-Ok-clause-keeps
returns-in-Ok-clause-keeps g c = λ format n j base w0 d.
    (driven_flushed format n j base w0 g.met.D.Disk.seen_now g.met.D.Disk.counts_now g.met.D.Disk.only_now c.args.seat.now c.persist.new.self c.args.writer.now c.flush_gated.new.self d c.requires.works c.args.upto c.requires.all c.flush_gated.ensures.flushes.moments c.flush_gated.ensures.flushes.faults
    c.agrees.ensures c.persist.ensures.knows c.in-Ok.ensures.flushed.durable c.in-Ok.ensures.flushed.left c.in-Ok.ensures.flushed.works c.in-Ok.ensures.flushed.done
    (λ tells. made_goes g.D.Disk c.args.writer.now.disk c.flush_gated.new.self.disk c.in-Ok.field-0 c.flush_gated.result c.in-Ok.is (c.flush_gated.ensures.flushes.plan tells (λ e. let bad = sym c.in-Ok.is ∙ c.flush_gated.ensures.flushes.idle.1 e in cc)))).0

pub returns-in-Err-Failed-clause-keeps : goal.returns-in-Err-Failed-clause-keeps
returns-in-Err-Failed-clause-keeps g c = λ format n j base w0 d.
    let err = rw c.in-Err-Failed.field-0-is at c.in-Err-Failed.is in
    let failed = c.flush_gated.ensures.flushes.failed err in
    (driven_broke format n j base w0 g.met.D.Disk.seen_now g.met.D.Disk.counts_now g.met.D.Disk.only_now c.args.seat.now c.stop.new.self c.args.writer.now c.flush_gated.new.self d c.requires.works c.args.upto c.requires.all c.flush_gated.ensures.flushes.moments c.flush_gated.ensures.flushes.faults
    c.stop.ensures.knows c.in-Err-Failed.ensures.stays.durable failed.1 failed.0 c.in-Err-Failed.ensures.stays.reached
    (λ tells. made_stops g.D.Disk c.args.writer.now.disk c.flush_gated.new.self.disk flush.Failed c.flush_gated.result err (c.flush_gated.ensures.flushes.plan tells (λ e. let bad = sym err ∙ c.flush_gated.ensures.flushes.idle.1 e in cc)))).0
