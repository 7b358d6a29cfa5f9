-- The records that are finished are in flight.
use Rattle.std.proofs.Common.{sym}
use Rattle.tau_log_runs.proofs.pool.a_record_waits_for_another_stream.Goals as goal

pub finish-requires : goal.finish-requires
finish-requires g c = c.take-3.ensures.kept c.in-Taken.third (c.take-2.ensures.kept c.in-Taken.third (c.take.ensures.flying c.in-Taken.third c.in-Taken.is))

pub finish-requires-2 : goal.finish-requires-2
finish-requires-2 g c =
    let third = c.take.ensures.flying c.in-Taken.third c.in-Taken.is in
    let second = c.take-3.ensures.kept c.in-Taken-take.second (c.take-2.ensures.flying c.in-Taken-take.second c.in-Taken-take.is) in
    c.take-4.ensures.kept c.in-Taken-take.second (c.finish.ensures.kept c.in-Taken-take.second second (λ e. c.take-2.ensures.fresh c.in-Taken-take.second c.in-Taken.third c.in-Taken-take.is third (sym e)))

pub finish-requires-3 : goal.finish-requires-3
finish-requires-3 g c = c.take-6.ensures.kept c.in-Taken-take-2.first (c.take-5.ensures.flying c.in-Taken-take-2.first c.in-Taken-take-2.is)
