use Rattle.std.proofs.Common.{◌+◌, Bool, false, subst, sym, arith}
use Rattle.tau_core.specs.State.{Plain}
use Rattle.tau_desk.specs.Ends.{calls_each}
use Rattle.tau_desk.specs.Seats.{PlainHead}
use Rattle.tau_crew.specs.WorkersBack.{AreReady, WorkersBack}
use Rattle.tau_crew.proofs.WorkBack.{none_back, one_back}
use Rattle.tau_crew.proofs.work_all.+fn-work_all-join+arg3+work_all.Goals as goal
use Rattle.tau_base.proofs.Logic.{or_alone}

pub refuse-requires-clause-ready : goal.refuse-requires-clause-ready
refuse-requires-clause-ready g t c = subst (λ (h : PlainHead). AreReady h c.args.first (c.args.first + (c.args.others + 1))) (sym c.in_default.ensures.refused) c.requires.ready

pub returns-then-others-eq0 : goal.returns-then-others-eq0
returns-then-others-eq0 g t c =
    let origin : Plain = c.args.desk.now.table.shared.key.value in
    let last = c.if-others-eq0.true in
    let none = none_back origin.load (c.args.first + 1) (c.args.first + (c.args.others + 1)) c.part.new.head (omega (arith, last)) in
    subst (λ (b : Bool). WorkersBack origin.load c.args.first (c.args.first + (c.args.others + 1)) c.args.head c.back.new.head b) (or_alone c.run_seat-seat.result.1)
    (one_back origin.load c.args.first (c.args.first + (c.args.others + 1)) (calls_each origin.load) c.args.head c.part.new.head c.part.new.head c.back.new.head c.in-Some.seat c.run_seat-seat.result.0 c.run_seat-seat.result.1 false
    c.part.ensures.was c.in-Some.ensures.split (omega arith) c.requires.ready c.run_seat-seat.ensures none c.back.ensures)

pub returns : goal.returns
returns g t c =
    let origin : Plain = c.args.desk.now.table.shared.key.value in
    subst (λ (b : Bool). WorkersBack origin.load c.args.first (c.args.first + (c.args.others + 1)) c.args.head c.back-2.new.head b) (sym c.either.ensures)
    (one_back origin.load c.args.first (c.args.first + (c.args.others + 1)) (calls_each origin.load) c.args.head c.part.new.head c.join-seat.result.1.0 c.back-2.new.head c.in-Some.seat c.join-seat.result.0.0 c.join-seat.result.0.1 c.join-seat.result.1.1
    c.part.ensures.was c.in-Some.ensures.split (omega arith) c.requires.ready c.join-seat.ensures.first c.join-seat.ensures.second c.back-2.ensures)
