use Rattle.std.proofs.Common.{◌≡◌, refl, sym, ap, subst, ◌∙◌, arith}
use Rattle.std.specs.Prelude.{Some, IsTrue}
use Rattle.tau_base.specs.declared.value.Call.{Call}
use Rattle.tau_proc.specs.Takes.{takes}
use Rattle.tau_core.specs.Plain.{PlainSeat}
use Rattle.tau_core.proofs.Found.{found_whole}
use Rattle.tau_core.proofs.Numbers.{next_is_that}
use Rattle.tau_core.proofs.begin.begin_call.Goals as goal

pub overflow_sub-number : goal.overflow_sub-number
overflow_sub-number c =
    let is = found_whole c.args.state.now c.args.worker c.index_mut-seat.result.now c.requires.sound c.requires.there c.index_mut-seat.ensures.value in
    let o = c.requires.sound.seat c.args.worker c.index_mut-seat.result.now is in
    let n = next_is_that c.args.state.now.load c.args.worker c.index_mut-seat.result.now c.args.number o (c.requires.next c.index_mut-seat.result.now is) in
    n.low

pub at-call-requires : goal.at-call-requires
at-call-requires c =
    let is = found_whole c.args.state.now c.args.worker c.index_mut-seat.result.now c.requires.sound c.requires.there c.index_mut-seat.ensures.value in
    let o = c.requires.sound.seat c.args.worker c.index_mut-seat.result.now is in
    let n = next_is_that c.args.state.now.load c.args.worker c.index_mut-seat.result.now c.args.number o (c.requires.next c.index_mut-seat.result.now is) in
    let high = n.high in
    let low = n.low in
    omega arith

pub start-requires-clause-rests : goal.start-requires-clause-rests
start-requires-clause-rests c =
    let is = found_whole c.args.state.now c.args.worker c.index_mut-seat.result.now c.requires.sound c.requires.there c.index_mut-seat.ensures.value in
    let o = c.requires.sound.seat c.args.worker c.index_mut-seat.result.now is in
    let n = next_is_that c.args.state.now.load c.args.worker c.index_mut-seat.result.now c.args.number o (c.requires.next c.index_mut-seat.result.now is) in
    c.requires.rests c.index_mut-seat.result.now is

pub start-requires-clause-low : goal.start-requires-clause-low
start-requires-clause-low c =
    let is = found_whole c.args.state.now c.args.worker c.index_mut-seat.result.now c.requires.sound c.requires.there c.index_mut-seat.ensures.value in
    let o = c.requires.sound.seat c.args.worker c.index_mut-seat.result.now is in
    let n = next_is_that c.args.state.now.load c.args.worker c.index_mut-seat.result.now c.args.number o (c.requires.next c.index_mut-seat.result.now is) in
    n.low

pub start-requires-clause-small : goal.start-requires-clause-small
start-requires-clause-small c =
    let is = found_whole c.args.state.now c.args.worker c.index_mut-seat.result.now c.requires.sound c.requires.there c.index_mut-seat.ensures.value in
    let o = c.requires.sound.seat c.args.worker c.index_mut-seat.result.now is in
    let n = next_is_that c.args.state.now.load c.args.worker c.index_mut-seat.result.now c.args.number o (c.requires.next c.index_mut-seat.result.now is) in
    let few = c.requires.sound.few in
    let high = o.store.high in
    let w = c.requires.sound.workers_high in
    omega arith

pub start-requires-clause-takes : goal.start-requires-clause-takes
start-requires-clause-takes c =
    let is = found_whole c.args.state.now c.args.worker c.index_mut-seat.result.now c.requires.sound c.requires.there c.index_mut-seat.ensures.value in
    let o = c.requires.sound.seat c.args.worker c.index_mut-seat.result.now is in
    let n = next_is_that c.args.state.now.load c.args.worker c.index_mut-seat.result.now c.args.number o (c.requires.next c.index_mut-seat.result.now is) in
    let same : n.call ≡ c.at-call.result.now =
    (let f : Some n.call ≡ Some c.at-call.result.now = sym n.got ∙ c.at-call.ensures in cc) in
    subst (λ (x : Call). IsTrue (takes c.args.state.now.load.procs x)) same (c.requires.sound.takes c.args.number n.call n.is)

pub returns-clause-begins : goal.returns-clause-begins
returns-clause-begins c =
    let is = found_whole c.args.state.now c.args.worker c.index_mut-seat.result.now c.requires.sound c.requires.there c.index_mut-seat.ensures.value in
    let o = c.requires.sound.seat c.args.worker c.index_mut-seat.result.now is in
    let n = next_is_that c.args.state.now.load c.args.worker c.index_mut-seat.result.now c.args.number o (c.requires.next c.index_mut-seat.result.now is) in
    let same : n.call ≡ c.at-call.result.now =
    (let f : Some n.call ≡ Some c.at-call.result.now = sym n.got ∙ c.at-call.ensures in cc) in
    record {
      seat = c.index_mut-seat.result.now;
      new = c.start.new.seat;
      call = c.at-call.result.now;
      is = is;
      call_is = n.is ∙ ap Some same;
      begun = c.start.ensures.begun;
      runs = c.start.ensures.runs;
      stays = c.start.ensures.stays;
      same = c.start.ensures.same;
      others = c.start.ensures.others;
      after = refl;
    }

pub returns-clause-mark : goal.returns-clause-mark
returns-clause-mark c = λ s e.
    let is = found_whole c.args.state.now c.args.worker c.index_mut-seat.result.now c.requires.sound c.requires.there c.index_mut-seat.ensures.value in
    let same : c.index_mut-seat.result.now ≡ s = (let f : Some c.index_mut-seat.result.now ≡ Some s = sym is ∙ e in cc) in
    c.mark_of-mark.ensures ∙ ap (λ (x : PlainSeat). record { next = x.next; again = x.again }) same
