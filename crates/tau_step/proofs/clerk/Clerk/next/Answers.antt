use Rattle.std.proofs.Common.{ℕ, Bool, false, List, [], ◌∷◌, ◌++◌, length, sym, ap, subst}
use Rattle.std.proofs.lemmas.Result.{err_from_is_err_and}
use Rattle.tau_core.specs.declared.event.Event.TheVariants as event
use Rattle.tau_core.specs.Steps.{AckSteps}
use Rattle.tau_core.specs.Answered.{acked_by}
use Rattle.tau_step.specs.Progressed.{Comes, tells, clears}
use Rattle.tau_step.specs.Telling.{NextTold}
use Rattle.tau_step.proofs.Clearing.{acknowledged, told_less, told_cut, nothing_told, none_waits}
use Rattle.tau_step.proofs.Joined.{comes_as}
use Rattle.tau_step.proofs.Lines.{heard_cut}
use Rattle.tau_step.proofs.Standing.{all_stand}
use Rattle.tau_step.proofs.clerk.Clerk.next.Goals as goal

pub returns-then-not-waits-clause-told : goal.returns-then-not-waits-clause-told
returns-then-not-waits-clause-told g c = λ order h es s. none_waits c.args.core.now order h es c.args.self.now.acks c.args.worker c.waits.result c.if-not-waits.true c.waits.ensures.1 s

pub returns-then-not-ack-clause-told : goal.returns-then-not-ack-clause-told
returns-then-not-ack-clause-told g c = λ order h es s.
    nothing_told c.args.core.now c.ack.new.self order h s es c.args.self.now.acks c.args.worker c.requires.there (acked_by false c.ack.new.call) (λ number lv e. cc)
    (subst (λ (b : Bool). AckSteps c.args.core.now c.ack.new.self order h c.args.worker (acked_by b c.ack.new.call)) c.if-not-ack.true (c.ack.ensures order h s))

pub returns-clause-told : goal.returns-clause-told
returns-clause-told g c = λ order h es s.
    let t = subst (λ (b : Bool). AckSteps c.args.core.now c.ack.new.self order h c.args.worker (acked_by b c.ack.new.call)) c.if-not-ack.false (c.ack.ensures order h s) in
    subst (λ (xs : List (ℕ × List ℕ)). Comes (tells c.args.worker) c.args.core.now c.ack.new.self c.args.self.now.acks xs order h es) (sym c.in_ok-tell.ensures.acks)
    (acknowledged c.args.core.now c.ack.new.self order h s es c.args.self.now.acks c.args.worker c.requires.there c.ack.new.call.number c.ack.new.call.lv t.0 t.1 t.2)

pub returns-clause-less : goal.returns-clause-less
returns-clause-less g c = λ is.
    let (order, h, s) = c.requires.stood in
    let t = subst (λ (b : Bool). AckSteps c.args.core.now c.ack.new.self order h c.args.worker (acked_by b c.ack.new.call)) c.if-not-ack.false (c.ack.ensures order h s) in
    told_less c.args.core.now c.ack.new.self order h s [] [] c.args.worker c.requires.there c.ack.new.call.number c.ack.new.call.lv t.0 t.2

pub returns-in_err-tell-clause-told : goal.returns-in_err-tell-clause-told
returns-in_err-tell-clause-told g c = λ order h es s.
    let t = subst (λ (b : Bool). AckSteps c.args.core.now c.ack.new.self order h c.args.worker (acked_by b c.ack.new.call)) c.if-not-ack.false (c.ack.ensures order h s) in
    let acks = c.args.self.now.acks in
    let a : ℕ × List ℕ = (c.ack.new.call.number, c.ack.new.call.lv) in
    let p = err_from_is_err_and c.from_residual.result c.from_residual.ensures.1 in
    subst (λ r. NextTold c.args.worker c.args.core.now c.ack.new.self acks c.tell.new.self.acks c.args.self.now.sink_failed c.tell.new.self.sink_failed g.K.Sink.tells (g.K.Sink.held c.args.sink.now) (g.K.Sink.held c.tell.new.sink) order h es r) (sym p.1)
    (record {
      told = acks ++ a ∷ [];
      count = length acks;
      comes = comes_as (tells c.args.worker) (clears c.args.worker false) (told_cut c.args.worker) c.args.core.now c.ack.new.self acks (acks ++ a ∷ []) order h es
          (acknowledged c.args.core.now c.ack.new.self order h s es acks c.args.worker c.requires.there c.ack.new.call.number c.ack.new.call.lv t.0 t.1 t.2);
      heard = λ tells base was. heard_cut base acks a c.args.self.now.sink_failed c.tell.new.self.sink_failed (g.K.Sink.held c.args.sink.now) (g.K.Sink.held c.tell.new.sink)
          c.in_err-tell.ensures.short.1 (ap g.K.Sink.held c.in_err-tell.ensures.short.0) was;
    })

pub returns-then-not-ack-clause-load : goal.returns-then-not-ack-clause-load
returns-then-not-ack-clause-load g c = (all_stand c.args.core.now c.ack.new.self c.requires.stood (event.Ack c.args.worker) (acked_by c.ack.result c.ack.new.call) c.ack.ensures).0

pub returns-then-not-ack-clause-stood : goal.returns-then-not-ack-clause-stood
returns-then-not-ack-clause-stood g c = (all_stand c.args.core.now c.ack.new.self c.requires.stood (event.Ack c.args.worker) (acked_by c.ack.result c.ack.new.call) c.ack.ensures).1

pub returns-clause-load : goal.returns-clause-load
returns-clause-load g c = (all_stand c.args.core.now c.ack.new.self c.requires.stood (event.Ack c.args.worker) (acked_by c.ack.result c.ack.new.call) c.ack.ensures).0

pub returns-clause-stood : goal.returns-clause-stood
returns-clause-stood g c = (all_stand c.args.core.now c.ack.new.self c.requires.stood (event.Ack c.args.worker) (acked_by c.ack.result c.ack.new.call) c.ack.ensures).1

pub returns-in_err-tell-clause-load : goal.returns-in_err-tell-clause-load
returns-in_err-tell-clause-load g c = (all_stand c.args.core.now c.ack.new.self c.requires.stood (event.Ack c.args.worker) (acked_by c.ack.result c.ack.new.call) c.ack.ensures).0

pub returns-in_err-tell-clause-stood : goal.returns-in_err-tell-clause-stood
returns-in_err-tell-clause-stood g c = (all_stand c.args.core.now c.ack.new.self c.requires.stood (event.Ack c.args.worker) (acked_by c.ack.result c.ack.new.call) c.ack.ensures).1
