use Rattle.std.proofs.Common.{ap, arith, subst, sym, ◌∙◌}
use Rattle.tau_crew.specs.declared.told.Told.{Told}
use Rattle.tau_crew.specs.Clerking.{IsToldSoFar}
use Rattle.tau_crew.proofs.Clerking.{cause_then, clerk_goes_on}
use Rattle.tau_crew.proofs.clerk.ClerkJob.run.Goals as goal

pub loop-preserved : goal.loop-preserved
loop-preserved g c = (
  clerk_goes_on c.args.desk.now.load c.args.self.now c.look-rose.new.self c.pass_if.new.self
      (clerk_goes_on c.args.desk.now.load c.args.self.now c.loop.self c.look-rose.new.self c.loop.invariant.0 c.look-rose.ensures.goes) c.pass_if.ensures.goes,
  c.pass_if.ensures.clerk,
  λ tells base told. c.pass_if.ensures.heard tells base
      (subst (λ (t : Told). IsToldSoFar base t (g.K.Sink.held c.loop.sink)) (sym c.look-rose.ensures.told) (c.loop.invariant.2 tells base told)),
  λ failed. cause_then (g.K.Sink.faults c.args.sink.now) (g.K.Sink.faults c.loop.sink) (g.K.Sink.faults c.pass_if.new.sink)
      (λ was. c.loop.invariant.3 (sym (ap (λ (t : Told). t.sink_failed) c.look-rose.ensures.told) ∙ was)) c.loop.invariant.4 c.pass_if.ensures.faults (c.pass_if.ensures.cause failed),
  omega (arith, c.loop.invariant.4, c.pass_if.ensures.faults),
)

pub loop-preserved-then-not-rose : goal.loop-preserved-then-not-rose
loop-preserved-then-not-rose g c = (
  clerk_goes_on c.args.desk.now.load c.args.self.now c.look-rose.new.self c.pass_if.new.self
      (clerk_goes_on c.args.desk.now.load c.args.self.now c.loop.self c.look-rose.new.self c.loop.invariant.0 c.look-rose.ensures.goes) c.pass_if.ensures.goes,
  c.pass_if.ensures.clerk,
  λ tells base told. c.pass_if.ensures.heard tells base
      (subst (λ (t : Told). IsToldSoFar base t (g.K.Sink.held c.loop.sink)) (sym c.look-rose.ensures.told) (c.loop.invariant.2 tells base told)),
  λ failed. cause_then (g.K.Sink.faults c.args.sink.now) (g.K.Sink.faults c.loop.sink) (g.K.Sink.faults c.pass_if.new.sink)
      (λ was. c.loop.invariant.3 (sym (ap (λ (t : Told). t.sink_failed) c.look-rose.ensures.told) ∙ was)) c.loop.invariant.4 c.pass_if.ensures.faults (c.pass_if.ensures.cause failed),
  omega (arith, c.loop.invariant.4, c.pass_if.ensures.faults),
)

pub returns-then-not-pass_if-clause-goes : goal.returns-then-not-pass_if-clause-goes
returns-then-not-pass_if-clause-goes g c =
    clerk_goes_on c.args.desk.now.load c.args.self.now c.look-rose.new.self c.pass_if.new.self
    (clerk_goes_on c.args.desk.now.load c.args.self.now c.loop.self c.look-rose.new.self c.loop.invariant.0 c.look-rose.ensures.goes) c.pass_if.ensures.goes

pub returns-then-not-pass_if-clause-heard : goal.returns-then-not-pass_if-clause-heard
returns-then-not-pass_if-clause-heard g c =
    λ tells base told. c.pass_if.ensures.heard tells base
    (subst (λ (t : Told). IsToldSoFar base t (g.K.Sink.held c.loop.sink)) (sym c.look-rose.ensures.told) (c.loop.invariant.2 tells base told))

pub returns-then-not-pass_if-clause-cause : goal.returns-then-not-pass_if-clause-cause
returns-then-not-pass_if-clause-cause g c =
    λ failed. cause_then (g.K.Sink.faults c.args.sink.now) (g.K.Sink.faults c.loop.sink) (g.K.Sink.faults c.pass_if.new.sink)
    (λ was. c.loop.invariant.3 (sym (ap (λ (t : Told). t.sink_failed) c.look-rose.ensures.told) ∙ was)) c.loop.invariant.4 c.pass_if.ensures.faults (c.pass_if.ensures.cause failed)

pub returns-then-not-pass_if-clause-faults : goal.returns-then-not-pass_if-clause-faults
returns-then-not-pass_if-clause-faults g c =
    omega (arith, c.loop.invariant.4, c.pass_if.ensures.faults)
