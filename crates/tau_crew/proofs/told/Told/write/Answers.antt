use Rattle.std.proofs.Common.{List, ℕ, ◌++◌, ◌∙◌, take, ap, false, subst, sym}
use Rattle.std.specs.Prelude.{Bool}
use Rattle.tau_crew.specs.Clerking.{IsSoFar}
use Rattle.tau_crew.proofs.Clerking.{so_far_cut, so_far_written}
use Rattle.tau_crew.proofs.told.Told.write.Goals as goal

pub returns-in-Ok-clause-heard : goal.returns-in-Ok-clause-heard
returns-in-Ok-clause-heard g c = λ tells base was.
    let before : IsSoFar base c.args.self.now.acks c.args.self.now.lines.items false (g.K.Sink.held c.args.sink.now) = subst (λ (f : Bool). IsSoFar base c.args.self.now.acks c.args.self.now.lines.items f (g.K.Sink.held c.args.sink.now)) c.if-self.false was in
    let now = so_far_written base c.args.self.now.acks c.args.self.now.lines.items (g.K.Sink.held c.args.sink.now) (g.K.Sink.held c.write_all.new.sink) (c.in-Ok.ensures.ok tells ∙ ap (λ (l : List ℕ). g.K.Sink.held c.args.sink.now ++ l) c.deref.ensures.value) before in
    subst (λ (f : Bool). IsSoFar base c.args.self.now.acks c.clear-in-Ok.new.self.items f (g.K.Sink.held c.write_all.new.sink)) (sym c.if-self.false)
    (subst (λ (l : List ℕ). IsSoFar base c.args.self.now.acks l false (g.K.Sink.held c.write_all.new.sink)) (sym c.clear-in-Ok.ensures.items) now)

pub returns-in-Err-clause-heard : goal.returns-in-Err-clause-heard
returns-in-Err-clause-heard g c = λ tells base was.
    let before : IsSoFar base c.args.self.now.acks c.args.self.now.lines.items false (g.K.Sink.held c.args.sink.now) = subst (λ (f : Bool). IsSoFar base c.args.self.now.acks c.args.self.now.lines.items f (g.K.Sink.held c.args.sink.now)) c.if-self.false was in
    let cut = c.in-Err.ensures.err in
    so_far_cut base c.args.self.now.acks c.args.self.now.lines.items (g.K.Sink.held c.args.sink.now) (g.K.Sink.held c.write_all.new.sink) cut.0 (cut.2 tells ∙ ap (λ (l : List ℕ). g.K.Sink.held c.args.sink.now ++ take cut.0 l) c.deref.ensures.value) before
