use Rattle.std.proofs.Common.{◌∙◌}
use Rattle.tau_step.proofs.Lines.{heard_none, heard_line, heard_part}
use Rattle.tau_step.proofs.clerk.Clerk.tell.Goals as goal

pub returns-then-self-clause-heard : goal.returns-then-self-clause-heard
returns-then-self-clause-heard g c = λ tells base was.
    heard_none base c.args.self.now.acks c.push.new.self (c.args.self.now.call.number, c.args.self.now.call.lv) c.args.self.now.sink_failed (g.K.Sink.held c.args.sink.now) c.if-self.true c.in_ok-push.ensures.ok was

pub returns-in-Ok-clause-heard : goal.returns-in-Ok-clause-heard
returns-in-Ok-clause-heard g c = λ tells base was.
    heard_line base c.args.self.now.acks c.push.new.self (c.args.self.now.call.number, c.args.self.now.call.lv) c.args.self.now.sink_failed (g.K.Sink.held c.args.sink.now) (g.K.Sink.held c.write_all.new.sink) c.deref.result.now
    c.if-self.false c.in_ok-push.ensures.ok (c.deref.ensures.value ∙ c.in_ok-ack_line.ensures.line) (c.in-Ok.ensures.ok tells) was

pub returns-in-Err-clause-heard : goal.returns-in-Err-clause-heard
returns-in-Err-clause-heard g c = λ tells base was.
    let cut = c.in-Err.ensures.err in
    heard_part base c.args.self.now.acks c.push.new.self (c.args.self.now.call.number, c.args.self.now.call.lv) c.args.self.now.sink_failed (g.K.Sink.held c.args.sink.now) (g.K.Sink.held c.write_all.new.sink) c.deref.result.now
    c.if-self.false c.in_ok-push.ensures.ok (c.deref.ensures.value ∙ c.in_ok-ack_line.ensures.line) cut.0 (cut.2 tells) was
