use Rattle.std.proofs.Common.{ℕ, ◌+◌, List, ◌++◌, length, get_or, inl, subst, sym, ◌∙◌, arith}
use Rattle.tau_disk.specs.Disk.{Torn, Holds}
use Rattle.tau_disk.proofs.Images.{holds_torn}
use Rattle.tau_disk.proofs.Passing.{passes_weaker, passes_on}
use Rattle.tau_stream.specs.Stream.{IsOldOrNew, IsSettled}
use Rattle.tau_stream.proofs.Left.{durably_last, publish_first, publish_second}
use Rattle.tau_stream.proofs.Tears.{torn_behind, content_now, staged, torn_gate, opened, settles, holds_long}
use Rattle.tau_stream.proofs.steps.publish_gated.Goals as goal
use Rattle.tau_base.proofs.Logic.{on_err}

pub returns-in_err-write_durably-clause-moments : goal.returns-in_err-write_durably-clause-moments
returns-in_err-write_durably-clause-moments g c = λ tells f n j content body s some is.
    passes_weaker g.D.Disk.moment g.D.Disk.may_leave_since _ _ _ (IsOldOrNew f n j content body) c.write_durably.ensures.moments
    (λ x from. inl (torn_behind f n j (g.D.Disk.seen c.args.disk.now) c.args.gate_at content s.log (length c.args.block.now) x (subst (λ d. Torn (c.args.gate_at + 1) (length c.args.block.now) d x) (s.only from.0 from.1) from.2)))

pub returns-clause-moments : goal.returns-clause-moments
returns-clause-moments g c = λ tells f n j content body s some is.
    let file = g.D.Disk.seen c.args.disk.now in
    let mid = staged f n j file c.args.gate_at content s.log body some (g.D.Disk.seen c.write_durably.new.disk) (subst (λ b. Holds file (c.args.gate_at + 1) b (g.D.Disk.seen c.write_durably.new.disk)) is (c.in_ok-write_durably.ensures.written tells)) in
    passes_on g.D.Disk.moment g.D.Disk.may_leave_since _ _ _ _ _ (IsOldOrNew f n j content body) c.write_durably.ensures.moments c.write_durably-2.ensures.moments
    (λ x from. inl (torn_behind f n j file c.args.gate_at content s.log (length c.args.block.now) x (subst (λ d. Torn (c.args.gate_at + 1) (length c.args.block.now) d x) (s.only from.0 from.1) from.2)))
    (λ x from. torn_gate f n j file c.args.gate_at content s.log body some (get_or file c.args.gate_at 0) c.open_gate.result x c.open_gate.ensures (subst (λ (d : List ℕ). Torn c.args.gate_at (length c.open_gate.result) d x) (c.in_ok-write_durably.ensures.durable tells from.0 from.1 ∙ mid) from.2))

pub returns-in_err-write_durably-2-clause-moments : goal.returns-in_err-write_durably-2-clause-moments
returns-in_err-write_durably-2-clause-moments g c = λ tells f n j content body s some is.
    let file = g.D.Disk.seen c.args.disk.now in
    let mid = staged f n j file c.args.gate_at content s.log body some (g.D.Disk.seen c.write_durably.new.disk) (subst (λ b. Holds file (c.args.gate_at + 1) b (g.D.Disk.seen c.write_durably.new.disk)) is (c.in_ok-write_durably.ensures.written tells)) in
    passes_on g.D.Disk.moment g.D.Disk.may_leave_since _ _ _ _ _ (IsOldOrNew f n j content body) c.write_durably.ensures.moments c.write_durably-2.ensures.moments
    (λ x from. inl (torn_behind f n j file c.args.gate_at content s.log (length c.args.block.now) x (subst (λ d. Torn (c.args.gate_at + 1) (length c.args.block.now) d x) (s.only from.0 from.1) from.2)))
    (λ x from. torn_gate f n j file c.args.gate_at content s.log body some (get_or file c.args.gate_at 0) c.open_gate.result x c.open_gate.ensures (subst (λ (d : List ℕ). Torn c.args.gate_at (length c.open_gate.result) d x) (c.in_ok-write_durably.ensures.durable tells from.0 from.1 ∙ mid) from.2))

pub returns-clause-done : goal.returns-clause-done
returns-clause-done g c = λ tells f n j content body s some is.
    let file = g.D.Disk.seen c.args.disk.now in
    let mid = staged f n j file c.args.gate_at content s.log body some (g.D.Disk.seen c.write_durably.new.disk) (subst (λ b. Holds file (c.args.gate_at + 1) b (g.D.Disk.seen c.write_durably.new.disk)) is (c.in_ok-write_durably.ensures.written tells)) in
    let new = opened f n j file c.args.gate_at content s.log body some (get_or file c.args.gate_at 0) c.open_gate.result (g.D.Disk.seen c.write_durably-2.new.disk) c.open_gate.ensures (subst (λ f. Holds f c.args.gate_at c.open_gate.result (g.D.Disk.seen c.write_durably-2.new.disk)) mid (c.in_ok-write_durably-2.ensures.written tells)) in
    let settled = settles f n j file c.args.gate_at content s.log body some (g.D.Disk.seen c.write_durably-2.new.disk) (g.D.Disk.may_leave c.write_durably-2.new.disk) new (c.in_ok-write_durably-2.ensures.durable tells) in
    subst (λ (b : List ℕ). IsSettled f n j (g.D.Disk.seen c.write_durably-2.new.disk) (g.D.Disk.may_leave c.write_durably-2.new.disk) (c.args.gate_at + length b) (content ++ body)) (sym is) settled

pub returns-clause-here : goal.returns-clause-here
returns-clause-here g c = λ tells.
    let first = holds_long (c.args.gate_at + 1) c.args.block.now (g.D.Disk.seen c.args.disk.now) (g.D.Disk.seen c.write_durably.new.disk) (omega (arith, c.requires.within tells)) (c.in_ok-write_durably.ensures.written tells) in
    let second = holds_long c.args.gate_at c.open_gate.result (g.D.Disk.seen c.write_durably.new.disk) (g.D.Disk.seen c.write_durably-2.new.disk) (omega (arith, first.0)) (c.in_ok-write_durably-2.ensures.written tells) in
    omega (arith, first.0, second.1)

pub returns-in_err-write_durably-clause-reached : goal.returns-in_err-write_durably-clause-reached
returns-in_err-write_durably-clause-reached g c = on_err c.from_residual.result (λ tells f n j content s.
    let file = g.D.Disk.seen c.args.disk.now in
    (file, c.in_err-write_durably.ensures.keeps file (g.met.D.Disk.seen_now c.args.disk.now tells), content_now f n j file c.args.gate_at content s.log))

pub returns-in_err-write_durably-2-clause-reached : goal.returns-in_err-write_durably-2-clause-reached
returns-in_err-write_durably-2-clause-reached g c = on_err c.from_residual-in_err-write_durably-2.result (λ tells f n j content s.
    let file = g.D.Disk.seen c.args.disk.now in
    let mid = g.D.Disk.seen c.write_durably.new.disk in
    let torn = holds_torn (c.args.gate_at + 1) c.args.block.now file mid (omega (arith, s.log.within)) (c.in_ok-write_durably.ensures.written tells) in
    (mid, c.in_err-write_durably-2.ensures.keeps mid (g.met.D.Disk.seen_now c.write_durably.new.disk tells), torn_behind f n j file c.args.gate_at content s.log (length c.args.block.now) mid torn))

pub returns-in_err-write_durably-clause-left : goal.returns-in_err-write_durably-clause-left
returns-in_err-write_durably-clause-left g c = on_err c.from_residual.result (λ tells.
    publish_first g.D.Disk g.met.D.Disk.leaves_each tells c.args.gate_at c.args.block.now c.args.disk.now c.write_durably.new.disk _ _ c.in_err-write_durably.field-0.0 (c.in_err-write_durably.ensures.left tells))

pub returns-in_err-write_durably-clause-last : goal.returns-in_err-write_durably-clause-last
returns-in_err-write_durably-clause-last g c = λ tells. durably_last _ _ _ _ _ _ _ _ _ _ _ _ (c.write_durably.ensures.left tells)

pub returns-in_err-write_durably-2-clause-left : goal.returns-in_err-write_durably-2-clause-left
returns-in_err-write_durably-2-clause-left g c = on_err c.from_residual-in_err-write_durably-2.result (λ tells.
    publish_second g.D.Disk g.met.D.Disk.leaves_each tells c.args.gate_at c.args.block.now c.args.disk.now c.write_durably-2.new.disk _ _ _ _ c.in_ok-write_durably.field-0 c.in_err-write_durably-2.field-0.0 c.write_durably.new.disk c.open_gate.result c.open_gate.ensures
    (c.in_ok-write_durably.ensures.written tells) (c.in_ok-write_durably.ensures.plan tells).ok.0 (c.in_ok-write_durably.ensures.left tells) (c.in_err-write_durably-2.ensures.left tells))

pub returns-in_err-write_durably-2-clause-last : goal.returns-in_err-write_durably-2-clause-last
returns-in_err-write_durably-2-clause-last g c = λ tells k. durably_last _ _ _ _ _ _ _ _ _ _ _ _ (c.write_durably-2.ensures.left tells) k ∙ durably_last _ _ _ _ _ _ _ _ _ _ _ _ (c.write_durably.ensures.left tells) k

pub returns-clause-last : goal.returns-clause-last
returns-clause-last g c = λ tells k. durably_last _ _ _ _ _ _ _ _ _ _ _ _ (c.write_durably-2.ensures.left tells) k ∙ durably_last _ _ _ _ _ _ _ _ _ _ _ _ (c.write_durably.ensures.left tells) k
