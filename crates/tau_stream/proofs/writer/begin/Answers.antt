use Rattle.std.proofs.Common.{[], List, ℕ, length, inl, subst, sym, ◌∙◌, ap, arith}
use Rattle.tau_base.proofs.Logic.{on_err}
use Rattle.tau_disk.specs.Disk.{Torn}
use Rattle.tau_disk.proofs.Passing.{passes_on, passes_weaker}
use Rattle.tau_block.specs.Image.{IsLog, count_in, format_in, index_in}
use Rattle.tau_stream.specs.Stream.{IsOldOrNew}
use Rattle.tau_stream.proofs.Heads.{long_head, log_of_head}
use Rattle.tau_stream.proofs.Left.{durably_last, making_first, making_second}
use Rattle.tau_stream.proofs.Tears.{torn_unborn, header_is}
use Rattle.tau_stream.proofs.writer.begin.Goals as goal

pub returns-clause-done : goal.returns-clause-done
returns-clause-done g c = λ tells first some is.
    let file = header_is c.args.head.now _ _ (long_head c.args.head.now c.requires.head) (c.requires.short tells) (c.in_ok-write_durably.ensures.written tells) in
    let log = subst (λ (l : List ℕ). IsLog (format_in c.args.head.now) (count_in c.args.head.now) (index_in c.args.head.now) l 16 []) (sym file) (log_of_head c.args.head.now c.requires.head) in
    c.in_ok-publish.ensures.done tells (format_in c.args.head.now) (count_in c.args.head.now) (index_in c.args.head.now) [] first (record { log = log; only = c.in_ok-write_durably.ensures.durable tells }) some is

pub returns-clause-moments : goal.returns-clause-moments
returns-clause-moments g c = λ tells first some is unborn.
    let f = format_in c.args.head.now in
    let n = count_in c.args.head.now in
    let j = index_in c.args.head.now in
    let long = long_head c.args.head.now c.requires.head in
    let file = header_is c.args.head.now _ _ long (c.requires.short tells) (c.in_ok-write_durably.ensures.written tells) in
    let log = subst (λ (l : List ℕ). IsLog f n j l 16 []) (sym file) (log_of_head c.args.head.now c.requires.head) in
    passes_on g.D.Disk.moment g.D.Disk.may_leave_since _ _ _ _ _ (IsOldOrNew f n j [] first) c.write_durably.ensures.moments
    (c.publish.ensures.moments tells f n j [] first (record { log = log; only = c.in_ok-write_durably.ensures.durable tells }) some is)
    (λ x from. inl (torn_unborn f n j from.0 x (unborn from.0 from.1) (subst (λ (size : ℕ). Torn 0 size from.0 x) long from.2)))
    (λ x either. either)

pub returns-in_err-publish-clause-moments : goal.returns-in_err-publish-clause-moments
returns-in_err-publish-clause-moments g c = λ tells first some is unborn.
    let f = format_in c.args.head.now in
    let n = count_in c.args.head.now in
    let j = index_in c.args.head.now in
    let long = long_head c.args.head.now c.requires.head in
    let file = header_is c.args.head.now _ _ long (c.requires.short tells) (c.in_ok-write_durably.ensures.written tells) in
    let log = subst (λ (l : List ℕ). IsLog f n j l 16 []) (sym file) (log_of_head c.args.head.now c.requires.head) in
    passes_on g.D.Disk.moment g.D.Disk.may_leave_since _ _ _ _ _ (IsOldOrNew f n j [] first) c.write_durably.ensures.moments
    (c.publish.ensures.moments tells f n j [] first (record { log = log; only = c.in_ok-write_durably.ensures.durable tells }) some is)
    (λ x from. inl (torn_unborn f n j from.0 x (unborn from.0 from.1) (subst (λ (size : ℕ). Torn 0 size from.0 x) long from.2)))
    (λ x either. either)

pub returns-in_err-write_durably-clause-moments : goal.returns-in_err-write_durably-clause-moments
returns-in_err-write_durably-clause-moments g c = λ tells first some is unborn.
    let f = format_in c.args.head.now in
    let n = count_in c.args.head.now in
    let j = index_in c.args.head.now in
    passes_weaker g.D.Disk.moment g.D.Disk.may_leave_since _ _ _ (IsOldOrNew f n j [] first) c.write_durably.ensures.moments
    (λ x from. inl (torn_unborn f n j from.0 x (unborn from.0 from.1) (subst (λ (size : ℕ). Torn 0 size from.0 x) (long_head c.args.head.now c.requires.head) from.2)))

pub publish-requires-clause-within : goal.publish-requires-clause-within
publish-requires-clause-within g c = λ tells.
    let long = long_head c.args.head.now c.requires.head in
    let file = header_is c.args.head.now _ _ long (c.requires.short tells) (c.in_ok-write_durably.ensures.written tells) in
    omega (arith, long, ap length file)

pub returns-in_err-write_durably-clause-left : goal.returns-in_err-write_durably-clause-left
returns-in_err-write_durably-clause-left g c = on_err c.from_residual.result (λ tells.
    making_first g.D.Disk g.met.D.Disk.leaves_each tells c.args.head.now c.args.block.now (long_head c.args.head.now c.requires.head) c.args.disk.now c.write_durably.new.disk _ _ c.in_err-write_durably.field-0.0 (c.in_err-write_durably.ensures.left tells))

pub returns-in_err-write_durably-clause-last : goal.returns-in_err-write_durably-clause-last
returns-in_err-write_durably-clause-last g c = λ tells. durably_last _ _ _ _ _ _ _ _ _ _ _ _ (c.write_durably.ensures.left tells)

pub returns-in_err-publish-clause-left : goal.returns-in_err-publish-clause-left
returns-in_err-publish-clause-left g c = on_err c.from_residual-in_err-publish.result (λ tells.
    let f = format_in c.args.head.now in
    let n = count_in c.args.head.now in
    let j = index_in c.args.head.now in
    let long = long_head c.args.head.now c.requires.head in
    let file = header_is c.args.head.now _ _ long (c.requires.short tells) (c.in_ok-write_durably.ensures.written tells) in
    let log = subst (λ (l : List ℕ). IsLog f n j l 16 []) (sym file) (log_of_head c.args.head.now c.requires.head) in
    making_second g.D.Disk g.met.D.Disk.leaves_each tells c.args.head.now c.args.block.now long c.args.disk.now c.publish.new.disk _ _ c.in_ok-write_durably.field-0 c.write_durably.new.disk
    (c.in_ok-write_durably.ensures.plan tells).ok.0 (c.in_ok-write_durably.ensures.left tells) (record { log = log; only = c.in_ok-write_durably.ensures.durable tells }) (c.in_err-publish.ensures.left tells))

pub returns-in_err-publish-clause-last : goal.returns-in_err-publish-clause-last
returns-in_err-publish-clause-last g c = λ tells k. c.publish.ensures.last tells k ∙ durably_last _ _ _ _ _ _ _ _ _ _ _ _ (c.write_durably.ensures.left tells) k

pub returns-clause-last : goal.returns-clause-last
returns-clause-last g c = λ tells k. c.publish.ensures.last tells k ∙ durably_last _ _ _ _ _ _ _ _ _ _ _ _ (c.write_durably.ensures.left tells) k
