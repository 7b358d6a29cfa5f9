-- The stream that is fed is read on, and the others are as they were.
use Rattle.std.proofs.Common.{ap, arith, [], Err}
use Rattle.std.specs.Prelude.{slice_index_or}
use Rattle.tau_record.specs.declared.fault.RecordRefusal.{RecordRefusal}
use Rattle.tau_follow_laws.specs.Feeding.{Piece}
use Rattle.tau_follow.proofs.Feeding.{got_at, read_fed, bad_fed, bad_is}
use Rattle.tau_follow.proofs.Undoing.{longer_at}
use Rattle.tau_follow.proofs.feed.read_stream.Goals as goal

pub returns-in-Ok-clause-ok : goal.returns-in-Ok-clause-ok
returns-in-Ok-clause-ok c = λ fed a.
    (let p : Piece = record { stream = c.args.stream; bytes = c.args.bytes.now } in
    let old = a.each c.args.stream c.index_mut-2.result.now c.index_mut.result.now (got_at c.args.streams.now.items c.args.stream c.index_mut-2.result.now (omega (arith, c.if-j-len-2.false, c.len-2.ensures)) c.index_mut-2.ensures.value)
    (got_at c.args.readers.now.items c.args.stream c.index_mut.result.now (omega (arith, c.if-j-len.false, c.len.ensures)) c.index_mut.ensures.value) in
    let w = c.in-Ok.ensures.ok (slice_index_or fed c.args.stream []) old in
    read_fed c.args.format c.args.n fed c.args.streams.now.items c.args.readers.now.items p c.read.new.records c.read.new.self a (omega (arith, c.if-j-len-2.false, c.len-2.ensures)) w.0 w.1)

pub returns-in-Err-Bad-clause-bad : goal.returns-in-Err-Bad-clause-bad
returns-in-Err-Bad-clause-bad c = λ fed fault a e.
    (let p : Piece = record { stream = c.args.stream; bytes = c.args.bytes.now } in
    let old = a.each c.args.stream c.index_mut-2.result.now c.index_mut.result.now (got_at c.args.streams.now.items c.args.stream c.index_mut-2.result.now (omega (arith, c.if-j-len-2.false, c.len-2.ensures)) c.index_mut-2.ensures.value)
    (got_at c.args.readers.now.items c.args.stream c.index_mut.result.now (omega (arith, c.if-j-len.false, c.len.ensures)) c.index_mut.ensures.value) in
    bad_fed c.args.format c.args.n fed c.args.streams.now.items c.args.readers.now.items p c.in-Err-Bad.fault fault a (omega (arith, c.if-j-len-2.false, c.len-2.ensures)) (c.in-Err-Bad.ensures.bad (slice_index_or fed c.args.stream []) c.in-Err-Bad.fault old (ap (λ (z : RecordRefusal). Err z) c.in-Err-Bad.field-0-is)) (bad_is _ fault e))

pub returns-in-Ok-clause-longer : goal.returns-in-Ok-clause-longer
returns-in-Ok-clause-longer c = λ within by.
    longer_at c.args.stream c.args.streams.now.items c.args.readers.now.items c.index_mut-2.result.now c.index_mut.result.now c.read.new.records c.read.new.self c.index_mut-2.ensures.value c.index_mut.ensures.value c.in-Ok.ensures.longer

pub returns-in-Err-NoMemory-clause-longer : goal.returns-in-Err-NoMemory-clause-longer
returns-in-Err-NoMemory-clause-longer c = λ within by.
    longer_at c.args.stream c.args.streams.now.items c.args.readers.now.items c.index_mut-2.result.now c.index_mut.result.now c.read.new.records c.read.new.self c.index_mut-2.ensures.value c.index_mut.ensures.value c.in-Err-NoMemory.ensures.longer

pub returns-in-Err-Bad-clause-longer : goal.returns-in-Err-Bad-clause-longer
returns-in-Err-Bad-clause-longer c = λ within by.
    longer_at c.args.stream c.args.streams.now.items c.args.readers.now.items c.index_mut-2.result.now c.index_mut.result.now c.read.new.records c.read.new.self c.index_mut-2.ensures.value c.index_mut.ensures.value c.in-Err-Bad.ensures.longer
