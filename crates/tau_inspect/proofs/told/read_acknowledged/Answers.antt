-- What comes after the word is an acknowledgement, or none.
use Rattle.std.proofs.Common.{rules, ◌<◌, ◌^◌, ◌+◌, ◌-◌, length, take, drop}
use Rattle.tau_inspect.proofs.ReadLines.{ack_cut, ack_told, behind_whole}
use Rattle.tau_inspect.proofs.told.read_acknowledged.Goals as goal

pub returns-in-Ok-None-clause-read : goal.returns-in-Ok-None-clause-read
returns-in-Ok-None-clause-read c = λ a fits e.
    let none = rw c.in-Ok-None.field-0-is at c.in-Ok-None.ensures in
    let small : c.args.calls < 2 ^ 32 = search rules in
    none a.number fits.0 (ack_cut c.args.calls (length c.args.ack.now.lv) c.args.rest.now a fits small e c.in-Some.i c.in-Some.ensures).0

pub returns-in-Ok-Some-clause-read : goal.returns-in-Ok-Some-clause-read
returns-in-Ok-Some-clause-read c =
    let call = rw c.in-Ok-Some.field-0-is at c.in-Ok-Some.ensures in
    let small : c.args.calls < 2 ^ 32 = search rules in
    let rest = c.args.rest.now in let i = c.in-Some.i in
    ack_told c.args.calls (length c.args.ack.now.lv) rest (take (length rest - (i + 1)) (drop (i + 1) rest)) c.in-Ok-Some.number i c.read_vector.new.lv c.read_vector.result small c.in-Some.ensures call (behind_whole (i + 1) rest) c.read_vector.ensures.read
