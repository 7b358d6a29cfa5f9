use Rattle.std.proofs.Common.{arith}
use Rattle.tau_record.proofs.SizeLaws.{streams_most}
use Rattle.tau_record.proofs.Walk.{is_found, is_only, is_bad}
use Rattle.tau_record.proofs.content.decode_as.Goals as goal

pub returns-clause-found : goal.returns-clause-found
returns-clause-found c = is_found c.args.format c.args.n c.args.content.now c.records.result (λ i. omega (arith, c.type_inv.content i)) c.records.ensures

pub returns-clause-only : goal.returns-clause-only
returns-clause-only c = λ ps h. is_only c.args.format c.args.n c.args.content.now c.records.result ps c.requires.high c.records.ensures h

pub returns-clause-bad : goal.returns-clause-bad
returns-clause-bad c = λ fault e. is_bad c.args.format c.args.n c.args.content.now c.records.result fault (λ i. omega (arith, c.type_inv.content i)) c.records.ensures e

pub records-requires-clause-high : goal.records-requires-clause-high
records-requires-clause-high c = omega (arith, c.requires.high, streams_most c.args.format)
