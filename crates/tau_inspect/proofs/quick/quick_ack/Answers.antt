-- The word, the number of a call, and then its vector.
use Rattle.std.proofs.Common.{ℕ, List, ◌≡◌, ◌<◌, ◌^◌, ◌++◌, ◌∷◌, Bor, length, rules}
use Rattle.tau_report.specs.Lines.{vector_text}
use Rattle.tau_inspect.specs.declared.told.AckLine.{AckLine}
use Rattle.tau_inspect.specs.Bodies.{ack_body, IsAck}
use Rattle.tau_inspect.specs.ReportFor.{IsVector}
use Rattle.tau_inspect.specs.Sections.{IsLine}
use Rattle.tau_inspect.proofs.OnePass.{some_then, ack_line_is}
use Rattle.tau_inspect.proofs.quick.quick_ack.Goals as goal

pub returns-clause-read : goal.returns-clause-read
returns-clause-read c =
    let small : c.args.calls < 2 ^ 32 = search rules in
    let n : ℕ = length c.args.ack.now.lv in
    let text = c.args.text.now in let behind = c.in_ok-number.rest.now in
    let a : AckLine = record { number = c.in_ok-number.number; lv = c.vector.new.lv } in
    some_then (λ (r : Bor (List ℕ)). IsVector n c.vector.new.lv × (behind ≡ vector_text c.vector.new.lv ++ 10 ∷ r.now)) (λ (r : Bor (List ℕ)). IsLine text (ack_body a) r.now × IsAck c.args.calls n a) c.vector.result
    (λ r q. ack_line_is c.args.calls n a text c.in_ok-rest.rest.now behind r.now small c.in_ok-rest.ensures c.in_ok-number.ensures.1 q.1 c.in_ok-number.ensures.0 q.0) c.vector.ensures.read
