-- The word, and then the number of a call.
use Rattle.std.proofs.Common.{ℕ, List, ◌≡◌, ◌<◌, ◌^◌, ◌++◌, ◌∷◌, Bor, rules}
use Rattle.std.specs.Fmt.{decimal}
use Rattle.tau_inspect.specs.Bodies.{order_body}
use Rattle.tau_inspect.specs.ReportFor.{IsCall}
use Rattle.tau_inspect.specs.Sections.{IsLine}
use Rattle.tau_inspect.proofs.OnePass.{some_then, order_line_is}
use Rattle.tau_inspect.proofs.quick.quick_order.Goals as goal

pub returns : goal.returns
returns c =
    let small : c.args.calls < 2 ^ 32 = search rules in
    let text = c.args.text.now in let rest = c.in_ok-rest.rest.now in
    some_then (λ (a : ℕ × Bor (List ℕ)). IsCall c.args.calls a.0 × (rest ≡ decimal a.0 ++ 10 ∷ a.1.now)) (λ (a : ℕ × Bor (List ℕ)). IsLine text (order_body a.0) a.1.now × IsCall c.args.calls a.0) c.call.result
    (λ a q. order_line_is c.args.calls a.0 text rest a.1.now small c.in_ok-rest.ensures q.0 q.1) c.call.ensures
