-- The number of the call, and then the one that it replied.
use Rattle.std.proofs.Common.{ℕ, ℤ, pos, ◌≡◌, ◌++◌, subst, sym, ap, ◌∙◌, arith}
use Rattle.std.specs.Fmt.{decimal}
use Rattle.tau_base.specs.declared.value.Value.TheVariants.{Int}
use Rattle.tau_proc.specs.declared.reply.Reply.TheVariants as reply
use Rattle.tau_report.specs.declared.report.Fate.TheVariants.{Acked}
use Rattle.tau_inspect.specs.Bodies.{fate_body}
use Rattle.tau_inspect.specs.ReportFor.{IsFate}
use Rattle.tau_inspect.specs.Sections.{IsLine}
use Rattle.tau_inspect.proofs.OnePass.{reply_line_is, few_signed}
use Rattle.tau_inspect.proofs.quick.quick_reply.Goals as goal

pub returns : goal.returns
returns c =
    let n : ℕ = c.in_ok-value.value in
    let k : ℕ = c.in_ok-told.told in
    let same : k ≡ c.args.number = omega (arith, c.if-told-number.false) in
    let told = reply_line_is k n c.args.text.now c.in_ok-rest.rest.now c.in_ok-rest-2.rest.now c.in_ok-rest-3.rest.now (omega (arith, c.in_ok-told.ensures.0)) c.in_ok-value.ensures.0 c.in_ok-rest.ensures (c.in_ok-told.ensures.1 ∙ ap (λ l. decimal k ++ l) c.in_ok-rest-2.ensures) (c.in_ok-value.ensures.1 ∙ ap (λ l. decimal n ++ l) c.in_ok-rest-3.ensures) in
    let numbered = subst (λ (j : ℕ). IsLine c.args.text.now (fate_body j (Acked (reply.Ok (Int (pos n))))) c.in_ok-rest-3.rest.now × IsFate (Acked (reply.Ok (Int (pos n))))) same told in
    subst (λ (z : ℤ). IsLine c.args.text.now (fate_body c.args.number (Acked (reply.Ok (Int z)))) c.in_ok-rest-3.rest.now × IsFate (Acked (reply.Ok (Int z)))) (sym (few_signed n c.in_ok-value.ensures.0)) numbered
