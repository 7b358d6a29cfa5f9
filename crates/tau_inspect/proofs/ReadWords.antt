-- What the words of a line spell, and what they do not.
use Rattle.std.proofs.Common.{ℕ, ◌^◌, ◌<◌, ◌≤◌, ◌≡◌, List, ◌++◌, get_or, sym, ap, subst, ◌∙◌, arith}
use Rattle.std.specs.Prelude.{codes, Ok}
use Rattle.std.specs.Fmt.{decimal}
use Rattle.std.proofs.lemmas.Fmt.{decimal_injective}
use Rattle.std.proofs.lemmas.List.{append_cancel_left}
use Rattle.tau_base.specs.declared.limits.TheConstants.{MAX_STEPS}
use Rattle.tau_base.specs.declared.value.Value.TheVariants.{Absent, Int, Text}
use Rattle.tau_proc.specs.declared.reply.Reply.{Reply}
use Rattle.tau_proc.specs.declared.reply.Reply.TheVariants as reply
use Rattle.tau_text.specs.Canonical.{text_word}
use Rattle.tau_text.specs.Spelled.{literal}
use Rattle.tau_text_laws.proofs.Values.{literal_tells}
use Rattle.tau_report.specs.Lines.{reply_text}
use Rattle.tau_inspect.specs.Reading.{IsSmall}
use Rattle.tau_inspect.specs.ReportFor.{IsReply}

pub text_read : (word t : List ℕ) → literal word ≡ Ok (Text t) → (literal (text_word t) ≡ Ok (Text t)) × (codes "text " ++ text_word t ≡ codes "text " ++ word)
text_read word t e =
    let same : text_word t ≡ word = (literal_tells word (Text t) e).same in
    (ap literal same ∙ e, ap (λ (w : List ℕ). codes "text " ++ w) same)

pub step_bad : (word : List ℕ) (step : ℕ) → IsSmall step → decimal step ≡ word → (1 ≤ step → step ≤ MAX_STEPS → ⊥) → (a : Reply) → IsReply a → reply_text a ≡ codes "refused " ++ word → ⊥
step_bad word step small is bad (reply.Refused s) fits e =
    let same : decimal s ≡ word = append_cancel_left (codes "refused ") (decimal s) word e in
    let le : s < 2 ^ 64 = omega (arith, fits.1) in
    let number : s ≡ step = decimal_injective s step le (omega (arith, small)) (same ∙ sym is) in
    bad (subst (λ (n : ℕ). 1 ≤ n) number fits.0) (subst (λ (n : ℕ). n ≤ MAX_STEPS) number fits.1)
step_bad word step small is bad (reply.Ok Absent) fits e = (let first : 110 ≡ 114 = ap (λ (l : List ℕ). get_or l 0 0) e in omega (arith, first))
step_bad word step small is bad (reply.Ok (Int z)) fits e = (let first : 105 ≡ 114 = ap (λ (l : List ℕ). get_or l 0 0) e in omega (arith, first))
step_bad word step small is bad (reply.Ok (Text t)) fits e = (let first : 116 ≡ 114 = ap (λ (l : List ℕ). get_or l 0 0) e in omega (arith, first))

-- a number that is read is the one that is spelled
pub number_same : (k step : ℕ) (word : List ℕ) → k < 2 ^ 63 → IsSmall step → decimal k ≡ word → decimal step ≡ word → k ≡ step
number_same k step word lt small a b = decimal_injective k step (omega (arith, lt)) (omega (arith, small)) (a ∙ sym b)
