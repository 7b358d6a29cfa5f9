-- Recovery writes the same, however many workers there are.
use Rattle.std.proofs.Common.{List, ◌≡◌, sym, ap, subst, ◌∙◌, Ok, Result}
use Rattle.tau_base.specs.declared.value.Key.{Key}
use Rattle.tau_base.specs.declared.value.Value.{Value}
use Rattle.tau_scan.specs.declared.fault.LogFault.{LogFault}
use Rattle.tau_scan.specs.declared.log.Log.{Log}
use Rattle.tau_report.specs.Recovery.{recover_text}
use Rattle.tau_replay.proofs.Histories.{one_recovery}
use Rattle.tau_commands.specs.Recovery.{IsRecoveryOf}
use Rattle.tau_commands.specs.Same.{OneText, RunsHaveOneText}

abbrev read : Log → Result Log LogFault
read l = Ok l

log_is : (a b : Log) → read a ≡ read b → a ≡ b
log_is a b e = cc

pub one_text : OneText
one_text images log other text words is also agree one two =
    let same : log ≡ other = log_is log other (sym is ∙ also) in
    let second : IsRecoveryOf log words = subst (λ (l : Log). IsRecoveryOf l words) (sym same) two in
    let rows = one_recovery log one.rows second.rows agree one.redone second.redone in
    one.text_is ∙ ap (λ (rs : List (Key × Value)). recover_text log rs) rows ∙ sym second.text_is

pub runs_have_one_text : RunsHaveOneText
runs_have_one_text n mode load run images r one other a b = r.sound.redone.alike one a ∙ sym (r.sound.redone.alike other b)
