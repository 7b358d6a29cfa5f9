-- What became of a call as a list keeps it.
use Rattle.std.specs.Prelude.{Bool, true, false}
use Rattle.tau_base.specs.declared.value.Value.TheVariants as value
use Rattle.tau_proc.specs.declared.reply.Reply.{Reply}
use Rattle.tau_proc.specs.declared.reply.Reply.TheVariants as reply
use Rattle.tau_report.specs.declared.fate.Kept.{Kept}
use Rattle.tau_report.specs.declared.fate.Kept.TheVariants as kept
use Rattle.tau_report.specs.declared.report.Fate.{Fate}
use Rattle.tau_report.specs.declared.report.Fate.TheVariants.{Acked, Unsure, Unrun}

-- of a call that committed with this reply
abbrev pub fate_by : Bool → Reply → Fate
fate_by true r = Acked r
fate_by false r = Unsure r

-- the fate that is kept so
abbrev pub kept_fate : Kept → Fate
kept_fate kept.Unrun = Unrun
kept_fate (kept.Int acknowledged number) = fate_by acknowledged (reply.Ok (value.Int number))
kept_fate (kept.Other acknowledged reply) = fate_by acknowledged reply.value
