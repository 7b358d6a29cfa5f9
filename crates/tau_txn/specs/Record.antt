-- The record of an act, and what is kept of a call that has joined the committed ones.
use Rattle.std.specs.Prelude.{Option, Some, None, List, [], ◌∷◌, if◌then◌else◌}
use Rattle.tau_base.specs.declared.value.Key.{Key}
use Rattle.tau_base.specs.declared.value.Value.{Value}
use Rattle.tau_base.specs.declared.value.LogMode.{LogMode}
use Rattle.tau_base.specs.Modes.{is_command}
use Rattle.tau_record.specs.declared.entry.Entry.{Entry}
use Rattle.tau_record.specs.declared.entry.Entry.TheVariants.{Written, Command}
use Rattle.tau_model.specs.History.{Act}
use Rattle.tau_model.specs.declared.committed.Committed.{Committed}
use Rattle.tau_model.specs.declared.committed.Spot.{Spot}
use Rattle.tau_machine.specs.Hands as theory
use Rattle.tau_proc.specs.declared.reply.Want.{Want}
use Rattle.tau_proc.specs.declared.reply.Want.TheVariants as want
use Rattle.tau_proc.specs.Progress.{buffered, next_want}
use Rattle.tau_txn.specs.declared.standing.Standing.{Standing}
use Rattle.tau_txn.specs.declared.standing.Standing.TheVariants.{Running, Quitting, Placed, Freeing, LeftOver}
use Rattle.tau_txn.specs.Hand.{PlainHand}

-- the record of an updating act: what it wrote, or the call itself
abbrev pub entry_of : LogMode → Act theory.Txn → Entry
entry_of mode t =
    if is_command mode then Command t.call.call.number t.call.anchor t.call.place.dep t.call.call.call
    else Written t.call.call.number t.call.anchor t.call.place.dep t.effect.writes

-- what is kept of a call by what its machine wants: it has finished, and has joined the committed ones or writes nothing
abbrev pub spot_by : List (Key × Value) → PlainHand → Option Spot
spot_by [] h = None
spot_by (w ∷ ws) h = Some (record { stream = h.stream; start = h.start; past = h.past; anchor = h.anchor })

abbrev pub kept_joined : Want → PlainHand → Option Committed
kept_joined (want.Finished reply) h = Some (record { number = h.number; reply = reply; dep = h.dep; lv = h.lv; spot = spot_by (buffered h.machine) h })
kept_joined _ h = None

abbrev pub kept_reading : Want → List (Key × Value) → PlainHand → Option Committed
kept_reading (want.Finished reply) [] h = Some (record { number = h.number; reply = reply; dep = h.dep; lv = h.dep; spot = None })
kept_reading _ ws h = None

abbrev pub kept_by : Standing → PlainHand → Option Committed
kept_by Running h = kept_reading (next_want h.machine) (buffered h.machine) h
kept_by Quitting h = None
kept_by Placed h = kept_joined (next_want h.machine) h
kept_by Freeing h = kept_joined (next_want h.machine) h
kept_by LeftOver h = None

abbrev pub kept_of : Option PlainHand → Option Committed
kept_of None = None
kept_of (Some h) = kept_by h.standing h
