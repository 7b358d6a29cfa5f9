-- What calls did, kept in one list of rows.
use Rattle.std.specs.Prelude.{◌-◌, ◌≤◌, ◌≡◌, List, ◌++◌, length, take, drop}
use Rattle.tau_base.specs.declared.value.Key.{Key}
use Rattle.tau_base.specs.declared.value.Value.{Value}
use Rattle.tau_proc.specs.Effect.{Effect}
use Rattle.tau_proc.specs.declared.reply.Reply.{Reply}
use Rattle.tau_inspect.specs.declared.executed.Extent.{Extent}

-- what the call did whose rows lie there
abbrev pub done_in : List (Key × Value) → Extent → Effect
done_in rows m = record { reads = take (m.middle - m.from) (drop m.from rows); writes = take (m.past - m.middle) (drop m.middle rows); reply = m.reply }

-- its rows are among these
pub record IsExtent (rows : List (Key × Value)) (m : Extent) : Type 0 where
  pub reads : m.from ≤ m.middle
  pub writes : m.middle ≤ m.past
  pub within : m.past ≤ length rows

-- a call with this effect was gone through: what it read was put after the rows, what it writes is buffered, and it replied
pub record HasRun (e : Effect) (before after buffer : List (Key × Value)) (reply : Reply) : Type 0 where
  pub reads : after ≡ before ++ e.reads
  pub writes : buffer ≡ e.writes
  pub replied : reply ≡ e.reply
