-- The stop.
use Rattle.std.specs.Prelude.{ℕ, ◌+◌, ◌*◌}
use Rattle.tau_core.specs.declared.state.Load.{Load}
use Rattle.tau_rule.specs.Rule.{part_count}

abbrev pub stop_word : Load → ℕ
stop_word l = 8 * (part_count l + (l.streams + l.streams))
