use Rattle.std.proofs.Common.{◌≡◌, ◌≤◌, ◌++◌, ◌-◌, vec_len}
use Rattle.tau_commands.proofs.source.read_text.Given as goal

abbrev pub invariant-loop-text : goal.invariant-loop-text
invariant-loop-text g l = record {
  within : vec_len l.text ≤ 16777217;
  room : vec_len l.chunk ≡ 65536;
  read : g.S.Source.tells → g.S.Source.left l.fn.source ≡ l.text.items ++ g.S.Source.left l.source;
  later : g.S.Source.faults l.fn.source ≤ g.S.Source.faults l.source;
}

abbrev pub decreases-loop-text : goal.decreases-loop-text
decreases-loop-text g l = 16777217 - vec_len l.text
