use Rattle.std.proofs.Common.{◌≡◌, ◌+◌, ◌++◌, map, take, vec_len, vec_capacity}
use Rattle.tau_base.specs.KeptLvList.{mark_behind}
use Rattle.tau_base.proofs.lv_list.put_marks.Given as goal

abbrev pub invariant-loop-mark : goal.invariant-loop-mark
invariant-loop-mark l = (l.marks.items ≡ l.fn.marks.items ++ map (mark_behind l.from) (take l.mark-index l.others.items))
    × (vec_len l.marks ≡ vec_len l.fn.marks + l.mark-index) × (vec_capacity l.marks ≡ vec_capacity l.fn.marks)
