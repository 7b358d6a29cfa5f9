use Rattle.std.proofs.Common.{◌≡◌, ◌+◌, ◌++◌, map, take}
use Rattle.std.specs.Prelude.{vec_len, vec_capacity}
use Rattle.tau_model.specs.KeptCommitted.{head_behind}
use Rattle.tau_model.proofs.committed_list.put_heads.Given as goal

abbrev pub invariant-loop-head : goal.invariant-loop-head
invariant-loop-head l = (l.heads.items ≡ l.fn.heads.items ++ map (head_behind l.before) (take l.head-index l.others.items))
    × (vec_len l.heads ≡ vec_len l.fn.heads + l.head-index) × (vec_capacity l.heads ≡ vec_capacity l.fn.heads)
