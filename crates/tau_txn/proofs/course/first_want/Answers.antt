use Rattle.std.proofs.Common.{◌≡◌, true, List, subst, ◌∙◌}
use Rattle.std.specs.FinMap.Entries.{is_sorted}
use Rattle.tau_base.specs.declared.value.Key.{Key}
use Rattle.tau_base.specs.declared.value.Value.{Value}
use Rattle.tau_base.specs.Database.{key_cmp}
use Rattle.tau_txn.proofs.Bridge.{first_is}
use Rattle.tau_txn.proofs.course.first_want.Goals as goal

pub returns : goal.returns
returns c =
    let sorted = subst (λ (ws : List (Key × Value)). is_sorted key_cmp ws ≡ true) c.writes-ascending.ensures.same c.writes-ascending.ensures.ascend in
    first_is c.args.procs.now c.args.call.now c.requires c.list-limits.ensures.keeps c.start-course.result c.start-course.ensures sorted c.copied.result (c.copied.ensures ∙ c.want.ensures)
