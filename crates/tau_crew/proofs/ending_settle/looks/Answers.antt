use Rattle.std.proofs.Common.{◌∙◌, ◌<◌, subst}
use Rattle.tau_crew.proofs.EndSettles.{same_head, seen_joined}
use Rattle.tau_crew.proofs.ending_settle.looks.Goals as goal
use Rattle.tau_base.proofs.Lists.{got_within}

pub returns-clause-same : goal.returns-clause-same
returns-clause-same g c =
    same_head _ c.args.head.now c.split_clerk-seat.new.head c.join_clerk.new.head c.split_clerk-seat.result c.look_at-are.new.seat c.agrees.ensures c.requires.opened c.requires.clerk c.split_clerk-seat.ensures.split c.look_at-are.ensures.keeps c.join_clerk.ensures.joined

pub returns-clause-all : goal.returns-clause-all
returns-clause-all g c = λ yes j w is.
    seen_joined c.args.desk.now.table.shared.key.value c.args.head.now c.split_clerk-seat.new.head c.join_clerk.new.head c.split_clerk-seat.result c.look_at-are.new.seat j c.split_clerk-seat.ensures.split c.look_at-are.ensures.keeps c.join_clerk.ensures.joined
    ∙ c.look_at-are.ensures.all yes j w (subst (λ (n : _). j < n) c.requires.count (got_within c.args.writers.now.items j w is)) is
