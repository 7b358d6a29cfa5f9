use Rattle.std.proofs.Common.{ap, ◌∙◌}
use Rattle.tau_epoch.specs.Known.{as_marks, vector_of, put_mark}
use Rattle.tau_epoch.proofs.Marks.{insert_put}
use Rattle.tau_epoch.proofs.Epochs.put.Goals as goal

pub returns-clause-ok : goal.returns-clause-ok
returns-clause-ok c =
    ap as_marks c.in-Ok.ensures.entries
    ∙ insert_put c.args.number c.args.lv c.self.inside.known.entries (ap (vector_of c.args.number) c.self.view_is ∙ c.requires)
    ∙ ap (put_mark (record { number = c.args.number; lv = c.args.lv })) c.self.view_is
