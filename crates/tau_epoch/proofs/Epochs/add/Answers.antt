use Rattle.std.proofs.Common.{◌≡◌, sym, ap, ◌∙◌}
use Rattle.std.proofs.lemmas.Result.{on_ok_weaker}
use Rattle.tau_epoch.specs.Epochs.{Mark}
use Rattle.tau_epoch.specs.Known.{vector_of, put_mark}
use Rattle.tau_epoch.proofs.Marks.{put_vector}
use Rattle.tau_epoch.proofs.Epochs.add.Goals as goal

pub returns-in-None-clause-known : goal.returns-in-None-clause-known
returns-in-None-clause-known c =
    let mark : Mark = record { number = c.args.number; lv = c.args.lv } in
    on_ok_weaker c.put.result
    (λ (e : c.put.new.self ≡ put_mark mark c.args.self.now). ap (vector_of c.args.number) e ∙ put_vector mark c.args.self.now (sym c.in-None.ensures))
    c.put.ensures.ok
