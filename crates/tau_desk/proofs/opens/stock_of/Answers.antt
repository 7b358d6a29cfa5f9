use Rattle.std.proofs.Common.{ap, ◌∙◌, ◌-◌, vec_len, vec_capacity}
use Rattle.tau_outbox.specs.Pieces.{PlainOutbox}
use Rattle.tau_desk.specs.Laid.{stock_at}
use Rattle.tau_core.specs.Plain.{PlainStream}
use Rattle.tau_desk.proofs.opens.stock_of.Goals as goal

pub returns : goal.returns
returns c =
    let room = vec_capacity c.stream.inside.anchors - vec_len c.stream.inside.anchors in
    (room, ap (λ (o : PlainOutbox). record { anchors = c.stream.inside.anchors.items; room = room; own = o; gathered = c.args.gathered }) c.of.ensures ∙ ap (λ (s : PlainStream). stock_at s c.args.gathered room) c.stream.view_is)
