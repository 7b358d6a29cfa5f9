use Rattle.std.proofs.Common.{List, Option, ap, ◌++◌, ◌∙◌}
use Rattle.tau_rule.specs.declared.part.Part.{Part}
use Rattle.tau_desk.proofs.opens.lay_all.Goals as goal

pub returns : goal.returns
returns c =
    let boxes = c.in_ok-workers.ensures in
    let anchors = c.in_ok-managers.ensures in
    record {
      shard_slots = c.in_ok-slots.slots.items;
      box_slots = boxes.0;
      anchor_slots = anchors.0;
      have_shards = c.in_ok-slots.ensures;
      have_boxes = boxes.2;
      have_anchors = anchors.2;
      slots_are = anchors.1 ∙ ap (λ (l : List (Option Part)). l ++ anchors.0) boxes.1;
      own_work = boxes.3;
      own_stock = anchors.3;
    }
