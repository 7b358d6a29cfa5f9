use Rattle.std.proofs.Common.{ℕ, ◌-◌, List, ap, ◌∙◌, Vec, Global}
use Rattle.std.specs.Prelude.{slice_set, vec_capacity, vec_len}
use Rattle.tau_core.specs.State.{Plain, plain}
use Rattle.tau_core.proofs.Found.{found_part, part_in}
use Rattle.tau_core.proofs.take_body.swap_body.Goals as goal

pub returns : goal.returns
returns c =
    let p : Plain = plain c.args.state.now in
    let is = found_part c.args.state.now c.args.stream c.index_mut-part.result.now c.part.inside c.requires.sound c.requires.there c.index_mut-part.ensures.value c.part.view_is in
    let room : ℕ = vec_capacity c.swap.new.x - vec_len c.swap.new.x in
    record {
      stream = part_in c.part.inside;
      room = room;
      is = is;
      bytes_is = ap (λ (v : Vec ℕ Global). v.items) c.swap.ensures.y_after;
      after = ap (λ (b : List ℕ). record p { streams = slice_set p.streams c.args.stream (record (part_in c.part.inside) { body = b; room = room }) }) (ap (λ (v : Vec ℕ Global). v.items) c.swap.ensures.x_after ∙ c.clear.ensures.items);
    }
