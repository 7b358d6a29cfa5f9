use Rattle.std.proofs.Common.{◌++◌, ◌∙◌, List, ℕ, length, ap}
use Rattle.std.specs.Int.{w64, to_be_bytes}
use Rattle.tau_ckpt.specs.Slot.{head_of}
use Rattle.tau_ckpt.proofs.Rows.{head_put}
use Rattle.tau_ckpt.proofs.spell.put_head.Goals as goal

pub returns-clause-bytes : goal.returns-clause-bytes
returns-clause-bytes c =
    head_put (head_of c.args.value.now) c.args.out.now.items c.extend_from_slice.new.self.items c.extend_from_slice-2.new.self.items c.put_positions.new.out.items c.extend_from_slice-3.new.self.items
    (c.in_ok-extend_from_slice.ensures.items ∙ ap (λ (l : List ℕ). c.args.out.now.items ++ l) c.to_be_bytes.ensures)
    (c.in_ok-extend_from_slice-2.ensures.items ∙ ap (λ (l : List ℕ). c.extend_from_slice.new.self.items ++ l) c.to_be_bytes-2.ensures)
    c.in_ok-put_positions.ensures.bytes
    (c.in_ok-extend_from_slice-3.ensures.items ∙ ap (λ (l : List ℕ). c.put_positions.new.out.items ++ l) (c.to_be_bytes-3.ensures ∙ ap (to_be_bytes w64) (ap length c.rows.ensures)))
