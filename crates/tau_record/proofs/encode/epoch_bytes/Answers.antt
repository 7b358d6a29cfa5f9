use Rattle.std.proofs.Common.{◌+◌, ◌*◌, arith}
use Rattle.tau_record.proofs.Spell.{epoch_spells}
use Rattle.tau_record.proofs.encode.epoch_bytes.Goals as goal

pub returns : goal.returns
returns c = λ f vectors. epoch_spells f c.args.number c.args.lv.now vectors (4 + 8 * c.width.result) _ _ _ c.requires (omega arith) c.in_ok-put_lv.ensures.places (omega (arith, c.width.ensures.same))
    c.in_ok-out.ensures (rw c.to_be_bytes.ensures at c.in_ok-extend_from_slice.ensures.items) c.in_ok-put_lv.ensures.bytes
