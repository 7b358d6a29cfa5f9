use Rattle.std.proofs.Common.{◌*◌, arith}
use Rattle.tau_record.proofs.Spell.{anchor_spells}
use Rattle.tau_record.proofs.encode.anchor_bytes.Goals as goal

pub returns : goal.returns
returns c = λ f vectors. anchor_spells f c.args.lv.now vectors (8 * c.width.result) c.in_ok-out.out.items c.put_lv.new.out.items c.in_ok-put_lv.ensures.places (omega (arith, c.width.ensures.same)) c.in_ok-out.ensures c.in_ok-put_lv.ensures.bytes
