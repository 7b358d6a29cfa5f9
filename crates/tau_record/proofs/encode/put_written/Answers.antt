use Rattle.std.proofs.Common.{◌+◌, refl, arith}
use Rattle.tau_record.proofs.Spell.{written_spells}
use Rattle.tau_record.proofs.encode.put_written.Goals as goal

pub returns : goal.returns
returns c = λ vectors known. written_spells c.args.format c.args.anchor.now c.args.dep.now c.args.number c.args.anchor_number c.args.writes.now vectors (14 + c.mask_size.result + c.parts_size.result + c.writes_size.result) _ _ _ _
    (record { wide = c.parts_size.ensures.wide; low = c.requires.number; number_fits = omega arith; anchor_fits = omega arith; width = c.requires.width; covers = c.requires.covers; places = c.in_ok-begin_call.ensures.places })
    c.requires.some c.requires.most c.requires.ascending c.in_ok-put_writes.ensures.fit (omega (arith, c.mask_size.ensures.exact, c.parts_size.ensures.exact, c.writes_size.ensures.exact))
    refl c.in_ok-begin_call.ensures.bytes (rw c.to_be_bytes.ensures at c.in_ok-extend_from_slice.ensures.items) c.in_ok-put_writes.ensures.bytes known
