use Rattle.std.proofs.Common.{◌+◌, refl, arith}
use Rattle.tau_record.proofs.Spell.{command_spells}
use Rattle.tau_record.proofs.encode.put_command.Goals as goal

pub returns : goal.returns
returns c = λ vectors known. command_spells c.args.format c.args.anchor.now c.args.dep.now c.args.number c.args.anchor_number c.args.call.now vectors (15 + c.mask_size.result + c.parts_size.result + c.args_size.result) _ _ _ _ _
    (record { wide = c.parts_size.ensures.wide; low = c.requires.number; number_fits = omega arith; anchor_fits = omega arith; width = c.requires.width; covers = c.requires.covers; places = c.in_ok-begin_call.ensures.places })
    (omega arith) (rw c.as_slice-args.ensures.value at c.as_slice-args.ensures.fits) (rw c.as_slice-args.ensures.value at c.in_ok-put_args.ensures.fit) (omega (arith, c.mask_size.ensures.exact, c.parts_size.ensures.exact, rw c.as_slice-args.ensures.value at c.args_size.ensures.exact))
    refl c.in_ok-begin_call.ensures.bytes (rw c.to_be_bytes.ensures at c.in_ok-extend_from_slice.ensures.items) (rw c.as_slice-args.ensures.value at c.in_ok-push.ensures.items) (rw c.as_slice-args.ensures.value at c.in_ok-put_args.ensures.bytes) known
