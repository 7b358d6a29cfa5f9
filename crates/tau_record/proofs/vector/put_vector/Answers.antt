use Rattle.tau_record.proofs.VectorLaws.{mask_room}
use Rattle.tau_record.proofs.vector.put_vector.Goals as goal

pub put_mask-requires : goal.put_mask-requires
put_mask-requires c = rw c.mask_above.ensures (mask_room c.args.format c.args.base.now c.args.dep.now 0 c.requires.fits)
