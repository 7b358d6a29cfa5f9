use Rattle.std.proofs.Common.{◌+◌, ◌-◌, eqb, length, arith, refl}
use Rattle.std.proofs.lemmas.Result.{err_from_is_err_and}
use Rattle.tau_record.proofs.Joining.{frame_shorter, joined, not_joined}
use Rattle.tau_record.proofs.content.put_record.Goals as goal

pub overflow_sub-past : goal.overflow_sub-past
overflow_sub-past c = omega (arith, frame_shorter (eqb c.args.at 0) c.args.bytes.now c.in_ok-kind.kind c.in_ok-kind.fields.now c.in_ok-kind.after.now (λ i. omega (arith, c.type_inv.bytes i)) c.in_ok-kind.ensures)

pub returns-in_err-put_fields : goal.returns-in_err-put_fields
returns-in_err-put_fields c =
    let p = err_from_is_err_and c.from_residual-in_err-put_fields.result c.from_residual-in_err-put_fields.ensures.1 in
    rw (p.1, p.2) (not_joined c.in_err-put_fields.field-0.0 c.args.format c.args.n c.args.at c.args.named.now.number c.in_ok-kind.kind (c.args.at + (length c.args.bytes.now - length c.in_ok-kind.after.now)) c.args.named.now.vectors.items c.args.bytes.now c.in_ok-kind.fields.now c.in_ok-kind.after.now c.args.placed.now.items c.in_ok-kind.ensures c.in_err-put_fields.ensures)

pub returns : goal.returns
returns c = joined c.args.format c.args.n c.args.at c.args.named.now.number c.put_fields.new.named.number c.in_ok-kind.kind (c.args.at + (length c.args.bytes.now - length c.in_ok-kind.after.now)) c.args.named.now.vectors.items c.put_fields.new.named.vectors.items c.args.bytes.now c.in_ok-kind.fields.now c.in_ok-kind.after.now c.args.placed.now.items c.put_fields.new.placed.items c.in_ok-kind.ensures c.in_ok-put_fields.ensures refl
