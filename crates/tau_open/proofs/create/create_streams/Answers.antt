use Rattle.std.proofs.Common.{◌++◌, List, map, reverse, sym, subst, arith}
use Rattle.std.proofs.lemmas.Result.{err_from_is_err_and}
use Rattle.tau_stream.specs.declared.writer.Writer.{Writer}
use Rattle.tau_stream.specs.Stream.{catalogue_record}
use Rattle.tau_stream.specs.Writer.{disk_of}
use Rattle.tau_open.specs.Creating.{Stops}
use Rattle.tau_open.proofs.Making.{creating_more, stops}
use Rattle.tau_open.proofs.create.create_streams.Goals as goal

pub returns-in_err-create_next-clause-stopped : goal.returns-in_err-create_next-clause-stopped
returns-in_err-create_next-clause-stopped g c =
    let p = err_from_is_err_and c.from_residual.result c.from_residual.ensures.1 in
    rw (p.1, p.2)
    (subst (λ (ws : List (Writer g.row.D.Denot g.D.Disk)). Stops g.D.Disk c.args.n (catalogue_record c.args.catalogue.now) (reverse c.args.stack.now.items) (map disk_of ws ++ reverse c.create_next.new.stack.items) c.in_err-create_next.field-0.0)
    (sym c.in_err-create_next.ensures.same)
    (stops g.D.Disk c.args.n (catalogue_record c.args.catalogue.now) c.loop-j.j (reverse c.args.stack.now.items) (reverse c.loop-j.stack.items) c.loop-j.writers.items c.loop-j.invariant.0 c.loop-j-test.true (reverse c.create_next.new.stack.items) c.in_err-create_next.field-0.0 c.in_err-create_next.ensures.stopped))

pub loop-j-preserved : goal.loop-j-preserved
loop-j-preserved g c = (
  creating_more g.D.Disk c.args.n (catalogue_record c.args.catalogue.now) c.loop-j.j (reverse c.args.stack.now.items) (reverse c.loop-j.stack.items) (reverse c.create_next.new.stack.items) c.loop-j.writers.items c.create_next.new.writers.items c.loop-j.invariant.0 c.in_ok-create_next.ensures.created,
  omega (arith, c.in_ok-create_next.ensures.more, c.loop-j.invariant.1),
  omega (arith, c.create_next.ensures.len, c.loop-j.invariant.2),
  omega (arith, c.create_next.ensures.capacity, c.loop-j.invariant.3),
  omega (arith, c.create_next.ensures.capacity_writers, c.loop-j.invariant.4),
)
