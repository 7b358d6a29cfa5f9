use Rattle.std.proofs.Common.{◌≡◌, ℕ, ◌+◌, ◌∙◌, [], subst, length, ap, arith}
use Rattle.tau_base.specs.declared.format.Format.{Format}
use Rattle.tau_base.specs.declared.format.Format.TheVariants.{One}
use Rattle.tau_disk.specs.Disk.{Passes}
use Rattle.tau_stream.specs.Stream.{IsOldOrNew, IsSettled, catalogue_record}
use Rattle.tau_stream.proofs.Heads.{is_head, of_stream}
use Rattle.tau_stream.proofs.Left.{create_stops}
use Rattle.tau_stream.proofs.Catalogues.{catalogue_is, length_block}
use Rattle.tau_stream.proofs.writer.Writer.create.Goals as goal

pub invariant_of-result : goal.invariant_of-result
invariant_of-result g c =
    let text = c.args.catalogue.now in
    let block = c.in-Ok.block in
    let size : length block.items ≡ 10 + length text = length_block text block.items c.in-Ok.ensures.block in
    let long : c.len.result ≡ length block.items = omega (arith, c.len.ensures) in
    record {
      here = λ tells works. omega (arith, long, ap length c.deref.ensures.value, c.in-Ok-begin.ensures.here tells);
      counted = omega (arith, c.in-Ok.ensures.size);
      behind = omega (arith, long, size, c.in-Ok.ensures.size);
      room = omega (arith, long, size, c.requires.text, ap length c.new.ensures.items);
      limit = omega arith;
    }

pub returns-clause-ready : goal.returns-clause-ready
returns-clause-ready g c = λ tells.
    let text = c.args.catalogue.now in
    let size : length c.deref.result.now ≡ c.len.result = omega (arith, c.len.ensures, ap length c.deref.ensures.value) in
    record {
      settled = subst (λ (long : ℕ). IsSettled One c.args.n c.args.j (g.D.Disk.seen c.begin.new.disk) (g.D.Disk.may_leave c.begin.new.disk) (16 + long) (catalogue_record text)) size
          (of_stream One c.args.n c.args.j c.header.result c.header.ensures.format c.header.ensures.names (λ (f : Format) (n j : ℕ). IsSettled f n j (g.D.Disk.seen c.begin.new.disk) (g.D.Disk.may_leave c.begin.new.disk) (16 + length c.deref.result.now) (catalogue_record text))
          (c.in-Ok-begin.ensures.done tells (catalogue_record text) (catalogue_is text c.requires.text) (c.deref.ensures.value ∙ c.in-Ok.ensures.block)));
      counts = c.in-Ok.ensures.size;
    }

pub returns-clause-moments : goal.returns-clause-moments
returns-clause-moments g c = λ tells unborn.
    let text = c.args.catalogue.now in
    of_stream One c.args.n c.args.j c.header.result c.header.ensures.format c.header.ensures.names
    (λ (f : Format) (n j : ℕ). Passes g.D.Disk.moment g.D.Disk.may_leave_since c.args.disk c.begin.new.disk (IsOldOrNew f n j [] (catalogue_record text)))
    (c.begin.ensures.moments tells (catalogue_record text) (catalogue_is text c.requires.text) (c.deref.ensures.value ∙ c.in-Ok.ensures.block) unborn)

pub returns-in_default-begin-clause-moments_err : goal.returns-in_default-begin-clause-moments_err
returns-in_default-begin-clause-moments_err g c = λ tells unborn.
    let text = c.args.catalogue.now in
    of_stream One c.args.n c.args.j c.header.result c.header.ensures.format c.header.ensures.names
    (λ (f : Format) (n j : ℕ). Passes g.D.Disk.moment g.D.Disk.may_leave_since c.args.disk c.begin.new.disk (IsOldOrNew f n j [] (catalogue_record text)))
    (c.begin.ensures.moments tells (catalogue_record text) (catalogue_is text c.requires.text) (c.deref.ensures.value ∙ c.in-Ok.ensures.block) unborn)

pub begin-requires-clause-head : goal.begin-requires-clause-head
begin-requires-clause-head g c = is_head One c.args.n c.args.j c.header.result c.requires.streams c.requires.stream c.header.ensures.bytes c.header.ensures.format c.header.ensures.names

pub returns-in_default-begin-clause-left_err : goal.returns-in_default-begin-clause-left_err
returns-in_default-begin-clause-left_err g c = λ failed tells.
    let text = c.args.catalogue.now in
    create_stops g.D.Disk c.args.n c.args.j text c.header.result c.deref.result.now c.args.disk c.begin.new.disk c.header.ensures.format c.header.ensures.names (catalogue_is text c.requires.text) (c.deref.ensures.value ∙ c.in-Ok.ensures.block) (c.in_default-begin.ensures.left tells)
